-- How many of the events made a ring drops: acts after acts drop the sum, and no write drops more than it makes, at most 65 for each of its acts.
use Rattle.basics.proofs.Prelude.{◌≡◌, refl, ap, ◌∙◌, Bool, true, false, List, [], ◌∷◌, ◌++◌, map, ℕ, zero, suc, ◌+◌, ◌-◌, ◌*◌, ◌%◌, ◌≤◌, arith, ltb, length, length-append, byte_of, with_byte, on, from, inputs, only, put, without, with_half, test}
use Rattle.rules.specs.Lines.{Lines, Made, with_mask, with_irr, event, pending_in, served_in, serve, enter, leave, newly_unmasked, newly_masked, polled, raised, lowered, cleared, masked}
use Rattle.rules.specs.Ring.{capacity, Ring, RingAct, offer, draw, dropped_by, dropped, ring_step, ring_run}
use Rattle.rules.specs.Core.{Core, CoreTurn, Move, Store, Act, poll, raise, lower, clear, set_mask, move, set_isr, store, set_vector, moved, line_turn, turn, turns}
use Rattle.rules.specs.Map.{Register, Cell, in_byte_area, in_routes, in_vectors, cell_at}
use Rattle.rules.specs.{Access.read_dword, Access.register_acts, Access.entry_acts, Access.cell_acts, Access.dword_acts, Access.byte_acts, Device.Device, Device.offers, Device.acted, Device.lost}
use Rattle.rules.proofs.laws.{Rings.dropped_append, Acts.turns_append, Acts.offers_append}
use Rattle.rules.specs.Map as registers

-- ---- in two parts

pub lost_append : (r : Ring) (ms ns : List Made) → lost r (ms ++ ns) ≡ lost r ms + lost (ring_run r (offers ms)).after ns
lost_append r ms ns =
    ap (λ (xs : List RingAct). length (dropped r xs)) (offers_append ms ns)
    ∙ ap length (dropped_append r (offers ms) (offers ns)) ∙ length-append (dropped r (offers ms)) (dropped (ring_run r (offers ms)).after (offers ns))

-- how many events acts drop
abbrev pub losses : Device → List Act → ℕ
losses d xs = lost d.ring (turns d.core xs).made

pub lost_acts : (d : Device) (xs ys : List Act) → losses d (xs ++ ys) ≡ losses d xs + losses (acted d xs) ys
unfolding acted
lost_acts d xs ys =
    ap (λ (t : CoreTurn). lost d.ring t.made) (turns_append d.core xs ys)
    ∙ lost_append d.ring (turns d.core xs).made (turns (turns d.core xs).after ys).made

-- ---- at most

-- of k inputs at most k
pub from_few : (n k : ℕ) (f : ℕ → Bool) → length (from n k f) ≤ k
unfolding from
from_few n zero f = omega arith
from_few n (suc k) f = test (f n) (λ t. rw t (omega (arith, from_few (suc n) k f))) (λ t. rw t (omega (arith, from_few (suc n) k f)))

map_length : {A B : Type 0} (f : A → B) (xs : List A) → length (map f xs) ≡ length xs
map_length f [] = refl
map_length f (x ∷ xs) = ap suc (map_length f xs)

dropped_few : (r : Ring) (xs : List RingAct) → length (dropped r xs) ≤ length xs
unfolding dropped
dropped_few r [] = omega arith
dropped_few r (a ∷ xs) = omega (arith, length-append (dropped_by r a) (dropped (ring_step r a).after xs), one_few a, dropped_few (ring_step r a).after xs)
  where
    one_few : (a : RingAct) → length (dropped_by r a) ≤ 1
    one_few (offer e) = test (ltb (length r.waiting) capacity) (λ t. rw t (omega arith)) (λ t. rw t (omega arith))
    one_few (draw k) = omega arith

offers_few : (ms : List Made) → length (offers ms) ≤ length ms
unfolding offers
offers_few [] = omega arith
offers_few (m ∷ ms) = test m.offered (λ t. rw t (omega (arith, offers_few ms))) (λ t. rw t (omega (arith, offers_few ms)))

pub lost_few : (r : Ring) (ms : List Made) → lost r ms ≤ length ms
lost_few r ms = omega (arith, dropped_few r (offers ms), offers_few ms)

-- one input enters, all 64 leave
pub enter_few : (vs : List ℕ) (o : Bool) (f : ℕ → Bool) (l : Lines) → length (enter vs o f l).made ≤ 1
enter_few vs o f l = serve_few (inputs (pending_in f l))
  where
    serve_few : (ns : List ℕ) → length (serve vs o l ns).made ≤ 1
    serve_few [] = omega arith
    serve_few (n ∷ ns) = omega arith

pub events_few : (e : ℕ → Made) (f : ℕ → Bool) → length (map e (inputs f)) ≤ 64
events_few e f = omega (arith, map_length e (inputs f), from_few 0 64 f)

move_few : (vs : List ℕ) (l : Lines) (m : Move) → length (moved vs l m).made ≤ 65
unfolding moved polled raised lowered cleared masked
move_few vs l (poll n) = omega (arith, enter_few vs false (only n) l)
move_few vs l (raise n) = omega (arith, enter_few vs false (only n) (with_irr l (put l.irr n)))
move_few vs l (lower n) = omega (arith, events_few (event vs false false) (served_in (only n) (with_irr l (without l.irr (only n)))))
move_few vs l (clear b) = omega (arith, events_few (event vs true false) (served_in (on b) (with_irr l (without l.irr (on b)))))
move_few vs l (set_mask h v) =
    let new = with_half h l.mask v in
    let one = enter vs true (newly_unmasked l.mask new) (with_mask l new) in
    omega (
      arith,
      length-append one.made (leave vs true (newly_masked l.mask new) one.after).made,
      enter_few vs true (newly_unmasked l.mask new) (with_mask l new),
      events_few (event vs true false) (served_in (newly_masked l.mask new) one.after),
    )

act_few : (c : Core) (a : Act) → length (turn c a).made ≤ 65
unfolding line_turn
act_few c (move m) = move_few c.vectors c.lines m
act_few c (set_isr h v) = omega arith
act_few c (store s) = omega arith
act_few c (set_vector n v) = omega arith

-- and so many acts at most 65 times as many
pub acts_few : (c : Core) (xs : List Act) → length (turns c xs).made ≤ 65 * length xs
unfolding turns
acts_few c [] = omega arith
acts_few c (a ∷ xs) = omega (arith, length-append (turn c a).made (turns (turn c a).after xs).made, act_few c a, acts_few (turn c a).after xs)

pub lost_acts_few : (d : Device) (xs : List Act) → losses d xs ≤ 65 * length xs
lost_acts_few d xs = omega (arith, lost_few d.ring (turns d.core xs).made, acts_few d.core xs)

-- a route or vector byte, a half of ISR or of a plain register makes none
pub entry_quiet : (c : Core) (o v : ℕ) → (turns c (entry_acts o v)).made ≡ []
unfolding entry_acts turns line_turn
entry_quiet c o v = test (in_routes o) (λ t. rw t) (λ t. rw t (test (in_vectors o) (λ u. rw u) (λ u. rw u)))

pub isr_quiet : (c : Core) (h : Bool) (v : ℕ) → (turns c (set_isr h v ∷ [])).made ≡ []
unfolding turns line_turn
isr_quiet c h v = refl

pub store_quiet : (c : Core) (s : Store) → (turns c (store s ∷ [])).made ≡ []
unfolding turns line_turn
store_quiet c s = refl

-- ---- a Dword or a Byte has four acts at most

entry_short : (o v : ℕ) → length (entry_acts o v) ≤ 1
unfolding entry_acts
entry_short o v = test (in_routes o) (λ t. rw t (omega arith)) (λ t. rw t (test (in_vectors o) (λ u. rw u (omega arith)) (λ u. rw u (omega arith))))

register_short : (r : Register) (h : Bool) (v : ℕ) → length (register_acts r h v) ≤ 1
register_short registers.id h v = omega arith
register_short registers.mask h v = omega arith
register_short registers.clear h v = omega arith
register_short registers.irr h v = omega arith
register_short registers.isr h v = omega arith
register_short (registers.plain p) h v = omega arith

cell_short : (o v : ℕ) (x : Cell) → length (cell_acts o v x) ≤ 4
unfolding cell_acts
cell_short o v (registers.half_of r h) = omega (arith, register_short r h v)
cell_short o v registers.bytes =
    simp length-append (omega (arith, entry_short o (byte_of v 0), entry_short (o + 1) (byte_of v 1), entry_short (o + 2) (byte_of v 2), entry_short (o + 3) (byte_of v 3)))
cell_short o v registers.nothing = omega arith

pub dword_short : (o v : ℕ) → length (dword_acts o v) ≤ 4
unfolding dword_acts
dword_short o v = cell_short o v (cell_at o)

pub byte_short : (c : Core) (o v : ℕ) → length (byte_acts c o v) ≤ 4
unfolding byte_acts
byte_short c o v =
    test (in_byte_area o) (λ t. rw t (omega (arith, entry_short o v)))
    (λ t. rw t (dword_short (o - o % 4) (with_byte (read_dword c (o - o % 4)) (o % 4) v)))
