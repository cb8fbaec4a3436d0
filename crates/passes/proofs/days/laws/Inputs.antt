-- Every event is of one of the 64 inputs, so what is counted for each of them adds up to what is counted of all.
use Rattle.basics.proofs.Prelude.{◌≡◌, refl, ◌∙◌, Bool, true, false, cond, ◌&&◌, List, [], ◌∷◌, ◌++◌, map, ℕ, zero, suc, ◌+◌, ◌<◌, ◌≤◌, arith, eqb, eqb-true, eqb-false, ne_eqb, from, inputs, on, only, put, without, with_half, test, first_has}
use Rattle.passes.proofs.laws.Finishing.{nearer}
use Rattle.rules.specs.Lines.{Lines, Made, event, with_mask, with_irr, pending_in, served_in, serve, enter, leave, newly_unmasked, newly_masked, polled, raised, lowered, cleared, masked}
use Rattle.rules.specs.Ring.{Ring}
use Rattle.rules.specs.Core.{Core, Act, Move, move, set_isr, store, set_vector, poll, raise, lower, clear, set_mask, moved, line_turn, turn, turns}
use Rattle.rules.specs.{Account.tally, Device.acts_of, Device.step}
use Rattle.plain.specs.{Events.Note, Sequence.Item, Sequence.call, Sequence.load, Sequence.refused, Sequence.ring_with, Sequence.notes_of, Sequence.Ported, Sequence.ported_follows, Sequence.ported_after}
use Rattle.passes.specs.Slots.{NoLoad}

-- ---- every event is of an input

abbrev Few : List Made → Type 0
Few [] = Unit {0}
Few (m ∷ ms) = (m.input < 64) × Few ms

abbrev pub FewNotes : List Note → Type 0
FewNotes [] = Unit {0}
FewNotes (x ∷ xs) = (x.input < 64) × FewNotes xs

few_append : (ms ns : List Made) → Few ms → Few ns → Few (ms ++ ns)
few_append [] ns h g = g
few_append (m ∷ ms) ns h g = (h.0, few_append ms ns h.1 g)

notes_append : (xs ys : List Note) → FewNotes xs → FewNotes ys → FewNotes (xs ++ ys)
notes_append [] ys h g = g
notes_append (x ∷ xs) ys h g = (h.0, notes_append xs ys h.1 g)

few_from : (vs : List ℕ) (o b : Bool) (f : ℕ → Bool) (j k : ℕ) → j + k ≤ 64 → Few (map (event vs o b) (from j k f))
unfolding from
few_from vs o b f j zero h = tt
few_from vs o b f j (suc k) h =
    let rest = few_from vs o b f (suc j) k (omega arith) in
    test (f j) (λ t. rw t (omega arith, rest)) (λ t. rw t rest)

few_serve : (vs : List ℕ) (o : Bool) (f : ℕ → Bool) (l : Lines) (ns : List ℕ) → inputs (pending_in f l) ≡ ns → Few (serve vs o l ns).made
few_serve vs o f l [] e = tt
few_serve vs o f l (m ∷ ns) e = (omega (arith, (first_has 0 64 (pending_in f l) m ns e).1), tt)

few_enter : (vs : List ℕ) (o : Bool) (f : ℕ → Bool) (l : Lines) → Few (enter vs o f l).made
few_enter vs o f l = few_serve vs o f l (inputs (pending_in f l)) refl

few_leave : (vs : List ℕ) (o : Bool) (f : ℕ → Bool) (l : Lines) → Few (leave vs o f l).made
few_leave vs o f l = few_from vs o false (served_in f l) 0 64 (omega arith)

few_move : (vs : List ℕ) (l : Lines) (m : Move) → Few (moved vs l m).made
unfolding moved polled raised lowered cleared masked
few_move vs l (poll m) = few_enter vs false (only m) l
few_move vs l (raise m) = few_enter vs false (only m) (with_irr l (put l.irr m))
few_move vs l (lower m) = few_leave vs false (only m) (with_irr l (without l.irr (only m)))
few_move vs l (clear b) = few_leave vs true (on b) (with_irr l (without l.irr (on b)))
few_move vs l (set_mask h v) =
    let new = with_half h l.mask v in
    let one = enter vs true (newly_unmasked l.mask new) (with_mask l new) in
    few_append one.made _ (few_enter vs true (newly_unmasked l.mask new) (with_mask l new)) (few_leave vs true (newly_masked l.mask new) one.after)

few_acts : (c : Core) (xs : List Act) → Few (turns c xs).made
unfolding turns line_turn
few_acts c [] = tt
few_acts c (a ∷ xs) = few_append (turn c a).made _ (one a) (few_acts (turn c a).after xs)
  where
    one : (a : Act) → Few (turn c a).made
    one (move m) = few_move c.vectors c.lines m
    one (set_isr h v) = tt
    one (store s) = tt
    one (set_vector m v) = tt

few_notes : (k : ℕ) (r : Ring) (ms : List Made) → Few ms → FewNotes (notes_of k r ms)
unfolding notes_of
few_notes k r [] h = tt
few_notes k r (m ∷ ms) h = (h.0, few_notes k (ring_with r m) ms h.1)

pub few_history : (xs : List Item) (p : Ported) → NoLoad xs → FewNotes p.history → FewNotes (ported_after p xs).history
unfolding ported_after step
few_history [] p l h = h
few_history (call c ∷ xs) p l h =
    few_history xs (ported_follows p (call c)) l
    (notes_append p.history _ h (few_notes p.call p.device.ring (turns p.device.core (acts_of p.device.core c)).made (few_acts p.device.core (acts_of p.device.core c))))
few_history (load d ∷ xs) p l h = absurd l
few_history (refused ∷ xs) p l h = few_history xs (ported_follows p refused) l h

-- ---- what is counted for each input

unfoldable pub sum_below : ℕ → (ℕ → ℕ) → ℕ
sum_below zero g = 0
sum_below (suc k) g = sum_below k g + g k

sum_both : (k : ℕ) (f g : ℕ → ℕ) → sum_below k (λ n. f n + g n) ≡ sum_below k f + sum_below k g
unfolding sum_below
sum_both zero f g = refl
sum_both (suc k) f g = omega (arith, sum_both k f g)

sum_none : (k : ℕ) → sum_below k (λ n. 0) ≡ 0
unfolding sum_below
sum_none zero = refl
sum_none (suc k) = omega (arith, sum_none k)

-- one input has it
hit_none : (b : Bool) (i k : ℕ) → k ≤ i → sum_below k (λ n. cond (b && eqb i n) 1 0) ≡ 0
unfolding sum_below
hit_none b i zero h = refl
hit_none true i (suc k) h = rw (ne_eqb i k (λ e. omega (arith, e))) (omega (arith, hit_none true i k (omega arith)))
hit_none false i (suc k) h = omega (arith, hit_none false i k (omega arith))

hit_one : (b : Bool) (i k : ℕ) → i < k → sum_below k (λ n. cond (b && eqb i n) 1 0) ≡ cond b 1 0
unfolding sum_below
hit_one b i zero h = absurd (omega arith)
hit_one true i (suc k) h =
    test (eqb i k)
    (λ t. rw t (omega (arith, hit_none true i k (omega (arith, eqb-true i k t)))))
    (λ t. rw t (omega (arith, hit_one true i k (nearer i k (eqb-false i k t) h))))
hit_one false i (suc k) h = omega (arith, sum_none k)

pub all_of_each : (p : Note → Bool) (h : List Note) → FewNotes h → sum_below 64 (λ n. tally (λ x. p x && eqb x.input n) h) ≡ tally p h
unfolding tally
all_of_each p [] l = sum_none 64
all_of_each p (x ∷ h) l =
    sum_both 64 (λ n. cond (p x && eqb x.input n) 1 0) (λ n. tally (λ y. p y && eqb y.input n) h)
    ∙ (λ i. hit_one (p x) x.input 64 l.0 i + all_of_each p h l.1 i)
