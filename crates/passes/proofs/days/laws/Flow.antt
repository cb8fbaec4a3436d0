-- Events offered, dropped, waiting and drained, over a call and over a day; and the inputs that made them.
use Rattle.basics.proofs.Prelude.{◌≡◌, refl, sym, ap, subst, ◌∙◌, Bool, true, false, not, List, [], ◌∷◌, ℕ, ◌+◌, arith, ltb, length, length-append, ltb-true, ltb-false, test}
use Rattle.rules.specs.{Lines.Made, Ring.Ring, Ring.ring_step, Ring.ring_run, Ring.kept, Core.poll, Core.turns, Account.tally}
use Rattle.rules.specs.Device.{Device, WellFormed, Call, level, read, write, drain, offers, draws, acts_of, acted, step}
use Rattle.rules.proofs.laws.{Rings.offered_room, Rings.offered_full, Rings.fifo, Counts.tally_append}
use Rattle.histories.proofs.laws.WellFormed.{step_well}
use Rattle.plain.specs.{Events.Note, Events.waiting, Plain.Engine}
use Rattle.plain.specs.Sequence.{Item, call, load, refused, takes, plain_after, ring_with, notes_of}
use Rattle.plain.proofs.laws.{Same.Run, Same.Same, Following.stepped, Following.counted_run, Following.like_call, Following.sized, Following.same_counted}
use Rattle.sheets.specs.{Day.moments, Sheet.is_returned, Sheet.is_dropped}
use Rattle.passes.specs.{Slots.NoLoad, days.Accounts.drained_in}
use Rattle.rules.specs.Device as device

-- an event that was offered, and one that was dropped
abbrev pub was_offered : Note → Bool
was_offered x = not (is_returned x.fate)

abbrev pub was_dropped : Note → Bool
was_dropped x = is_dropped x.fate

-- ---- one call

notes_flow : (k : ℕ) (r : Ring) (ms : List Made) → tally was_offered (notes_of k r ms) + length r.waiting ≡ tally was_dropped (notes_of k r ms) + length (ring_run r (offers ms)).after.waiting
unfolding tally notes_of offers ring_run ring_step
notes_flow k r [] = refl
notes_flow k r (m ∷ ms) = go m.offered refl (notes_flow k (ring_with r m) ms)
  where
    next : Ring
    next = ring_with r m

    go : (b : Bool) → m.offered ≡ b
        → tally was_offered (notes_of k (ring_with r m) ms) + length (ring_with r m).waiting ≡ tally was_dropped (notes_of k (ring_with r m) ms) + length (ring_run (ring_with r m) (offers ms)).after.waiting
        → tally was_offered (notes_of k r (m ∷ ms)) + length r.waiting ≡ tally was_dropped (notes_of k r (m ∷ ms)) + length (ring_run r (offers (m ∷ ms))).after.waiting
    go false e rest = let q = (rw e at rest) in rw e (omega (arith, q))
    go true e rest =
        let q = (rw e at rest) in
        test (ltb (length r.waiting) 16)
        (λ t. let size = ap (λ (z : Ring). length z.waiting) (offered_room r (record { vector = m.vector; asserted = m.asserted }) (ltb-true _ 16 t)) ∙ length-append r.waiting _ in
        rw (e, t) (omega (arith, q, size)))
        (λ t. let size = ap (λ (z : Ring). length z.waiting) (offered_full r (record { vector = m.vector; asserted = m.asserted }) (ltb-false _ 16 t)) in
        rw (e, t) (omega (arith, q, size)))

draws_keep : (r : Ring) (c : Call) → kept r (draws c) ≡ []
unfolding kept
draws_keep r (level n b) = refl
draws_keep r (device.poll n) = refl
draws_keep r (read w o) = refl
draws_keep r (write w o v) = refl
draws_keep r (drain k) = refl

call_flow : (k : ℕ) (d : Device) (c : Call) → let ns = notes_of k d.ring (step d c).made in
    tally was_offered ns + length d.ring.waiting ≡ tally was_dropped ns + (length (step d c).after.ring.waiting + length (step d c).drained)
unfolding step acted
call_flow k d c =
    let ms = (turns d.core (acts_of d.core c)).made in
    let r = (ring_run d.ring (offers ms)).after in
    let through = ap length (fifo r (draws c)) ∙ length-append (ring_run r (draws c)).drained (ring_run r (draws c)).after.waiting in
    let whole = length-append r.waiting (kept r (draws c)) ∙ ap (λ es. length r.waiting + length es) (draws_keep r c) in
    let none : length r.waiting + 0 ≡ length r.waiting = omega arith in
    omega (arith, notes_flow k d.ring ms, through, whole, none)

-- ---- a day

-- what was offered so far was dropped, waits, or was drained
pub record Flows (ns : List Note) (waits : ℕ) (drained : ℕ) : Type 0 where
  pub is : tally was_offered ns ≡ tally was_dropped ns + waits + drained

pub day_flows : (xs : List Item) (e : Engine) (r : Run) (n : ℕ) → Same e r → WellFormed r.device → NoLoad xs → Flows r.notes (length r.device.ring.waiting) n
    → Flows (plain_after e xs).history (length (waiting (plain_after e xs).queue)) (n + drained_in (moments e xs))
unfolding plain_after moments drained_in
day_flows [] e r n x w l h =
    let z : n + 0 ≡ n = omega arith in
    subst (λ (m : ℕ). Flows e.history (length (waiting e.queue)) m) (sym z)
    (record { is = ap (tally was_offered) x.tail.notes ∙ h.is ∙ (λ i. tally was_dropped (sym x.tail.notes i) + length (sym x.tail.waits i) + n) })
day_flows (call c ∷ xs) e r n x w l h =
    let a = like_call e r x (sized w) c in
    let new = notes_of r.call r.device.ring (step r.device c).made in
    let out = ap length a.drained in
    let more : n + (length (takes e (call c)).drained + drained_in (moments (takes e (call c)).after xs)) ≡ n + length (takes e (call c)).drained + drained_in (moments (takes e (call c)).after xs) = omega arith in
    let next = day_flows xs (takes e (call c)).after (stepped r c) (n + length (takes e (call c)).drained) a.after (step_well r.device c w) l
    (record { is = omega (arith, tally_append was_offered r.notes new, tally_append was_dropped r.notes new, call_flow r.call r.device c, out, h.is) })
    in
    subst (λ (m : ℕ). Flows (plain_after (takes e (call c)).after xs).history (length (waiting (plain_after (takes e (call c)).after xs).queue)) m) (sym more) next
day_flows (load d ∷ xs) e r n x w l h = absurd l
day_flows (refused ∷ xs) e r n x w l h =
    let more : n + (0 + drained_in (moments (takes e refused).after xs)) ≡ n + drained_in (moments (takes e refused).after xs) = omega arith in
    let next = day_flows xs (takes e refused).after (counted_run r) n (same_counted e r x) w l h in
    subst (λ (m : ℕ). Flows (plain_after (takes e refused).after xs).history (length (waiting (plain_after (takes e refused).after xs).queue)) m) (sym more) next
