-- What calls drop. A call other than a write offers nothing, and a write says how many of its events were dropped; so what the writes of a history say comes
-- to the number of events dropped (losses-dropped). A write makes 520 events at most, so that its answer area holds the number; and what a host reads in
-- answer areas is what the history's writes say (losses-read).
use Rattle.basics.proofs.Prelude.{◌≡◌, refl, sym, ap, ap₂, ◌∙◌, true, false, cond, true≢false, List, [], ◌∷◌, ◌++◌, ℕ, ◌+◌, ◌≤◌, arith, length, length-append, byte_of, half, test}
use Rattle.rules.specs.{Ring.Ring, Ring.dropped, Ring.ring_run, Core.Core, Core.poll, Core.turns, Access.Width, Access.byte, Access.word, Access.dword, Access.qword, Access.byte_acts, Access.write_acts}
use Rattle.rules.specs.{Device.Device, Device.Call, Device.value, Device.lost, Device.acts_of, Device.acted, Device.offers, Device.draws, Device.step, Numbering.Numbers, Numbering.value_with}
use Rattle.rules.{specs.History.history, proofs.laws.Rings.dropped_append, proofs.laws.Steps.level_offers, proofs.laws.Steps.poll_offers}
use Rattle.laws.proofs.laws.Losses.{lost_acts_few, dword_short, byte_short}
use Rattle.images.specs.Image.{numbers_in}
use Rattle.calls.specs.Calls.{width_test, address_test, pass, Request, calls, asked_by, answered, present_in, value_in, Outcome}
use Rattle.calls.proofs.laws.{Requests.access_is, Requests.asked_is, Requests.by_request, Answers.some_read, Answers.value_read}
use Rattle.histories.specs.Demands.{ring_acts, loss_of, losses_in}
use Rattle.histories.specs.exported.Exported.{Exported, left_by, is_done, is_load, Underway, carried_on, NoLoads, done_call, done_calls, current, Faithful, lost_to, losses_read}
use Rattle.histories.proofs.exported.laws.Chains.{handed, faithful_on, carried_on_lem}
use Rattle.rules.specs.Map as map
use Rattle.rules.specs.Device as device
use Rattle.calls.specs.Calls as request

-- ---- what a history drops

dropped_draws : (r : Ring) (c : Call) → dropped r (draws c) ≡ []
unfolding dropped
dropped_draws r (device.level n b) = refl
dropped_draws r (device.poll n) = refl
dropped_draws r (device.read w o) = refl
dropped_draws r (device.write w o v) = refl
dropped_draws r (device.drain k) = refl

-- a call other than a write offers nothing
call_drops : (d : Device) (c : Call) → length (dropped d.ring (offers (step d c).made)) ≡ loss_of d c
unfolding value step acts_of turns offers dropped
call_drops d (device.level n b) = ap (λ os. length (dropped d.ring os)) (level_offers d n b)
call_drops d (device.poll n) = ap (λ os. length (dropped d.ring os)) (poll_offers d n)
call_drops d (device.read w o) = refl
call_drops d (device.write w o v) = refl
call_drops d (device.drain k) = refl

pub losses_dropped : (d : Device) (cs : List Call) → length (dropped d.ring (ring_acts d cs)) ≡ losses_in d cs
unfolding ring_acts losses_in dropped step acted
losses_dropped d [] = refl
losses_dropped d (c ∷ cs) =
    let os = offers (step d c).made in
    let found = (ring_run d.ring os).after in
    let after = (step d c).after in
    let later = ring_acts after cs in
    let drawn-off = dropped_append found (draws c) later ∙ ap (λ es. es ++ dropped after.ring later) (dropped_draws found c) in
    ap length (dropped_append d.ring os (draws c ++ later) ∙ ap (λ es. dropped d.ring os ++ es) drawn-off)
    ∙ length-append (dropped d.ring os) (dropped after.ring later) ∙ ap₂ ◌+◌ (call_drops d c) (losses_dropped after cs)

losses_append : (d : Device) (xs ys : List Call) → losses_in d (xs ++ ys) ≡ losses_in d xs + losses_in (history d xs).after ys
unfolding losses_in history
losses_append d [] ys = omega arith
losses_append d (c ∷ xs) ys = omega (arith, losses_append (step d c).after xs ys)

-- ---- how many events a write makes at most

write_acts_lem : (c : Core) (w : Width) (o v : ℕ) → length (write_acts c w o v) ≤ 8
unfolding write_acts
write_acts_lem c byte o v = omega (arith, byte_short c o (byte_of v 0))
write_acts_lem c word o v =
    let met = (turns c (byte_acts c o (byte_of v 0))).after in
    simp length-append (omega (arith, byte_short c o (byte_of v 0), byte_short met (o + 1) (byte_of v 1)))
write_acts_lem c dword o v = omega (arith, dword_short o (half false v))
write_acts_lem c qword o v = simp length-append (omega (arith, dword_short o (half false v), dword_short (o + 4) (half true v)))

pub write_loses : (d : Device) (w : Width) (o v : ℕ) → lost d.ring (step d (device.write w o v)).made ≤ 520
unfolding step acts_of
write_loses d w o v =
    let xs = write_acts d.core w o v in
    omega (arith, lost_acts_few d xs, write_acts_lem d.core w o v)

-- ---- what a host reads

-- the answer area of a done write holds a value, and that is the number of events dropped
pub record Tells (d : Device) (c : Call) (area : List ℕ) : Type 0 where
  pub present : present_in area ≡ true
  pub amount : value_in area ≡ loss_of d c

write_tells : (d : Device) (s : Numbers) (w : Width) (o v : ℕ) (a : List ℕ) → Tells d (device.write w o v) (answered 0 (value_with d s (device.write w o v)) a)
unfolding value value_with
write_tells d s w o v a =
    let n = lost d.ring (step d (device.write w o v)).made in
    record { present = some_read 0 a n; amount = value_read 0 a n (omega (arith, write_loses d w o v)) }

pub tells : (d : Device) (s : Numbers) (base size address width v : ℕ) (c : Call) (a : List ℕ) → asked_by (request.write base size address width v) ≡ calls (pass c)
    → Tells d c (answered 0 (value_with d s c) a)
tells d s base size address width v c a e =
    let r = access_is (width_test width) (address_test base size address width) (λ w o. device.write w o v) c (asked_is e) in
    rw r.2 (write_tells d s r.0 r.1 v a)

reads_lost : (d : Device) (s : Numbers) (a : List ℕ) (q : Request) (c : Call) → asked_by q ≡ calls (pass c) → lost_to q (answered 0 (value_with d s c) a) ≡ loss_of d c
reads_lost d s a =
    by_request (λ q c. lost_to q (answered 0 (value_with d s c) a) ≡ loss_of d c) (λ base size address width w o. refl)
    (λ base size address width v w o. let t = write_tells d s w o v a in rw t.present t.amount) (λ n v. refl) (λ n. refl) (λ buffer place. refl)

one_lost : (h : Underway) → Faithful h → (x : Exported) → is_load h.left x ≡ false
    → cond (is_done x) (lost_to x.asked (left_by x).answer) 0 ≡ losses_in (current h) (done_call x)
unfolding losses_in
one_lost h f x n =
    test (is_done x)
    (λ t.
    let r = handed h x f t n in
    let ns = numbers_in x.given in
    let answer : (left_by x).answer ≡ answered 0 (value_with (current h) ns r.call) x.answer = ap (λ (o : Outcome). o.answer) r.left in
    rw (t, r.passes, answer) (omega (arith, reads_lost (current h) ns x.answer x.asked r.call r.passes)))
    (λ t. rw t)

-- what a host adds up is what the writes of the history say
pub losses_read_lem : (h : Underway) → Faithful h → (xs : List Exported) → NoLoads h xs → losses_read xs ≡ losses_in (current h) (done_calls xs)
unfolding losses_in done_calls NoLoads losses_read
losses_read_lem h f [] n = refl
losses_read_lem h f (x ∷ xs) n =
    let e = (carried_on_lem h x f n.0).current in
    let rest = losses_read_lem (carried_on h x) (faithful_on h x f (λ t. absurd (true≢false (sym t ∙ n.0)))) xs n.1 in
    ap₂ ◌+◌ (one_lost h f x n.0) (rest ∙ ap (λ d. losses_in d (done_calls xs)) e) ∙ sym (losses_append (current h) (done_call x) (done_calls xs))
