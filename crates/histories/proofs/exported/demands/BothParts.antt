-- 02, C-15, of exported calls: 'for Word and Qword it is the sum of both parts'. A done Qword write says what two Dword writes say, the one at its address and the one four on, the second on the image that
-- the first left; a done Word write so what two Byte writes say.
use Rattle.basics.proofs.Prelude.{◌≡◌, refl, sym, ap, ap₂, subst, ◌∙◌, true, false, cond, ◌&&◌, and-eq-true_iff, [], ◌∷◌, append-nil, ℕ, ◌+◌, ◌-◌, ◌/◌, ◌^◌, ◌<◌, ◌≤◌, min, arith, leb, length, le-leb, leb-true, Bytes, test}
use Rattle.rules.specs.{Access.Width, Access.byte, Access.word, Access.dword, Access.qword, Device.Device, Device.Call, Device.amount, Device.step, Device.value, History.history}
use Rattle.rules.proofs.demands.Losses.{qword_tells_both, word_tells_both}
use Rattle.images.specs.Image.{accepted, image_test, decode}
use Rattle.calls.specs.Calls.{pass, refuse, on_pass, outside, calls, asked_by, width_test, address_test, access_call, performed, answer_length, value_in, outcome, AnswerRoom}
use Rattle.calls.specs.Window.{inside, offset}
use Rattle.calls.proofs.laws.{Outcomes.access_passed, Requests.never, Requests.asked_is}
use Rattle.histories.specs.Demands.{losses_in}
use Rattle.histories.specs.exported.Exported.{Exported, left_by, is_done, is_reset, call_of, Underway, carried_on, carried_through, NoLoads, done_call, done_calls, at_load}
use Rattle.histories.proofs.exported.laws.Chains.{faithful_at_load, handed, own_image, done_call_lem}
use Rattle.histories.proofs.exported.demands.{FromCalls.image_holds_history, LeavesAccepted.leaves_accepted, Losses.write_tells}
use Rattle.rules.specs.Device as device
use Rattle.calls.specs.Calls as request

-- ---- one write

module _ (x : Exported) (base size address width v : ℕ) (q : x.asked ≡ request.write base size address width v) where
  -- with an accepted image, an access that passes, and room it is done
  done_if : (c : Call) → image_test x.given ≡ accepted → access_call base size address width (λ w o. device.write w o v) ≡ pass c → AnswerRoom x.answer → is_done x ≡ true
  unfolding outcome performed
  done_if c good asks room = rw (q, le-leb answer_length (length x.answer) room, good, asks)

  -- its call, and what it says
  its_call : (c : Call) → access_call base size address width (λ w o. device.write w o v) ≡ pass c → is_done x ≡ true → done_call x ≡ c ∷ []
  its_call c asks t = (λ s. cond (t s) (call_of (asked_by (q s))) []) ∙ ap (λ u. call_of (calls u)) asks

  says : (w : Width) (o : ℕ) → access_call base size address width (λ w o. device.write w o v) ≡ pass (device.write w o v) → is_done x ≡ true
      → value_in (left_by x).answer ≡ amount (value (decode x.given) (device.write w o v))
  unfolding losses_in
  says w o asks t = (write_tells x base size address width v q t).1 ∙ ap (losses_in (decode x.given)) (its_call (device.write w o v) asks t) ∙ omega arith

-- what a done write leaves, loaded, is the device after its call
left_device : (x : Exported) (c : Call) → Bytes x.given → image_test x.given ≡ accepted → is_done x ≡ true → is_reset (asked_by x.asked) ≡ false → done_call x ≡ c ∷ [] → decode (left_by x).image ≡ (step (decode x.given) c).after
unfolding carried_through NoLoads done_calls history
left_device x c b good t on is =
    let h = at_load x.given in
    let f = faithful_at_load x.given b good in
    let n = own_image x t on in
    let left : (carried_on h x).left ≡ (left_by x).image = ap (λ (u : Underway). u.left) (handed h x f t n).carried in
    ap decode (sym left) ∙ image_holds_history h f (x ∷ []) (n, tt) ∙ ap (λ cs. (history (decode x.given) cs).after) (append-nil (done_call x) ∙ is)

-- ---- two parts

-- both parts are done, and what x says is the sum of what they say
pub record BothParts (x y z : Exported) : Type 0 where
  pub first_done : is_done y ≡ true
  pub second_done : is_done z ≡ true
  pub sum : value_in (left_by x).answer ≡ value_in (left_by y).answer + value_in (left_by z).answer

-- a write of the width `long` is two of the width `short`
module _ (base size address long short v next : ℕ) (w part : Width) (whole : width_test long ≡ pass w) (half_of_lem : width_test short ≡ pass part) (twice : long ≡ short + short)
    (both : (d : Device) (o : ℕ) → amount (value d (device.write w o v)) ≡ amount (value d (device.write part o v)) + amount (value (step d (device.write part o v)).after (device.write part (o + short) next)))
    (x y z : Exported) (asks_x : x.asked ≡ request.write base size address long v) (done : is_done x ≡ true) (bytes : Bytes x.given)
    (asks-y : y.asked ≡ request.write base size address short v) (given-y : y.given ≡ x.given) (room-y : AnswerRoom y.answer)
    (asks-z : z.asked ≡ request.write base size (address + short) short next) (given-z : z.given ≡ (left_by y).image) (room-z : AnswerRoom z.answer) where
  its_accepted : image_test x.given ≡ accepted
  its_accepted = (done_call_lem (at_load x.given) x done (ap (λ k. is_reset (asked_by k)) asks_x)).accepted

  -- x is inside, and so are both parts
  lies : inside base size address long ≡ true
  lies =
      let r = done_call_lem (at_load x.given) x done (ap (λ k. is_reset (asked_by k)) asks_x) in
      let asks = asked_is (sym (ap asked_by asks_x) ∙ r.passes) in
      test (inside base size address long) (λ t. t)
      (λ t. never (outside address) r.call (sym (ap₂ (λ a b. on_pass a (λ k. on_pass b (λ o. pass (device.write k o v)))) whole (outside_is t)) ∙ asks))
    where
      outside_is : inside base size address long ≡ false → address_test base size address long ≡ refuse (outside address)
      outside_is t = ap (λ b. cond b (pass (offset base address)) (refuse (outside address))) t

  inside_at : (a : ℕ) → address ≤ a → a + short ≤ address + long → address_test base size a short ≡ pass (offset base a)
  inside_at a l m =
      let r = (and-eq-true_iff (leb base address) (leb (address + long) (min (base + size) (2 ^ 64 - 1)))).0 lies in
      let low = leb-true base address r.0 in
      let high = leb-true (address + long) (min (base + size) (2 ^ 64 - 1)) r.1 in
      let top = min (base + size) (2 ^ 64 - 1) in
      ap₂ (λ p q. cond (p && q) (pass (offset base a)) (refuse (outside a))) (le-leb base a (omega (arith, low, l))) (le-leb (a + short) top (omega (arith, high, m)))

  whole_passes : access_call base size address long (λ k o. device.write k o v) ≡ pass (device.write w (offset base address) v)
  whole_passes = access_passed base size address long (λ k o. device.write k o v) w (offset base address) whole (ap (λ b. cond b (pass (offset base address)) (refuse (outside address))) lies)

  first_passes : access_call base size address short (λ k o. device.write k o v) ≡ pass (device.write part (offset base address) v)
  first_passes = access_passed base size address short (λ k o. device.write k o v) part (offset base address) half_of_lem (inside_at address (omega arith) (omega (arith, twice)))

  second_passes : access_call base size (address + short) short (λ k o. device.write k o next) ≡ pass (device.write part (offset base address + short) next)
  second_passes =
      let r = (and-eq-true_iff (leb base address) (leb (address + long) (min (base + size) (2 ^ 64 - 1)))).0 lies in
      let place : offset base (address + short) ≡ offset base address + short = omega (arith, leb-true base address r.0) in
      access_passed base size (address + short) short (λ k o. device.write k o next) part (offset base address + short) half_of_lem
      (inside_at (address + short) (omega arith) (omega (arith, twice)) ∙ ap pass place)

  parts : BothParts x y z
  parts =
      let i = x.given in
      let d = decode i in
      let o = offset base address in
      let first_done_lem = done_if y base size address short v asks-y (device.write part o v) (ap image_test given-y ∙ its_accepted) first_passes room-y in
      let its = its_call y base size address short v asks-y (device.write part o v) first_passes first_done_lem in
      let good-y = ap image_test given-y ∙ its_accepted in
      let bytes-y = subst Bytes (sym given-y) bytes in
      let fine = leaves_accepted y.given bytes-y good-y y.asked (ap (λ k. is_reset (asked_by k)) asks-y) y.answer in
      let second_done_lem = done_if z base size (address + short) short next asks-z (device.write part (o + short) next) (ap image_test given-z ∙ fine.1) second_passes room-z in
      let met : decode z.given ≡ (step d (device.write part o v)).after = ap decode given-z ∙ left_device y (device.write part o v) bytes-y good-y first_done_lem (ap (λ k. is_reset (asked_by k)) asks-y) its ∙ ap (λ j. (step (decode j) (device.write part o v)).after) given-y in
      let whole_says = says x base size address long v asks_x w o whole_passes done in
      let first_says = says y base size address short v asks-y part o first_passes first_done_lem ∙ ap (λ j. amount (value (decode j) (device.write part o v))) given-y in
      let second-says = says z base size (address + short) short next asks-z part (o + short) second_passes second_done_lem ∙ ap (λ e. amount (value e (device.write part (o + short) next))) met in
      record { first_done = first_done_lem; second_done = second_done_lem; sum = whole_says ∙ both d o ∙ sym (ap₂ ◌+◌ first_says second-says) }

-- A done Qword write says the sum of what two Dword writes say, at its address and four on.
pub qword_says_both : (base size address v : ℕ) → v < 2 ^ 64 → (x y z : Exported) → x.asked ≡ request.write base size address 8 v → is_done x ≡ true → Bytes x.given
    → y.asked ≡ request.write base size address 4 v → y.given ≡ x.given → AnswerRoom y.answer
    → z.asked ≡ request.write base size (address + 4) 4 (v / 2 ^ 32) → z.given ≡ (left_by y).image → AnswerRoom z.answer → BothParts x y z
qword_says_both base size address v h x y z = parts base size address 8 4 v (v / 2 ^ 32) qword dword refl refl refl (λ d o. ap amount (qword_tells_both d o v h)) x y z

-- A done Word write says the sum of what two Byte writes say, at its address and one on.
pub word_says_both : (base size address v : ℕ) → (x y z : Exported) → x.asked ≡ request.write base size address 2 v → is_done x ≡ true → Bytes x.given
    → y.asked ≡ request.write base size address 1 v → y.given ≡ x.given → AnswerRoom y.answer
    → z.asked ≡ request.write base size (address + 1) 1 (v / 256) → z.given ≡ (left_by y).image → AnswerRoom z.answer → BothParts x y z
word_says_both base size address v x y z = parts base size address 2 1 v (v / 256) word byte refl refl refl (λ d o. ap amount (word_tells_both d o v)) x y z
