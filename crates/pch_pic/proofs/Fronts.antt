-- What a front knows of an image by its first tests: its form, that it is accepted, or that its length or its contents refuse it.
use Rattle.std.proofs.Common.{Option, Some, None, Ok, Err}
use Rattle.basics.proofs.Prelude.{◌≡◌, refl, sym, ap, ◌∙◌, Bool, true, List, ◌++◌, ℕ, ◌-◌, ◌≤◌, arith, eqb, eq-eqb, ne_eqb, length, take, drop, take-append-drop, put_mid, part, Bytes}
use Rattle.rules.specs.{Ring.drawn, Device.Call, Device.none, Device.some}
use Rattle.images.specs.{Form.Form, Form.known, Form.form_of, Image.count_in}
use Rattle.calls.specs.Calls.{Tested, Request, calls, asked_by, buffer_of, place_of, answered, leaves, outcome}
use Rattle.image.specs.{Shown.form_view, Shown.form_known, head.Good.Headed, head.Good.head_good, quick.Quiet.Quiet, quick.Quiet.Kept}
use Rattle.image.proofs.{head.Orders.no_form, head.Orders.bad_contents, bodies.Orders.accepts}
use Rattle.fields.{specs.inplace.Passed.Passed, proofs.inplace.Passing.long}
use Rattle.answer.specs.declared.refusals.Refusal.TheVariants.{WrongLength, WrongContents}
use Rattle.answer.proofs.{accepted.Refused.by_head, refusals.Ends.by_refusal, fronts.Told.told, fronts.Told.told_behind}
use Rattle.drain.{specs.drains.Drained.Drains, proofs.drains.Drawing.drains}
use Rattle.six_calls.{specs.reset_drain.Waits.Waits, proofs.reset_drain.Whole.drain_done, proofs.Arms.formed, proofs.Arms.quick_passed, proofs.Arms.waits_passed}
use Rattle.calls.specs.Calls as asked
use Rattle.image.specs.declared.form.Form as code
use Rattle.image.specs.declared.head.HeadFault.TheVariants as head

module _ (i : List ℕ) where
  -- in an arm of a form that was handed on
  module _ {x y : code.Form} (d : Headed (Ok x) i) (same : x ≡ y) where
    pub arm : Headed (Ok y) i
    arm = (d.0 ∙ ap (λ z. known (form_view z)) same, ap (λ z. head_good (form_view z) i) (sym same) ∙ d.1)

    -- few wait, and the rules are kept: it is accepted
    pub few_passed : Bytes i → {r : ℕ} → Kept (form_view y) i r → r ≡ 0 → Passed (form_view y) i
    few_passed b q z = record { bytes = b; good = accepts i (form_view y) arm.0 arm.1 (q z); known = arm.0 }

  -- in an arm of the form that the length tells
  module _ {k : Option code.Form} (g : form_known k ≡ form_of (length i)) {x y : code.Form} (e : k ≡ Some x) (same : x ≡ y) where
    pub at_once : Bytes i → {r : ℕ} → Quiet (form_view y) i r → r ≡ 0 → Passed (form_view y) i
    at_once b q z = quick_passed i b (form_view y) (formed i k x e g y same) _ q z

    pub headed : {r : ℕ} → eqb r 0 ≡ head_good (form_view y) i → r ≡ 0 → Headed (Ok y) i
    headed good z = (formed i k x e g y same, sym good ∙ eq-eqb _ 0 z)

    pub seen : Bytes i → {n : ℕ} {r : Bool} → Waits n (form_view y) i r → r ≡ true → Passed (form_view y) i
    seen b {n} {r} q z = waits_passed i b (form_view y) (formed i k x e g y same) n r q z

-- 4 and 5: what a call leaves that the length or the contents refuse
module _ (q : Request) (i a : List ℕ) (roomy : 16 ≤ length a) (within : place_of q ≤ length (buffer_of q)) {t : Tested Call} (asks : asked_by q ≡ calls t) where
  module _ {k : Option code.Form} (g : form_known k ≡ form_of (length i)) where
    pub no_length : k ≡ None → {r : ℕ} {b : List ℕ} → (r ≡ 4) × (b ≡ answered 4 none a) → leaves r i b (buffer_of q) ≡ outcome q i a
    no_length u tell = told i a roomy (Err WrongLength) tell q within (by_refusal q i asks WrongLength (by_head i head.WrongLength (no_form i k g u)))

    pub no_contents : {x y : code.Form} → k ≡ Some x → x ≡ y → {n : ℕ} → eqb n 0 ≡ head_good (form_view y) i → (n ≡ 0 → ⊥) → {r : ℕ} {b : List ℕ} → (r ≡ 5) × (b ≡ answered 5 none a)
        → leaves r i b (buffer_of q) ≡ outcome q i a
    no_contents {x} {y} e same {n} good ne tell =
        told i a roomy (Err WrongContents) tell q within
        (by_refusal q i asks WrongContents (by_head i head.WrongContents (bad_contents i (form_view y) (formed i k x e g y same) (sym good ∙ ne_eqb n 0 ne))))

-- ---- a drain that is done: of an image in which nothing waits, where every byte stays, and of one in which one waits, with room for it

module _ {f : Form} {i : List ℕ} (p : Passed f i) where
  drains_nothing : count_in f i ≡ 0 → (entry : List ℕ) → Drains i i entry entry 0
  unfolding drawn
  drains_nothing none-waits entry = drains f i (long p) refl (sym none-waits) entry (omega arith) (λ d s h q. refl) (λ d s h q. h)

  module _ (a : List ℕ) (roomy : 16 ≤ length a) (ev : List ℕ) (place : ℕ) where
    -- the part of a buffer from a place on, put back as it was
    back : put_mid place (length ev - place) ev (part place (length ev - place) ev) ≡ ev
    back = ap (λ l. take place ev ++ l) (take-append-drop (length ev - place) (drop place ev)) ∙ take-append-drop place ev

    module _ (within : place ≤ length ev) {r : ℕ} {b : List ℕ} where
      pub drained : {n : ℕ} → (r ≡ 0) × (b ≡ answered 0 (some n) a) → {j : List ℕ} → length j ≡ length i → {out : List ℕ} → Drains i j (part place (length ev - place) ev) out n
          → leaves r j b (put_mid place (length ev - place) ev out) ≡ outcome (asked.drain ev place) i a
      drained {n} tell same d = told_behind i a roomy (Ok (Some n)) tell ev place within (drain_done p (part place (length ev - place) ev) same d)

      pub nothing_drained : count_in f i ≡ 0 → (r ≡ 0) × (b ≡ answered 0 (some 0) a) → leaves r i b ev ≡ outcome (asked.drain ev place) i a
      nothing_drained none-waits tell = ap (leaves r i b) (sym back) ∙ drained tell refl (drains_nothing none-waits (part place (length ev - place) ev))
