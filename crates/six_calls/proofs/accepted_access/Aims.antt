-- How a read or a write on an accepted image ends, by the answers of its width's and its address's test: refused, or done.
use Rattle.std.proofs.Common.{Option, Some, None, Ok, Err}
use Rattle.basics.proofs.Prelude.{◌≡◌, refl, sym, ap, ◌∙◌, List, [], ℕ, length}
use Rattle.rules.specs.{Access.Width, Access.read_at, Access.write_acts, Device.Call, Device.some, Device.acts_of, Device.acted, Device.step, Device.value, Core.turns}
use Rattle.rules.{specs.Numbering.takes_all, specs.Numbering.value_with, proofs.laws.Steps.read_device, proofs.laws.Steps.write_device, proofs.laws.Numbered.undrained, proofs.laws.Numbered.read_numbers}
use Rattle.images.specs.{Form.Form, Image.decode, Image.numbers_in}
use Rattle.calls.specs.Calls.{no_width, outside, pass, width_test, address_test, access_call, Request, calls, asked_by, buffer_of, ending}
use Rattle.calls.proofs.laws.Outcomes.{call_refused, call_done, no_events, width_refused, address_refused, access_passed}
use Rattle.laws.proofs.laws.Images.{encode_same}
use Rattle.device.specs.{window.Tests.known_view, window.Tests.located_view, map.Views.width_view}
use Rattle.fields.{specs.inplace.Held.Reads, specs.inplace.Held.Writes, specs.inplace.Passed.Passed, proofs.inplace.Passing.here}
use Rattle.answer.specs.{Given.ends, declared.refusals.Refusal.TheVariants.NoWidth, declared.refusals.Refusal.TheVariants.Outside}
use Rattle.rules.specs.Device as device
use Rattle.calls.specs.Calls as asked
use Rattle.device.specs.declared.map.Width as code

module _ {f : Form} {i : List ℕ} (p : Passed f i) (base size address width : ℕ) {k : Option code.Width} (e : known_view k ≡ width_test width) where
  -- ---- refused

  module _ (q : Request) (g : Width → ℕ → Call) (asks : asked_by q ≡ calls (access_call base size address width g)) where
    pub no_width_lem : k ≡ None → ends (Err NoWidth) i (buffer_of q) ≡ ending q i
    no_width_lem u = sym (call_refused q i _ asks p.good no_width (width_refused base size address width g no_width (sym e ∙ ap known_view u)))

    pub no_place : {w : code.Width} → k ≡ Some w → {l : Option ℕ} → located_view address l ≡ address_test base size address width → l ≡ None → ends (Err (Outside address)) i (buffer_of q) ≡ ending q i
    no_place {w} wide h u =
        sym (call_refused q i _ asks p.good (outside address)
        (address_refused base size address width g (width_view w) (outside address) (sym e ∙ ap known_view wide) (sym h ∙ ap (located_view address) u)))

  -- ---- done

  module _ {w : code.Width} (wide : k ≡ Some w) {l : Option ℕ} (g : located_view address l ≡ address_test base size address width) {o : ℕ} (at : l ≡ Some o) where
    aimed : (f : Width → ℕ → Call) → access_call base size address width f ≡ pass (f (width_view w) o)
    aimed f = access_passed base size address width f (width_view w) o (sym e ∙ ap known_view wide) (sym g ∙ ap (located_view address) at)

    pub read_done : (v : ℕ) → Reads i v (λ d. read_at d.core (width_view w) o) → ends (Ok (Some v)) i [] ≡ ending (asked.read base size address width) i
    unfolding value value_with
    read_done v r =
        let c = device.read (width_view w) o in
        call_done (asked.read base size address width) i _ refl p.good c (aimed device.read) (decode i) (numbers_in i) (some v) i []
        (here p).image (sym (read_device (decode i) (width_view w) o)) (sym (read_numbers (decode i) (numbers_in i) (width_view w) o)) (ap some (r (decode i) (numbers_in i) (here p)))
        (no_events (decode i) (numbers_in i) c refl)

    pub write_done : (v : ℕ) {n : ℕ} {j : List ℕ} → length j ≡ length i → Writes i j n (λ c. write_acts c (width_view w) o v) → ends (Ok (Some n)) j [] ≡ ending (asked.write base size address width v) i
    unfolding value value_with step acts_of
    write_done v {n} {j} s r =
        let c = device.write (width_view w) o v in
        call_done (asked.write base size address width v) i _ refl p.good c (aimed (λ w o. device.write w o v)) (acted (decode i) (write_acts (decode i).core (width_view w) o v))
        (takes_all (numbers_in i) (turns (decode i).core (write_acts (decode i).core (width_view w) o v)).made) (some n) j []
        ((r.becomes (decode i) (numbers_in i) (here p)).image ∙ encode_same j i s _ _) (sym (write_device (decode i) (width_view w) o v)) (sym (undrained (decode i) (numbers_in i) c refl))
        (ap some (r.gives (decode i) (numbers_in i) (here p))) (no_events (decode i) (numbers_in i) c refl)
