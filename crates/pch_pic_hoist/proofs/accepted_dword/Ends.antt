-- How a read or a write under the profile ends on an accepted image, by the answers of its tests: as the full device's, or with 14 or 15.
use Rattle.std.proofs.Common.{Option, Some, None, Err}
use Rattle.basics.proofs.Prelude.{◌≡◌, refl, sym, ap, ◌∙◌, Bool, true, false, true≢false, List, ℕ, ◌%◌, eqb-true}
use Rattle.rules.specs.{Access.Width, Access.byte, Access.word, Access.dword, Access.qword, Device.Device, Device.Call}
use Rattle.images.specs.{Form.Form, Image.decode}
use Rattle.calls.specs.Calls.{no_width, outside, width_test, address_test, access_call, Request, calls, asked_by, buffer_of}
use Rattle.calls.proofs.laws.Outcomes.{width_refused, address_refused, access_passed}
use Rattle.device.specs.{window.Tests.known_view, window.Tests.located_view, map.Views.width_view}
use Rattle.fields.specs.inplace.Passed.{Passed}
use Rattle.answer.specs.{Given.ends, declared.refusals.Refusal.TheVariants.NoWidth, declared.refusals.Refusal.TheVariants.Outside}
use Rattle.six_calls.proofs.accepted_access.Aims.{no_width_lem, no_place}
use Rattle.hoists.specs.{Profile.aligned_dword, Profile.forbidden, Profile.Verdict, Profile.passes, Profile.unaligned, Profile.unfit, Profile.verdict, HoistCalls.ends_by, HoistCalls.hoist_ending}
use Rattle.hoists.proofs.laws.Judged.{ends_by_lem, refusal_first, then_verdict}
use Rattle.rules.specs.Device as device
use Rattle.images.specs.Image as image
use Rattle.device.specs.declared.map.Width as code

-- an aligned Dword is a Dword, at an offset that 4 divides
pub aligned_dword_lem : (w : Width) (o : ℕ) → aligned_dword w o ≡ true → (w ≡ dword) × (o % 4 ≡ 0)
aligned_dword_lem byte o e = absurd (true≢false (sym e))
aligned_dword_lem word o e = absurd (true≢false (sym e))
aligned_dword_lem dword o e = (refl, eqb-true (o % 4) 0 e)
aligned_dword_lem qword o e = absurd (true≢false (sym e))

-- ---- verdicts

module _ (r : Bool) (d : Device) (w : Width) (o : ℕ) where
  pub read_unaligned : aligned_dword w o ≡ false → verdict r d (device.read w o) ≡ unaligned
  unfolding verdict
  read_unaligned e = rw e

  pub read_passes : aligned_dword w o ≡ true → verdict r d (device.read w o) ≡ passes
  unfolding verdict
  read_passes e = rw e

  module _ (v : ℕ) where
    pub write_unaligned : aligned_dword w o ≡ false → verdict r d (device.write w o v) ≡ unaligned
    unfolding verdict
    write_unaligned e = rw e

    pub write_unfit : aligned_dword w o ≡ true → forbidden r d o v ≡ true → verdict r d (device.write w o v) ≡ unfit
    unfolding verdict
    write_unfit e f = rw (e, f)

    pub write_passes : aligned_dword w o ≡ true → forbidden r d o v ≡ false → verdict r d (device.write w o v) ≡ passes
    unfolding verdict
    write_passes e f = rw (e, f)

-- ---- endings

module _ {f : Form} {i : List ℕ} (p : Passed f i) (r : Bool) (base size address width : ℕ) {k : Option code.Width} (e : known_view k ≡ width_test width)
    (q : Request) (g : Width → ℕ → Call) (asks : asked_by q ≡ calls (access_call base size address width g)) where
  -- 2 and 1 come first
  pub width_first : k ≡ None → ends (Err NoWidth) i (buffer_of q) ≡ hoist_ending r q i
  width_first u =
      no_width_lem p base size address width e q g asks u
      ∙ sym (ends_by_lem r q i (refusal_first r q i _ asks image.accepted p.good no_width (width_refused base size address width g no_width (sym e ∙ ap known_view u))))

  module _ {w : code.Width} (wide : k ≡ Some w) {l : Option ℕ} (h : located_view address l ≡ address_test base size address width) where
    pub place_first : l ≡ None → ends (Err (Outside address)) i (buffer_of q) ≡ hoist_ending r q i
    place_first u =
        no_place p base size address width e q g asks wide h u
        ∙ sym (ends_by_lem r q i (refusal_first r q i _ asks image.accepted p.good (outside address)
        (address_refused base size address width g (width_view w) (outside address) (sym e ∙ ap known_view wide) (sym h ∙ ap (located_view address) u))))

    -- and then the verdict decides
    pub judged_as : {o : ℕ} → l ≡ Some o → {v : Verdict} → verdict r (decode i) (g (width_view w) o) ≡ v → ends_by v q i ≡ hoist_ending r q i
    judged_as {o} at t =
        let aimed = access_passed base size address width g (width_view w) o (sym e ∙ ap known_view wide) (sym h ∙ ap (located_view address) at) in
        sym (ends_by_lem r q i (then_verdict r q i _ asks p.good (g (width_view w) o) aimed ∙ t))
