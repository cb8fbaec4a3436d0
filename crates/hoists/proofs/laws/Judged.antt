-- What the profile says of a call, by the tests that come before it: nothing where the full device refuses, and else the verdict on the device that the image holds.
use Rattle.basics.proofs.Prelude.{◌≡◌, refl, sym, ap, ◌∙◌, Bool, true, false, cond, List, ℕ, ◌<◌, lit<}
use Rattle.rules.specs.{Access.Width, Device.Call}
use Rattle.images.specs.Image.{copy_differs, many_wait, bad_flag, unused_set, ImageTest, image_test, decode}
use Rattle.calls.specs.Calls.{Refusal, outside, no_width, no_input, wrong_length, wrong_contents, no_room, broken, refusal_number, Tested, pass, refuse, on_pass, image_answer, width_test, address_test, Request, read, Asked, afresh, calls, asked_by, Done, performed, ended, ending}
use Rattle.hoists.specs.Profile.{aligned_dword, Verdict, passes, unaligned, unfit, verdict}
use Rattle.hoists.specs.HoistCalls.{said_of, judged, ends_by, hoist_ending}
use Rattle.rules.specs.Device as device
use Rattle.images.specs.Image as image
use Rattle.hoists.proofs.laws.Computed as computed

-- a read is refused with 14 or not at all
abbrev pub is_unfit : Verdict → Bool
is_unfit passes = false
is_unfit unaligned = false
is_unfit unfit = true

pub read_fits : (r : Bool) (base size address width : ℕ) (i : List ℕ) → is_unfit (judged r (asked_by (read base size address width)) i) ≡ false
unfolding judged verdict
read_fits r base size address width i = by (image_test i) (width_test width) (address_test base size address width)
  where
    aligned : (b : Bool) → is_unfit (cond b passes unaligned) ≡ false
    aligned true = refl
    aligned false = refl

    by : (t : ImageTest) (w : Tested Width) (o : Tested ℕ)
        → is_unfit (said_of (on_pass (image_answer t (decode i)) (λ d. on_pass (on_pass w (λ x. on_pass o (λ y. pass (device.read x y)))) (λ c. pass (verdict r d c))))) ≡ false
    by image.accepted (pass x) (pass y) = aligned (aligned_dword x y)
    by image.accepted (pass x) (refuse u) = refl
    by image.accepted (refuse u) o = refl
    by image.wrong_length w o = refl
    by image.wrong_contents w o = refl
    by (image.broken k a) w o = refl

-- no other refusal has 14 or 15
refusal_below : (r : Refusal) → refusal_number r < 14
refusal_below (outside address) = lit< tt
refusal_below no_width = lit< tt
refusal_below no_input = lit< tt
refusal_below wrong_length = lit< tt
refusal_below wrong_contents = lit< tt
refusal_below no_room = lit< tt
refusal_below (broken copy_differs a) = lit< tt
refusal_below (broken many_wait a) = lit< tt
refusal_below (broken bad_flag a) = lit< tt
refusal_below (broken unused_set a) = lit< tt

pub ending_below : (q : Request) (i : List ℕ) → (ending q i).number < 14
ending_below q i = go (performed (asked_by q) i)
  where
    go : (t : Tested Done) → (ended q i t).number < 14
    go (pass y) = lit< tt
    go (refuse r) = refusal_below r

module _ (r : Bool) (q : Request) (i : List ℕ) where
  pub ends_by_lem : {v : Verdict} → judged r (asked_by q) i ≡ v → hoist_ending r q i ≡ ends_by v q i
  ends_by_lem e = ap (λ v. ends_by v q i) e

  module _ (x : Tested Call) (asks : asked_by q ≡ calls x) where
    tested : {t : ImageTest} → image_test i ≡ t → {y : Tested Call} → x ≡ y → judged r (asked_by q) i ≡ said_of (on_pass (image_answer t (decode i)) (λ d. on_pass y (λ c. pass (verdict r d c))))
    unfolding judged
    tested e f = ap (λ k. judged r k i) asks ∙ (λ s. said_of (on_pass (image_answer (e s) (decode i)) (λ d. on_pass (f s) (λ c. pass (verdict r d c)))))

    -- 4, 5, 8 to 11: the call ends as the full device's
    pub image_first : (t : ImageTest) → image_test i ≡ t → (t ≡ image.accepted → ⊥) → judged r (asked_by q) i ≡ passes
    image_first image.accepted e n = absurd (n refl)
    image_first image.wrong_length e n = tested e refl
    image_first image.wrong_contents e n = tested e refl
    image_first (image.broken k a) e n = tested e refl

    -- so with 2 and 1, or 3
    pub refusal_first : (t : ImageTest) → image_test i ≡ t → (u : Refusal) → x ≡ refuse u → judged r (asked_by q) i ≡ passes
    refusal_first image.accepted e u f = tested e f
    refusal_first image.wrong_length e u f = tested e f
    refusal_first image.wrong_contents e u f = tested e f
    refusal_first (image.broken k a) e u f = tested e f

    -- and then the verdict
    pub then_verdict : image_test i ≡ image.accepted → (c : Call) → x ≡ pass c → judged r (asked_by q) i ≡ verdict r (decode i) c
    then_verdict e c f = tested e f

  -- where it refuses, the full device would do the call
  pub refuses_done : (v : Verdict) → judged r (asked_by q) i ≡ v → (v ≡ passes → ⊥) → (ending q i).number ≡ 0
  unfolding judged performed
  refuses_done v e n = go (asked_by q) refl
    where
      by : (t : ImageTest) → image_test i ≡ t → (x : Tested Call) → asked_by q ≡ calls x → (ending q i).number ≡ 0
      by image.accepted f (pass c) asks = rw (asks, f)
      by image.accepted f (refuse u) asks = absurd (n (sym e ∙ refusal_first (refuse u) asks image.accepted f u refl))
      by image.wrong_length f x asks = absurd (n (sym e ∙ tested x asks f refl))
      by image.wrong_contents f x asks = absurd (n (sym e ∙ tested x asks f refl))
      by (image.broken k a) f x asks = absurd (n (sym e ∙ tested x asks f refl))

      go : (k : Asked) → asked_by q ≡ k → (ending q i).number ≡ 0
      go afresh asks = absurd (n (sym e ∙ ap (λ k. judged r k i) asks))
      go (calls x) asks = by (image_test i) refl x asks
