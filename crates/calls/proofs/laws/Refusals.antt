-- Refusal 7 comes first and alone: of the tests behind it none refuses with that number. And no refusal has the number of a done call.
use Rattle.basics.proofs.Prelude.{◌≡◌, refl, false, not, List, ℕ, arith, eqb, ltb, length, eqb-false, test}
use Rattle.rules.specs.{Access.Width, Device.Device, Device.Call}
use Rattle.calls.specs.Window.{inside}
use Rattle.calls.specs.Calls.{Refusal, outside, no_width, no_input, wrong_length, wrong_contents, no_room, broken, fault_number, refusal_number, Tested, pass, refuse, on_pass, image_answer, input_call, width_test, address_test, access_call, Request, Asked, afresh, calls, asked_by, reset_as, performed}
use Rattle.calls.specs.Untouched.{IsDone}
use Rattle.images.specs.Form.{Known, unknown, known, form_of}
use Rattle.images.specs.Image.{Fault, copy_differs, many_wait, bad_flag, unused_set, ImageTest, image_test, decode}
use Rattle.rules.specs.Device as device
use Rattle.images.specs.Image as image
use Rattle.calls.specs.Calls as request

-- a refusal has a number that says so
pub refusal_not_done : (r : Refusal) → IsDone (refusal_number r) → ⊥
refusal_not_done (outside address) e = omega (arith, e)
refusal_not_done no_width e = omega (arith, e)
refusal_not_done no_input e = omega (arith, e)
refusal_not_done wrong_length e = omega (arith, e)
refusal_not_done wrong_contents e = omega (arith, e)
refusal_not_done no_room e = omega (arith, e)
refusal_not_done (broken copy_differs p) e = omega (arith, e)
refusal_not_done (broken many_wait p) e = omega (arith, e)
refusal_not_done (broken bad_flag p) e = omega (arith, e)
refusal_not_done (broken unused_set p) e = omega (arith, e)

-- 2 before 1: a width that is none is told, though the address is outside
width_first : (f : Width → ℕ → Call) → access_call 0 0x400 0x400 3 f ≡ refuse no_width
width_first f = refl

abbrev NotSeven : {A : Type 0} → Tested A → Type 0
NotSeven (pass x) = Unit {0}
NotSeven (refuse r) = eqb (refusal_number r) 7 ≡ false

handed_up : {A B : Type 0} (t : Tested A) (f : A → Tested B) → NotSeven t → ((x : A) → NotSeven (f x)) → NotSeven (on_pass t f)
handed_up (pass x) f u v = v x
handed_up (refuse r) f u v = u

width_not_seven : (w : ℕ) → NotSeven (width_test w)
width_not_seven w =
    test (eqb w 1) (λ e. rw e tt)
    (λ e. rw e (test (eqb w 2) (λ f. rw f tt) (λ f. rw f (test (eqb w 4) (λ g. rw g tt) (λ g. rw g (test (eqb w 8) (λ k. rw k tt) (λ k. rw k)))))))

access_not_seven : (base size address width : ℕ) (f : Width → ℕ → Call) → NotSeven (access_call base size address width f)
access_not_seven base size address width f =
    handed_up (width_test width) _ (width_not_seven width)
    (λ w. handed_up (address_test base size address width) _ (test (inside base size address width) (λ e. rw e tt) (λ e. rw e)) (λ o. tt))

input_not_seven : (n : ℕ) (c : Call) → NotSeven (input_call n c)
input_not_seven n c = test (ltb n 64) (λ e. rw e tt) (λ e. rw e)

fault_not_seven : (k : Fault) → eqb (fault_number k) 7 ≡ false
fault_not_seven copy_differs = refl
fault_not_seven many_wait = refl
fault_not_seven bad_flag = refl
fault_not_seven unused_set = refl

image_not_seven : (t : ImageTest) (d : Device) → NotSeven (image_answer t d)
image_not_seven image.accepted d = tt
image_not_seven image.wrong_length d = refl
image_not_seven image.wrong_contents d = refl
image_not_seven (image.broken k a) d = fault_not_seven k

abbrev NeverSeven : Asked → Type 0
NeverSeven afresh = Unit {0}
NeverSeven (calls t) = NotSeven t

asked_not_seven : (q : Request) → NeverSeven (asked_by q)
asked_not_seven request.reset = tt
asked_not_seven (request.read base size address width) = access_not_seven base size address width device.read
asked_not_seven (request.write base size address width v) = access_not_seven base size address width (λ w o. device.write w o v)
asked_not_seven (request.level n v) = input_not_seven n (device.level n (not (eqb v 0)))
asked_not_seven (request.poll n) = input_not_seven n (device.poll n)
asked_not_seven (request.drain events place) = tt

reset_not_seven : (k : Known) → NotSeven (reset_as k)
reset_not_seven unknown = refl
reset_not_seven (known f) = tt

not_seven : (k : Asked) (i : List ℕ) → NeverSeven k → NotSeven (performed k i)
unfolding performed
not_seven afresh i u = reset_not_seven (form_of (length i))
not_seven (calls t) i u = handed_up (image_answer (image_test i) (decode i)) _ (image_not_seven (image_test i) (decode i)) (λ d. handed_up t _ u (λ c. tt))

pub refused_not_seven : (q : Request) (i : List ℕ) (r : Refusal) → performed (asked_by q) i ≡ refuse r → refusal_number r ≡ 7 → ⊥
refused_not_seven q i r e = eqb-false (refusal_number r) 7 (rw e at (not_seven (asked_by q) i (asked_not_seven q)))
