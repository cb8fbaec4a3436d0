-- What a request asks. One that passes its tests is a call of the device with the request's own numbers: `by-request` is the one split over requests, which all
-- that is said of a passed request cites.
use Rattle.basics.proofs.Prelude.{◌≡◌, sym, not, List, ℕ, ◌-◌, ◌/◌, arith, eqb, ltb, length, test}
use Rattle.rules.specs.{Access.Width, Device.Call, Numbering.drained_length}
use Rattle.calls.specs.Calls.{Refusal, Tested, pass, refuse, on_pass, input_call, width_test, address_test, Request, calls, asked_by}
use Rattle.rules.specs.Device as device
use Rattle.calls.specs.Calls as request

-- the tests' answers: a refusal is no pass, and a pass gives one thing
pub never : {A B : Type 0} (r : Refusal) (y : A) → refuse r ≡ pass y → B
never r y e = absurd (let z : ◌≡◌ {A = ℕ} 0 1 = cc in omega arith)

pub passed : {A : Type 0} {x y : A} → pass x ≡ pass y → x ≡ y
passed e = cc

pub asked_is : {t : Tested Call} {c : Call} → calls t ≡ calls (pass c) → t ≡ pass c
asked_is e = cc

-- an access that passed its tests, and a call on an input that passed its test
pub access_is : (t : Tested Width) (u : Tested ℕ) (f : Width → ℕ → Call) (c : Call) → on_pass t (λ w. on_pass u (λ o. pass (f w o))) ≡ pass c
    → (w : Width) × (o : ℕ) × (c ≡ f w o)
access_is (pass w) (pass o) f c e = (w, o, sym (passed e))
access_is (pass w) (refuse r) f c e = never r c e
access_is (refuse r) u f c e = never r c e

pub input_is : (n : ℕ) (x c : Call) → input_call n x ≡ pass c → c ≡ x
input_is n x c e = test (ltb n 64) (λ t. sym (passed (rw t at e))) (λ t. never request.no_input c (rw t at e))

-- what holds of each request with the call that it is
pub by_request : (P : Request → Call → Type 0)
    → ((base size address width : ℕ) (w : Width) (o : ℕ) → P (request.read base size address width) (device.read w o))
    → ((base size address width v : ℕ) (w : Width) (o : ℕ) → P (request.write base size address width v) (device.write w o v))
    → ((n v : ℕ) → P (request.level n v) (device.level n (not (eqb v 0))))
    → ((n : ℕ) → P (request.poll n) (device.poll n))
    → ((buffer : List ℕ) (place : ℕ) → P (request.drain buffer place) (device.drain ((length buffer - place) / drained_length)))
    → (q : Request) (c : Call) → asked_by q ≡ calls (pass c) → P q c
by_request P r w l p d request.reset c e = absurd (let z : ◌≡◌ {A = ℕ} 0 1 = cc in omega arith)
by_request P r w l p d (request.read base size address width) c e =
    let a = access_is (width_test width) (address_test base size address width) device.read c (asked_is e) in
    rw a.2 (r base size address width a.0 a.1)
by_request P r w l p d (request.write base size address width v) c e =
    let a = access_is (width_test width) (address_test base size address width) (λ x o. device.write x o v) c (asked_is e) in
    rw a.2 (w base size address width v a.0 a.1)
by_request P r w l p d (request.level n v) c e = rw (input_is n (device.level n (not (eqb v 0))) c (asked_is e)) (l n v)
by_request P r w l p d (request.poll n) c e = rw (input_is n (device.poll n) c (asked_is e)) (p n)
by_request P r w l p d (request.drain buffer place) c e = rw (sym (passed (asked_is e))) (d buffer place)
