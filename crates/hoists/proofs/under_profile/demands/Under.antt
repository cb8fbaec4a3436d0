-- Calls under the profile as exported calls of the full device: a done one leaves what that one leaves, and is one that demand 3 admits.
use Rattle.basics.proofs.Prelude.{◌≡◌, refl, sym, ap, ap₂, subst, ◌∙◌, Bool, true, false, cond, not, true≢false, and-false, List, [], ◌∷◌, ◌++◌, map, ℕ, ◌≤◌, arith, eqb, leb, lit≤, length, eqb-true, le-leb, leb-true, test}
use Rattle.rules.specs.{Device.Device, Device.Call, History.history}
use Rattle.images.specs.{Form.Known, Form.unknown, Form.known, Form.form_of, Image.image_test, Image.accepted, Image.decode}
use Rattle.calls.specs.Calls.{pass, width_test, address_test, Request, calls, asked_by, reset_as, performed, answer_length, answered, buffer_of, written, Outcome, leaves, ended, ending, settled, outcome}
use Rattle.calls.proofs.laws.Requests.{access_is, input_is, asked_is, passed}
use Rattle.histories.specs.Premises.{Along, Admitted}
use Rattle.histories.specs.exported.Exported.{Underway, carried_on, NoLoads, done_call, done_calls, current, Faithful, returned_to, drained_to, returned_by, drained_by}
use Rattle.histories.proofs.exported.laws.Chains.{left_holds, handed, done_call_lem, carried_on_lem, faithful_kept}
use Rattle.hoists.specs.Profile.{running, Verdict, passes, unaligned, unfit, verdict}
use Rattle.hoists.specs.HoistCalls.{judged, ends_by, hoist_ending, hoist_room, hoist_read, hoist_write, hoist_reset}
use Rattle.hoists.specs.Hoisted.{Asks, resets, reads, writes, ends, levels, polls, drains, Hoisted, unphased, left_under, left_by, is_done, request_of, exported_as, plain_call, plain_calls, returned_of, drained_of, returned_under, drained_under}
use Rattle.hoists.proofs.{laws.Judged.then_verdict, under_profile.demands.Admits.passed_is_admitted}
use Rattle.hoists.proofs.under_profile.demands.Answers.{done_write_is_full, done_read_is_full}
use Rattle.rules.specs.Device as device
use Rattle.calls.specs.Calls as request
use Rattle.histories.specs.exported.Exported as full

-- ---- one call

-- a reset has no events
reset_events : (i : List ℕ) → (ending request.reset i).events ≡ []
unfolding performed written
reset_events i = go (form_of (length i))
  where
    go : (k : Known) → (ended request.reset i (reset_as k)).events ≡ []
    go unknown = refl
    go (known f) = refl

-- A reset with a phase lent is the full device's, but for the phase.
pub reset_is_full : (i p a : List ℕ) → 1 ≤ length p → unphased (hoist_reset i p a) ≡ outcome request.reset i a
unfolding hoist_reset outcome
reset_is_full i p a h =
    let e = ending request.reset i in
    test (leb answer_length (length a))
    (λ t. rw (t, le-leb 1 (length p) h) (λ s. leaves e.number e.image (answered e.number e.value a) (sym (reset_events i) s)))
    (λ t. rw t)

done_reset_is_full : (i p a : List ℕ) → eqb (hoist_reset i p a).number 0 ≡ true → unphased (hoist_reset i p a) ≡ outcome request.reset i a
unfolding hoist_reset
done_reset_is_full i p a d =
    test (leb 1 (length p)) (λ t. reset_is_full i p a (leb-true 1 (length p) t)) (λ t. absurd (true≢false (sym d ∙ rw (t, and-false (leb answer_length (length a))))))

-- A done call leaves, in its number and in every byte but the phase's, what the full device's call leaves that it is.
first : Request → List Request → Request
first q [] = q
first q (y ∷ ys) = y

head : (y z : Request) → y ∷ [] ≡ z ∷ [] → y ≡ z
unfolding first
head y z e = ap (first y) e

module _ (i p a : List ℕ) (q : Request) where
  is_full : (k : Asks) → eqb (left_under i p a k).number 0 ≡ true → request_of k ≡ q ∷ [] → left_under i p a k ≡ outcome q i a
  is_full resets d e = done_reset_is_full i p a d ∙ ap (λ y. outcome y i a) (head request.reset q e)
  is_full (reads base size address width) d e =
      done_read_is_full base size address width i a (eqb-true (hoist_read base size address width i a).number 0 d) ∙ ap (λ y. outcome y i a) (head (request.read base size address width) q e)
  is_full (writes base size address width v) d e =
      done_write_is_full base size address width v i p a (eqb-true (hoist_write base size address width v i p a).number 0 d) ∙ ap (λ y. outcome y i a) (head (request.write base size address width v) q e)
  is_full ends d e = absurd (let z : ◌≡◌ {A = ℕ} 0 1 = ap length e in omega arith)
  is_full (levels n v) d e = ap (λ y. outcome y i a) (head (request.level n v) q e)
  is_full (polls n) d e = ap (λ y. outcome y i a) (head (request.poll n) q e)
  is_full (drains events place) d e = ap (λ y. outcome y i a) (head (request.drain events place) q e)

pub done_is_full : (x : Hoisted) → is_done x ≡ true → (q : Request) → request_of x.asks ≡ q ∷ [] → left_by x ≡ full.left_by (exported_as x q)
done_is_full x d q e = is_full x.given x.phase x.answer q x.asks d e

-- ---- and the profile let it through

-- with its verdict decided: it passed, where the call is done
judged_passes : (r : Bool) (q : Request) (i a : List ℕ) (b : Bool) → eqb (cond b (settled a (hoist_ending r q i)) (leaves 7 i a (buffer_of q))).number 0 ≡ true → judged r (asked_by q) i ≡ passes
judged_passes r q i a b d = test b (λ t. go (judged r (asked_by q) i) refl (rw t at d)) (λ t. absurd (true≢false (sym (rw t at d))))
  where
    go : (v : Verdict) → judged r (asked_by q) i ≡ v → eqb (ends_by (judged r (asked_by q) i) q i).number 0 ≡ true → judged r (asked_by q) i ≡ passes
    go passes e f = e
    go unaligned e f = absurd (true≢false (sym (rw e at f)))
    go unfit e f = absurd (true≢false (sym (rw e at f)))

module _ (i p a : List ℕ) (good : image_test i ≡ accepted) (c : Call) where
  verdict_of : (r : Bool) (q : Request) → asked_by q ≡ calls (pass c) → judged r (asked_by q) i ≡ passes → verdict r (decode i) c ≡ passes
  verdict_of r q asks e = sym (then_verdict r q i (pass c) asks good c refl) ∙ e

  let_through : (k : Asks) → eqb (left_under i p a k).number 0 ≡ true → (q : Request) → request_of k ≡ q ∷ [] → asked_by q ≡ calls (pass c) → verdict (running p) (decode i) c ≡ passes
  unfolding hoist_read hoist_write verdict
  let_through resets d q e asks = absurd (let z : ◌≡◌ {A = ℕ} 0 1 = cc in omega arith)
  let_through (reads base size address width) d q e asks =
      let y = request.read base size address width in
      let its = ap asked_by (head y q e) ∙ asks in
      let r = access_is (width_test width) (address_test base size address width) device.read c (asked_is its) in
      ap (verdict (running p) (decode i)) r.2 ∙ sym (ap (verdict false (decode i)) r.2) ∙ verdict_of false y its (judged_passes false y i a (leb answer_length (length a)) d)
  let_through (writes base size address width v) d q e asks =
      let y = request.write base size address width v in
      verdict_of (running p) y (ap asked_by (head y q e) ∙ asks) (judged_passes (running p) y i a (hoist_room p a) d)
  let_through ends d q e asks = absurd (let z : ◌≡◌ {A = ℕ} 0 1 = ap length e in omega arith)
  let_through (levels n v) d q e asks =
      let y = request.level n v in
      let x = device.level n (not (eqb v 0)) in
      ap (verdict (running p) (decode i)) (input_is n x c (asked_is (ap asked_by (head y q e) ∙ asks)))
  let_through (polls n) d q e asks =
      let y = request.poll n in
      ap (verdict (running p) (decode i)) (input_is n (device.poll n) c (asked_is (ap asked_by (head y q e) ∙ asks)))
  let_through (drains events place) d q e asks =
      let y = request.drain events place in
      ap (verdict (running p) (decode i)) (sym (passed (asked_is (ap asked_by (head y q e) ∙ asks))))

-- ---- calls, one after another

-- a call under the profile is no call of the full device, or one that is done
pub data PlainIs (x : Hoisted) : Type 0 where
  none : plain_call x ≡ [] → PlainIs x
  one : (q : Request) → request_of x.asks ≡ q ∷ [] → is_done x ≡ true → plain_call x ≡ exported_as x q ∷ [] → PlainIs x

pub plain_is : (x : Hoisted) → PlainIs x
plain_is x = test (is_done x) (λ t. go t (request_of x.asks) refl (single x.asks)) (λ t. none (λ i. cond (t i) (map (exported_as x) (request_of x.asks)) []))
  where
    single : (k : Asks) → length (request_of k) ≤ 1
    single resets = lit≤ tt
    single (reads base size address width) = lit≤ tt
    single (writes base size address width v) = lit≤ tt
    single ends = lit≤ tt
    single (levels n v) = lit≤ tt
    single (polls n) = lit≤ tt
    single (drains events place) = lit≤ tt

    go : is_done x ≡ true → (qs : List Request) → request_of x.asks ≡ qs → length (request_of x.asks) ≤ 1 → PlainIs x
    go t [] e l = none (λ i. cond (t i) (map (exported_as x) (e i)) [])
    go t (q ∷ []) e l = one q e t (λ i. cond (t i) (map (exported_as x) (e i)) [])
    go t (q ∷ y ∷ ys) e l = absurd (let z = ap length e in omega arith)

module _ (x : Hoisted) (q : Request) (e : request_of x.asks ≡ q ∷ []) (d : is_done x ≡ true) where
  same_left : full.left_by (exported_as x q) ≡ left_by x
  same_left = sym (done_is_full x d q e)

  -- the full device's call is done too
  pub plain_done : full.is_done (exported_as x q) ≡ true
  plain_done = ap (λ (o : Outcome). eqb o.number 0) same_left ∙ d

  returned_one : cond (is_done x) (returned_of x (request_of x.asks)) [] ≡ cond (full.is_done (exported_as x q)) (returned_to q (full.left_by (exported_as x q)).answer) []
  returned_one = (λ i. cond (d i) (returned_of x (e i)) []) ∙ sym (λ i. cond (plain_done i) (returned_to q (same_left i).answer) [])

  drained_one : cond (is_done x) (drained_of x (request_of x.asks)) []
      ≡ cond (full.is_done (exported_as x q)) (drained_to q (full.left_by (exported_as x q)).answer (full.left_by (exported_as x q)).events) []
  drained_one = (λ i. cond (d i) (drained_of x (e i)) []) ∙ sym (λ i. cond (plain_done i) (drained_to q (same_left i).answer (same_left i).events) [])

-- a call that is none of the full device's hands back no event
none_read : (x : Hoisted) → plain_call x ≡ [] → (cond (is_done x) (returned_of x (request_of x.asks)) [] ≡ []) × (cond (is_done x) (drained_of x (request_of x.asks)) [] ≡ [])
none_read x e = go (is_done x) (request_of x.asks) e
  where
    go : (b : Bool) (qs : List Request) → cond b (map (exported_as x) qs) [] ≡ [] → (cond b (returned_of x qs) [] ≡ []) × (cond b (drained_of x qs) [] ≡ [])
    go true [] e = (refl, refl)
    go true (q ∷ qs) e = absurd (let z = ap length e in omega arith)
    go false qs e = (refl, refl)

-- What a host reads of calls under the profile is what it reads of the full device's calls that they are.
pub record ReadsFull (xs : List Hoisted) : Type 0 where
  pub returned : returned_under xs ≡ returned_by (plain_calls xs)
  pub drained : drained_under xs ≡ drained_by (plain_calls xs)

reads_more : (x : Hoisted) (xs : List Hoisted) → ReadsFull xs → PlainIs x → ReadsFull (x ∷ xs)
unfolding plain_calls returned_under drained_under returned_by drained_by
reads_more x xs r (none e) =
    let here = none_read x e in
    let less = ap (λ ys. ys ++ plain_calls xs) e in
    record {
      returned = ap₂ ◌++◌ here.0 r.returned ∙ ap returned_by (sym less);
      drained = ap₂ ◌++◌ here.1 r.drained ∙ ap drained_by (sym less);
    }
reads_more x xs r (one q e d f) =
    let more = ap (λ ys. ys ++ plain_calls xs) f in
    record {
      returned = ap₂ ◌++◌ (returned_one x q e d) r.returned ∙ ap returned_by (sym more);
      drained = ap₂ ◌++◌ (drained_one x q e d) r.drained ∙ ap drained_by (sym more);
    }

pub reads_full : (xs : List Hoisted) → ReadsFull xs
unfolding plain_calls returned_under drained_under returned_by drained_by
reads_full [] = record { returned = refl; drained = refl }
reads_full (x ∷ xs) = reads_more x xs (reads_full xs) (plain_is x)

-- ---- what the profile sees to holds along the calls

-- each call of a list has Q
abbrev pub EachCall : (Hoisted → Type 0) → List Hoisted → Type 0
EachCall Q [] = Unit {0}
EachCall Q (x ∷ xs) = Q x × EachCall Q xs

-- where P holds of each call of the device that the profile lets through in the phase of a call that has Q
module _ (P : Device → Call → Type 0) (Q : Hoisted → Type 0) (holds : (x : Hoisted) → Q x → (d : Device) (c : Call) → verdict (running x.phase) d c ≡ passes → P d c) where
  module _ (h : Underway) (f : Faithful h) (x : Hoisted) (has : Q x) (q : Request) (e : request_of x.asks ≡ q ∷ []) (d : is_done x ≡ true) (n : full.is_load h.left (exported_as x q) ≡ false) where
    one_along : (cs : List Call) → Along P (current (carried_on h (exported_as x q))) cs → Along P (current h) (done_call (exported_as x q) ++ cs)
    unfolding Along history
    one_along cs along =
        let its = exported_as x q in
        let t = plain_done x q e d in
        let m = handed h its f t n in
        let is : done_call its ≡ m.call ∷ [] = (λ i. cond (t i) (full.call_of (m.passes i)) []) in
        let good = (done_call_lem h its t (ap full.is_reset m.passes)).accepted in
        let met = ap decode m.given ∙ left_holds h f in
        let here = subst (λ k. P k m.call) met (holds x has (decode x.given) m.call (let_through x.given x.phase x.answer good m.call x.asks d q e m.passes)) in
        let after = (carried_on_lem h its f n).current ∙ ap (λ cs. (history (current h) cs).after) is in
        rw is (here, subst (λ k. Along P k cs) after along)

  pub along_under : (h : Underway) → Faithful h → (xs : List Hoisted) → EachCall Q xs → NoLoads h (plain_calls xs) → Along P (current h) (done_calls (plain_calls xs))
  unfolding plain_calls NoLoads done_calls Along
  along_under h f [] has n = tt
  along_under h f (x ∷ xs) has n = go (plain_is x) (λ k g. along_under k g xs has.1)
    where
      go : PlainIs x → ((k : Underway) → Faithful k → NoLoads k (plain_calls xs) → Along P (current k) (done_calls (plain_calls xs)))
          → Along P (current h) (done_calls (plain_call x ++ plain_calls xs))
      go (none e) later = rw e (later h f (rw e at n))
      go (one q e d g) later =
          let m : NoLoads h (exported_as x q ∷ plain_calls xs) = rw g at n in
          rw g (one_along h f x has.0 q e d m.0 (done_calls (plain_calls xs)) (later (carried_on h (exported_as x q)) (faithful_kept h (exported_as x q) f m.0) m.1))

-- Over calls under the profile of which none is a load, whatever phases they are given, each call of the full device that is made is one that demand 3 admits.
pub all_admitted : (h : Underway) → Faithful h → (xs : List Hoisted) → NoLoads h (plain_calls xs) → Along Admitted (current h) (done_calls (plain_calls xs))
all_admitted h f xs n = along_under Admitted (λ x. Unit {0}) (λ x u d c e. passed_is_admitted (running x.phase) d c e) h f xs (each xs) n
  where
    each : (xs : List Hoisted) → EachCall (λ x. Unit {0}) xs
    each [] = tt
    each (x ∷ xs) = (tt, each xs)
