-- Exported calls and the history that they carry on: what a done call was asked and what it leaves, and that the history's device is always the one
-- that the image last left holds. A refused call changes nothing; a load begins anew from what it was given.
use Rattle.basics.proofs.Prelude.{◌≡◌, refl, sym, ap, subst, ◌∙◌, Bool, true, false, cond, not, true≢false, and-false, and-eq-true_iff, Bool·not-not, List, [], ◌∷◌, ◌++◌, append-nil, append_assoc, ℕ, ◌≤◌, eqb, leb, length, replicate, leb-true, Bytes, same, test, same_self, same_equal}
use Rattle.rules.specs.Device.{Device, WellFormed, Call, step, reset}
use Rattle.rules.specs.{Numbering.Numbers, Numbering.from_zero, Numbering.WellNumbered, Numbering.numbers_after, Numbering.drained_with, Numbering.value_with, History.history}
use Rattle.rules.proofs.laws.Numbered.{numbers_step}
use Rattle.images.specs.Form.{Form, numbers, forms, has, Known, unknown, known, form_of, form_length}
use Rattle.images.specs.Image.{copy_differs, many_wait, bad_flag, unused_set, ImageTest, image_test, encode_as, encode_like, decode, numbers_in}
use Rattle.images.proofs.laws.{Tests.form_known_lem, Saved.bytes_encode, Saved.length_encode, Saved.encode_without}
use Rattle.calls.proofs.laws.{Computing.computing, Requests.never, Requests.passed}
use Rattle.calls.specs.Calls.{Refusal, outside, no_width, no_input, wrong_length, wrong_contents, no_room, broken, refusal_number, Tested, pass, refuse, Request, Asked, afresh, calls, asked_by, Done, done_on, performed, answered, buffer_of, place_of, written, Outcome, leaves, ended, settled, answer_length, has_room, outcome}
use Rattle.histories.specs.exported.Exported.{Exported, left_by, is_done, is_reset, is_load, call_of, Underway, carried_on, done_call, done_calls, after_reset, at_load, current, Faithful, numbers_through}
use Rattle.laws.proofs.laws.Images.{accepted_has, encode_as_lem, accepted_encode, decode_encode, numbers_encode, encode_decode, decode_well_formed, numbers_well, reset_well_formed, reset_numbered}
use Rattle.histories.proofs.laws.{Folds.history_append, WellFormed.history_well}
use Rattle.images.specs.Image as image
use Rattle.calls.specs.Calls as request

-- ---- a done call

-- a refusal has a number that is not 0
pub refused_not_done : (r : Refusal) → eqb (refusal_number r) 0 ≡ false
refused_not_done (outside address) = refl
refused_not_done no_width = refl
refused_not_done no_input = refl
refused_not_done wrong_length = refl
refused_not_done wrong_contents = refl
refused_not_done no_room = refl
refused_not_done (broken copy_differs a) = refl
refused_not_done (broken many_wait a) = refl
refused_not_done (broken bad_flag a) = refl
refused_not_done (broken unused_set a) = refl

-- A poll of no image at all is refused with 4: told, and not done.
told_not_done : is_done (record { given = []; asked = request.poll 5; answer = replicate 16 0 }) ≡ false
unfolding computing
told_not_done = refl

-- its tests passed, and it left what it gives
pub record DidPass (x : Exported) : Type 0 where
  pub room : has_room x.asked x.answer ≡ true
  pub gives : Done
  pub passed : performed (asked_by x.asked) x.given ≡ pass gives
  pub left : left_by x ≡ settled x.answer (ended x.asked x.given (pass gives))

pub place_fits : (q : Request) (a : List ℕ) → has_room q a ≡ true → place_of q ≤ length (buffer_of q)
place_fits q a t =
    leb-true (place_of q) (length (buffer_of q)) ((and-eq-true_iff (leb answer_length (length a)) (leb (place_of q) (length (buffer_of q)))).0 t).1

pub did_pass : (x : Exported) → is_done x ≡ true → DidPass x
unfolding outcome
did_pass x e =
    test (has_room x.asked x.answer) (λ t. go t (performed (asked_by x.asked) x.given) refl)
    (λ t. absurd (true≢false (sym e ∙ rw t)))
  where
    go : has_room x.asked x.answer ≡ true → (p : Tested Done) → performed (asked_by x.asked) x.given ≡ p → DidPass x
    go t (pass y) f = record { room = t; gives = y; passed = f; left = rw (t, f) }
    go t (refuse r) f = absurd (true≢false (sym e ∙ rw (t, f) (refused_not_done r)))

-- a refused call leaves the image as it was given
pub refused_leaves : (x : Exported) → is_done x ≡ false → (left_by x).image ≡ x.given
unfolding outcome
refused_leaves x e = test (has_room x.asked x.answer) (λ t. go t (performed (asked_by x.asked) x.given) refl) (λ t. rw t)
  where
    go : has_room x.asked x.answer ≡ true → (p : Tested Done) → performed (asked_by x.asked) x.given ≡ p → (left_by x).image ≡ x.given
    go t (pass y) f = absurd (true≢false (sym (rw (t, f)) ∙ e))
    go t (refuse r) f = rw (t, f)

-- a done call of the device: its image was accepted, and it gives what the call does to the device there
record DidCall (t : Tested Call) (i : List ℕ) (y : Done) : Type 0 where
  call : Call
  passes : t ≡ pass call
  accepted : image_test i ≡ image.accepted
  gives : y ≡ done_on (decode i) (numbers_in i) call

did_call : (t : Tested Call) (i : List ℕ) (y : Done) → performed (calls t) i ≡ pass y → DidCall t i y
unfolding performed
did_call t i y e = go (image_test i) refl t refl
  where
    go : (r : ImageTest) → image_test i ≡ r → (u : Tested Call) → t ≡ u → DidCall t i y
    go image.accepted f (pass c) g = record { call = c; passes = g; accepted = f; gives = sym (passed (rw (f, g) at e)) }
    go image.accepted f (refuse r) g = never r y (rw (f, g) at e)
    go image.wrong_length f u g = never wrong_length y (rw f at e)
    go image.wrong_contents f u g = never wrong_contents y (rw f at e)
    go (image.broken k a) f u g = never (broken k a) y (rw f at e)

-- a done reset: its image has the length of a form, and it gives the reset device, with numbers from 0
record DidReset (i : List ℕ) (y : Done) : Type 0 where
  form : Form
  sized : length i ≡ form_length form
  device : y.device ≡ reset
  numbers : y.numbers ≡ from_zero 0

did_reset : (i : List ℕ) (y : Done) → performed afresh i ≡ pass y → DidReset i y
unfolding performed
did_reset i y e = go (form_of (length i)) refl
  where
    go : (k : Known) → form_of (length i) ≡ k → DidReset i y
    go unknown h = never wrong_length y (rw h at e)
    go (known f) h =
        let is = sym (passed (rw h at e)) in
        record { form = f; sized = form_known_lem forms (length i) f h; device = ap (λ (z : Done). z.device) is; numbers = ap (λ (z : Done). z.numbers) is }

-- it leaves the image of the reset device, in that form
pub reset_leaves : (x : Exported) → is_done x ≡ true → asked_by x.asked ≡ afresh
    → (f : Form) × (length x.given ≡ form_length f) × ((left_by x).image ≡ encode_as f reset (from_zero 0))
reset_leaves x t e =
    let p = did_pass x t in
    let r = did_reset x.given p.gives (rw e at p.passed) in
    let image_is = ap (λ (o : Outcome). o.image) p.left ∙ (λ i. encode_like x.given (r.device i) (r.numbers i)) in
    (r.form, r.sized, image_is ∙ encode_as_lem r.form x.given r.sized reset (from_zero 0))

-- ---- loads

module _ (left : List ℕ) (x : Exported) (t : is_done x ≡ true) where
  -- a done reset is a load
  reset_loads : asked_by x.asked ≡ afresh → is_load left x ≡ true
  reset_loads e = rw (t, e)

  -- a done call that is no reset and no load is given the image left last
  given_left : (u : Tested Call) → asked_by x.asked ≡ calls u → is_load left x ≡ false → left ≡ x.given
  given_left u e n = same_equal left x.given (sym (Bool·not-not (same left x.given)) ∙ ap not (rw (t, e) at n))

-- ---- one exported call more

-- carried_on, by whether the call is done, whether it is a load and whether it is a reset, and the calls of the device that it is
abbrev continued : (done load reset : Bool) → List Call → Underway → Exported → Underway
continued d n r cs h x =
    cond d (record { began = cond n (cond r reset (decode x.given)) h.began; calls = cond n [] h.calls ++ cs; left = (left_by x).image }) h

unfoldable pub faithful_after_reset : (f : Form) → Faithful (after_reset f)
unfolding history
faithful_after_reset f = record { form = f; began = reset_well_formed; numbers = from_zero 0; numbered = reset_numbered; left = refl }

pub faithful_at_load : (i : List ℕ) → Bytes i → image_test i ≡ image.accepted → Faithful (at_load i)
unfolding history
faithful_at_load i b e =
    let h = accepted_has i e in
    record {
      form = h.form;
      began = decode_well_formed i b e;
      numbers = numbers_in i;
      numbered = numbers_well i b e;
      left = sym (encode_decode i b e) ∙ encode_as_lem h.form i h.has.sized (decode i) (numbers_in i);
    }

module _ (h : Underway) (f : Faithful h) where
  pub current_well : WellFormed (current h)
  current_well = history_well h.began h.calls f.began

  -- the image left last has the length of its form
  pub left_length : length h.left ≡ form_length f.form
  left_length = ap length f.left ∙ length_encode (current h) current_well f.numbers f.numbered f.form

  -- and holds the device to which the history has come
  pub left_holds : decode h.left ≡ current h
  left_holds = ap decode f.left ∙ decode_encode (current h) current_well f.numbers f.numbered f.form

  -- the numbers that it loads with fit the device
  pub left_numbered : WellNumbered (current h) (numbers_in h.left)
  left_numbered =
      let i = encode_as f.form (current h) f.numbers in
      let well = numbers_well i (bytes_encode (current h) current_well f.numbers f.numbered f.form) (accepted_encode (current h) current_well f.numbers f.numbered f.form) in
      subst (λ l. WellNumbered (current h) (numbers_in l)) (sym f.left)
      (subst (λ d. WellNumbered d (numbers_in i)) (decode_encode (current h) current_well f.numbers f.numbered f.form) well)

  -- where its form has numbers they are the history's, and else it has none: so the image after a call is the same with either
  pub numbers_kept : (d : Device) (c : Call) → encode_as f.form d (numbers_after (current h) (numbers_in h.left) c) ≡ encode_as f.form d (numbers_after (current h) f.numbers c)
  numbers_kept d c =
      test (has f.form numbers)
      (λ t. ap (λ s. encode_as f.form d (numbers_after (current h) s c)) (ap numbers_in f.left ∙ numbers_encode (current h) current_well f.numbers f.numbered f.form t))
      (λ t. encode_without f.form t d (numbers_after (current h) (numbers_in h.left) c) (numbers_after (current h) f.numbers c))

-- numbers through calls: they fit the device to which the calls come, and calls after calls
pub through_numbered : (d : Device) (s : Numbers) (cs : List Call) → WellNumbered d s → WellNumbered (history d cs).after (numbers_through d s cs)
unfolding history numbers_through
through_numbered d s [] v = v
through_numbered d s (c ∷ cs) v = through_numbered (step d c).after (numbers_after d s c) cs (numbers_step d s c v)

pub through_append : (d : Device) (s : Numbers) (cs ds : List Call) → numbers_through d s (cs ++ ds) ≡ numbers_through (history d cs).after (numbers_through d s cs) ds
unfolding history numbers_through
through_append d s [] ds = refl
through_append d s (c ∷ cs) ds = through_append (step d c).after (numbers_after d s c) cs ds

history_snoc : (d : Device) (cs : List Call) (c : Call) → (history d (cs ++ (c ∷ []))).after ≡ (step (history d cs).after c).after
unfolding history
history_snoc d cs c = ap (λ s. s.after) (history_append d cs (c ∷ []))

module _ (h : Underway) (x : Exported) where
  pub carried_refused : is_done x ≡ false → carried_on h x ≡ h
  unfolding carried_on
  carried_refused t i = continued (t i) (is_load h.left x) (is_reset (asked_by x.asked)) (call_of (asked_by x.asked)) h x

  carried_done : is_done x ≡ true → {n : Bool} → is_load h.left x ≡ n → {k : Asked} → asked_by x.asked ≡ k
      → carried_on h x ≡ continued true n (is_reset k) (call_of k) h x
  unfolding carried_on
  carried_done t n k i = continued (t i) (n i) (is_reset (k i)) (call_of (k i)) h x

  -- given the image left last, it leaves the one left last now
  pub left_last : x.given ≡ h.left → (carried_on h x).left ≡ (left_by x).image
  left_last g =
      test (is_done x) (λ t. ap (λ (u : Underway). u.left) (carried_done t refl refl))
      (λ t. ap (λ (u : Underway). u.left) (carried_refused t) ∙ sym g ∙ sym (refused_leaves x t))

  pub reset_begins : (t : is_done x ≡ true) (e : asked_by x.asked ≡ afresh) → carried_on h x ≡ after_reset (reset_leaves x t e).0
  reset_begins t e = carried_done t (reset_loads h.left x t e) e ∙ (λ i. record { began = reset; calls = []; left = (reset_leaves x t e).2 i })

  -- a done call that is no reset: what it asks of the device, and what it leaves
  pub record Did : Type 0 where
    pub call : Call
    pub passes : asked_by x.asked ≡ calls (pass call)
    pub accepted : image_test x.given ≡ image.accepted
    pub left : left_by x ≡ settled x.answer (ended x.asked x.given (pass (done_on (decode x.given) (numbers_in x.given) call)))

  did : is_done x ≡ true → (u : Tested Call) → asked_by x.asked ≡ calls u → Did
  did t u e =
      let p = did_pass x t in
      let c = did_call u x.given p.gives (rw e at p.passed) in
      record {
        call = c.call;
        passes = e ∙ ap calls c.passes;
        accepted = c.accepted;
        left = p.left ∙ ap (λ y. settled x.answer (ended x.asked x.given (pass y))) c.gives;
      }

  -- a done call that is no reset: its image was accepted; and if it is a load, it begins the history from what it was given
  module _ (t : is_done x ≡ true) (no : is_reset (asked_by x.asked) ≡ false) where
    pub done_call_lem : Did
    done_call_lem = go (asked_by x.asked) refl
      where
        go : (k : Asked) → asked_by x.asked ≡ k → Did
        go afresh e = absurd (true≢false (sym (ap is_reset e) ∙ no))
        go (calls u) e = did t u e

    pub done_accepted : image_test x.given ≡ image.accepted
    done_accepted = done_call_lem.accepted

  -- given the image that the history left, it meets the history's device
  meets : Faithful h → h.left ≡ x.given → decode x.given ≡ current h
  meets f e = ap decode (sym e) ∙ left_holds h f

  -- a load of bytes begins a history of the image's form
  faithful_load : is_load h.left x ≡ true → Bytes x.given → is_done x ≡ true → Did → Faithful (carried_on h x)
  unfolding history
  faithful_load n b t r =
      let its = accepted_has x.given r.accepted in
      let d = decode x.given in
      let s = numbers_in x.given in
      let after = (step d r.call).after in
      let image_is : (left_by x).image ≡ encode_like x.given after (numbers_after d s r.call) = ap (λ (o : Outcome). o.image) r.left in
      rw (carried_done t n r.passes) (record {
        form = its.form;
        began = decode_well_formed x.given b r.accepted;
        numbers = numbers_after d s r.call;
        numbered = numbers_step d s r.call (numbers_well x.given b r.accepted);
        left = image_is ∙ encode_as_lem its.form x.given its.has.sized after (numbers_after d s r.call);
      })

  -- a done call that is no load: it is given the history's image, is one call more of it, and hands back what that call's step gives, with the image's numbers
  pub record Handed : Type 0 where
    pub call : Call
    pub passes : asked_by x.asked ≡ calls (pass call)
    pub given : x.given ≡ h.left
    pub numbered : WellNumbered (current h) (numbers_in x.given)
    pub left : left_by x ≡ leaves 0 (encode_like x.given (step (current h) call).after (numbers_after (current h) (numbers_in x.given) call))
        (answered 0 (value_with (current h) (numbers_in x.given) call) x.answer)
        (written (buffer_of x.asked) (place_of x.asked) (drained_with (current h) (numbers_in x.given) call))
    pub fits : place_of x.asked ≤ length (buffer_of x.asked)
    pub carried : carried_on h x ≡ record { began = h.began; calls = h.calls ++ (call ∷ []); left = (left_by x).image }

  pub handed : Faithful h → is_done x ≡ true → is_load h.left x ≡ false → Handed
  handed f t n = go (asked_by x.asked) refl
    where
      go : (k : Asked) → asked_by x.asked ≡ k → Handed
      go afresh e = absurd (true≢false (sym (reset_loads h.left x t e) ∙ n))
      go (calls u) e =
          let r = did t u e in
          let is = given_left h.left x t u e n in
          record {
            call = r.call;
            passes = r.passes;
            given = sym is;
            numbered = subst (λ l. WellNumbered (current h) (numbers_in l)) is (left_numbered h f);
            left = r.left ∙ ap (λ d. settled x.answer (ended x.asked x.given (pass (done_on d (numbers_in x.given) r.call)))) (meets f is);
            fits = place_fits x.asked x.answer (did_pass x t).room;
            carried = carried_done t n r.passes;
          }

  -- so an exported call that is no load carries the history on by the calls that it is, none or one
  pub record CarriedOn : Type 0 where
    pub began : (carried_on h x).began ≡ h.began
    pub calls : (carried_on h x).calls ≡ h.calls ++ done_call x
    pub current : current (carried_on h x) ≡ (history (current h) (done_call x)).after

  pub carried_on_lem : Faithful h → is_load h.left x ≡ false → CarriedOn
  unfolding history
  carried_on_lem f n =
      test (is_done x)
      (λ t.
      let r = handed f t n in
      let one : done_call x ≡ r.call ∷ [] = (λ i. cond (t i) (call_of (r.passes i)) []) in
      record {
        began = ap (λ (u : Underway). u.began) r.carried;
        calls = rw one (ap (λ (u : Underway). u.calls) r.carried);
        current = rw one (ap current r.carried ∙ history_snoc h.began h.calls r.call);
      })
      (λ t.
      let none : done_call x ≡ [] = (λ i. cond (t i) (call_of (asked_by x.asked)) []) in
      record {
        began = ap (λ (u : Underway). u.began) (carried_refused t);
        calls = rw none (ap (λ (u : Underway). u.calls) (carried_refused t) ∙ sym (append-nil h.calls));
        current = rw none (ap current (carried_refused t));
      })

  -- and its image keeps the form, with the numbers that the history's become
  pub kept : (f : Faithful h) → is_load h.left x ≡ false
      → (carried_on h x).left ≡ encode_as f.form (current (carried_on h x)) (numbers_through (current h) f.numbers (done_call x))
  unfolding numbers_through
  kept f n =
      test (is_done x)
      (λ t.
      let r = handed f t n in
      let after = (step (current h) r.call).after in
      let one : done_call x ≡ r.call ∷ [] = (λ i. cond (t i) (call_of (r.passes i)) []) in
      rw one (
      ap (λ (u : Underway). u.left) r.carried ∙ ap (λ (o : Outcome). o.image) r.left
      ∙ encode_as_lem f.form x.given (ap length r.given ∙ left_length h f) after (numbers_after (current h) (numbers_in x.given) r.call)
      ∙ ap (λ l. encode_as f.form after (numbers_after (current h) (numbers_in l) r.call)) r.given ∙ numbers_kept h f after r.call
      ∙ ap (λ d. encode_as f.form d (numbers_after (current h) f.numbers r.call)) (sym (ap current r.carried ∙ history_snoc h.began h.calls r.call))
      ))
      (λ t.
      let none : done_call x ≡ [] = (λ i. cond (t i) (call_of (asked_by x.asked)) []) in
      rw (none, carried_refused t) f.left)

  abbrev pub faithful_kept : Faithful h → is_load h.left x ≡ false → Faithful (carried_on h x)
  faithful_kept f n = record {
    form = f.form;
    began = rw (carried_on_lem f n).began f.began;
    numbers = numbers_through (current h) f.numbers (done_call x);
    numbered =
        subst (λ d. WellNumbered d (numbers_through (current h) f.numbers (done_call x))) (sym (carried_on_lem f n).current)
        (through_numbered (current h) f.numbers (done_call x) f.numbered);
    left = kept f n;
  }

  -- any exported call, refused, a load or neither; only a load has to be given bytes
  pub faithful_on : Faithful h → (is_load h.left x ≡ true → Bytes x.given) → Faithful (carried_on h x)
  faithful_on f b = test (is_load h.left x) (λ n. go n ((and-eq-true_iff (is_done x) _).0 n).0 (asked_by x.asked) refl) (λ n. faithful_kept f n)
    where
      go : is_load h.left x ≡ true → is_done x ≡ true → (k : Asked) → asked_by x.asked ≡ k → Faithful (carried_on h x)
      go n t afresh e = rw (reset_begins t e) (faithful_after_reset (reset_leaves x t e).0)
      go n t (calls u) e = faithful_load n (b n) t (did t u e)

-- ---- a load

module _ (x : Exported) (t : is_done x ≡ true) (no : is_reset (asked_by x.asked) ≡ false) where
  -- given the image that it is given, it is no load
  pub own_image : is_load x.given x ≡ false
  own_image = rw (no, same_self x.given) (and-false (is_done x))

  -- whatever was under way, it begins the history from that image
  pub load_begins : (h : Underway) → is_load h.left x ≡ true → carried_on h x ≡ carried_on (at_load x.given) x
  load_begins h n =
      let e = (done_call_lem h x t no).passes in
      carried_done h x t n e ∙ sym (carried_done (at_load x.given) x t own_image e)

-- ---- the calls of the device in a list of exported calls

pub calls_split : (before : List Exported) (x : Exported) (later : List Exported) (c : Call) → done_call x ≡ c ∷ []
    → done_calls (before ++ (x ∷ later)) ≡ done_calls before ++ (c ∷ done_calls later)
unfolding done_calls
calls_split [] x later c e = ap (λ cs. cs ++ done_calls later) e
calls_split (y ∷ before) x later c e =
    ap (λ cs. done_call y ++ cs) (calls_split before x later c e) ∙ sym (append_assoc (done_call y) (done_calls before) (c ∷ done_calls later))
