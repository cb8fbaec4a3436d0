-- From exported calls to histories: exported calls of which each done one is given the image that the last done one left are a history of the device.
-- A done call hands back what its step gives, and the image that it leaves holds the device after it; so what holds of histories holds of exported
-- calls.
use Rattle.basics.proofs.Prelude.{◌≡◌, refl, sym, ap, subst, ◌∙◌, true, false, cond, and-false, and-eq-true_iff, List, [], ◌∷◌, ◌++◌, map, ℕ, append-nil, append_assoc, length, equal_same}
use Rattle.rules.specs.Device.{Device, WellFormed, Call, Step, value, reset}
use Rattle.rules.specs.{Numbering.Numbers, Numbering.from_zero, Numbering.WellNumbered, Numbering.drained_with, Numbering.value_with, History.history, History.from_reset}
use Rattle.images.specs.{Form.Form, Form.numbered, Form.numbers, Form.has, Form.form_length, Image.encode_as, Image.encode_like, Image.decode, Image.numbers_in, Image.image_test, Image.accepted}
use Rattle.calls.specs.Calls.{afresh, asked_by, Outcome}
use Rattle.histories.specs.exported.Exported.{Exported, left_by, is_done, is_reset, is_load, call_of, Underway, carried_on, carried_through, NoLoads, HandedOn, left_after, done_call, done_calls, IsStep, GivenBytes, current, in_image, Faithful, numbers_through, after_reset, at_load}
use Rattle.histories.specs.exported.Alike.{Asking, made_on, NoResets, asking_of}
use Rattle.laws.proofs.laws.Images.{encode_as_lem, decode_encode, numbers_encode}
use Rattle.histories.proofs.laws.{Folds.history_append, WellFormed.history_well}
use Rattle.histories.proofs.exported.laws.Chains.{current_well, left_length, left_holds, through_append, through_numbered, handed, carried_on_lem, faithful_kept, faithful_on, left_last, reset_leaves, reset_begins, faithful_after_reset, done_accepted, own_image, load_begins}
use Rattle.histories.proofs.exported.laws.Without.{handed_answer, handed_events}
use Rattle.histories.proofs.exported.laws.Handed.{made_handed_on, handed_on_made}

-- ---- one call

-- An exported call that is given the image of d, with numbers that fit it, in any form, is no reset and is done, is one call of d: it hands back what that call's
-- step gives.
pub a_call_is_a_step : (d : Device) → WellFormed d → (s : Numbers) → WellNumbered d s → (f : Form) (x : Exported) → x.given ≡ encode_as f d s
    → is_reset (asked_by x.asked) ≡ false → is_done x ≡ true → IsStep d x
unfolding history
a_call_is_a_step d w s v f x g n t =
    let h : Underway = record { began = d; calls = []; left = encode_as f d s } in
    let faith : Faithful h = record { form = f; began = w; numbers = s; numbered = v; left = refl } in
    let no : is_load (encode_as f d s) x ≡ false = rw (n, equal_same (encode_as f d s) x.given (sym g)) (and-false (is_done x)) in
    let r = handed h x faith t no in
    record {
      call = r.call;
      is = (λ i. cond (t i) (call_of (r.passes i)) []);
      number = ap (λ (o : Outcome). o.number) r.left;
      image = ap (λ (o : Outcome). o.image) r.left;
      answer = ap (λ (o : Outcome). o.answer) r.left;
      events = ap (λ (o : Outcome). o.events) r.left;
      plain_answer = handed_answer h x faith t no;
      plain_events = handed_events h x faith t no;
    }

-- A done reset leaves the image of the reset device, with numbers from 0, and begins the history from reset, whatever was under way and whatever bytes it is given:
-- they have the length of a form, and that is the image's.
pub a_reset_begins : (h : Underway) (x : Exported) → asked_by x.asked ≡ afresh → is_done x ≡ true
    → (f : Form) × (length x.given ≡ form_length f) × ((left_by x).image ≡ encode_as f reset (from_zero 0)) × (carried_on h x ≡ after_reset f)
a_reset_begins h x e t =
    let r = reset_leaves x t e in
    (r.0, r.1, r.2, reset_begins h x t e)

-- A load, whatever was under way, is given an image that is accepted, and begins the history from it: its own call is the first.
pub a_load_begins : (h : Underway) (x : Exported) → is_load h.left x ≡ true → is_reset (asked_by x.asked) ≡ false
    → (image_test x.given ≡ accepted) × (is_load x.given x ≡ false) × (carried_on h x ≡ carried_on (at_load x.given) x)
a_load_begins h x l n =
    let t = ((and-eq-true_iff (is_done x) _).0 l).0 in
    (done_accepted h x t n, own_image x t n, load_begins x t n h l)

-- The image left last, loaded, is the device to which the history under way has come.
pub image_holds_device : (h : Underway) → Faithful h → in_image h ≡ current h
image_holds_device h f = left_holds h f

-- It loads with the history's numbers, if it has the fifth body (02, C-19).
pub image_holds_numbers : (h : Underway) (f : Faithful h) → has f.form numbers ≡ true → numbers_in h.left ≡ f.numbers
image_holds_numbers h f e = ap numbers_in f.left ∙ numbers_encode (current h) (current_well h f) f.numbers f.numbered f.form e

-- ---- calls, one after another

record Chain (f : Form) (s : Numbers) (h : Underway) (xs : List Exported) : Type 0 where
  left : (carried_through h xs).left ≡ encode_as f (current (carried_through h xs)) (numbers_through (current h) s (done_calls xs))
  began : (carried_through h xs).began ≡ h.began
  calls : (carried_through h xs).calls ≡ h.calls ++ done_calls xs

chain : (h : Underway) (xs : List Exported) (f : Faithful h) → NoLoads h xs → Chain f.form f.numbers h xs
unfolding carried_through NoLoads done_calls numbers_through
chain h [] f n = record { left = f.left; began = refl; calls = sym (append-nil h.calls) }
chain h (x ∷ xs) f n =
    let one = carried_on_lem h x f n.0 in
    let two = chain (carried_on h x) xs (faithful_kept h x f n.0) n.1 in
    let d = current h in
    let numbers-are =
    ap (λ e. numbers_through e (numbers_through d f.numbers (done_call x)) (done_calls xs)) one.current
    ∙ sym (through_append d f.numbers (done_call x) (done_calls xs)) in
    record {
      left = two.left ∙ ap (encode_as f.form (current (carried_through (carried_on h x) xs))) numbers-are;
      began = two.began ∙ one.began;
      calls = two.calls ∙ ap (λ cs. cs ++ done_calls xs) one.calls ∙ append_assoc h.calls (done_call x) (done_calls xs);
    }

-- Calls are handed on exactly if they are what is made one after another on an image with no reset among it, refused calls anywhere.
pub handed_on_exactly : (i : List ℕ) → ((qs : List Asking) → NoResets qs → HandedOn i (made_on i qs)) × ((xs : List Exported) → HandedOn i xs → xs ≡ made_on i (map asking_of xs))
handed_on_exactly i = (made_handed_on i, handed_on_made i)

-- 'Handing that same image on is no load' (01, Saved image): where each call is given the image that the one before it left and none is a reset, none is
-- a load.
pub handed_on_is_no_load : (h : Underway) (xs : List Exported) → HandedOn h.left xs → NoLoads h xs
unfolding HandedOn NoLoads
handed_on_is_no_load h [] c = tt
handed_on_is_no_load h (x ∷ xs) c = (
  rw (c.1, equal_same h.left x.given (sym c.0)) (and-false (is_done x)),
  handed_on_is_no_load (carried_on h x) xs (rw (left_last h x c.0) c.2),
)

-- and the image left by the last of them is the one left last.
pub left_through : (h : Underway) (xs : List Exported) → HandedOn h.left xs → (carried_through h xs).left ≡ left_after h.left xs
unfolding carried_through HandedOn left_after
left_through h [] c = refl
left_through h (x ∷ xs) c =
    let e = left_last h x c.0 in
    left_through (carried_on h x) xs (rw e c.2) ∙ ap (λ i. left_after i xs) e

-- Exported calls, none of them a load, carry a history on by the calls that were done, and the image left last is that of the device to which it comes, in
-- the form of the image left at first, with the numbers that the first ones become by those calls. A form without the fifth body has none of them.
pub calls_carry_on : (h : Underway) (f : Faithful h) (xs : List Exported) → NoLoads h xs
    → carried_through h xs ≡ record {
      began = h.began;
      calls = h.calls ++ done_calls xs;
      left = encode_as f.form (history (current h) (done_calls xs)).after (numbers_through (current h) f.numbers (done_calls xs));
    }
calls_carry_on h f xs n =
    let c = chain h xs f n in
    let ns = numbers_through (current h) f.numbers (done_calls xs) in
    let whole = ap (λ (s : Step). encode_as f.form s.after ns) (history_append h.began h.calls (done_calls xs)) in
    let left_is = c.left ∙ (λ j. encode_as f.form (history (c.began j) (c.calls j)).after ns) ∙ whole in
    (λ i. record { began = c.began i; calls = c.calls i; left = left_is i })

abbrev through : (h : Underway) → Faithful h → (xs : List Exported) → NoLoads h xs → Faithful (carried_through h xs)
through h f xs n =
    let c = chain h xs f n in
    let comes : current (carried_through h xs) ≡ (history (current h) (done_calls xs)).after =
    (λ j. (history (c.began j) (c.calls j)).after) ∙ ap (λ (s : Step). s.after) (history_append h.began h.calls (done_calls xs)) in
    record {
      form = f.form;
      began = rw c.began f.began;
      numbers = numbers_through (current h) f.numbers (done_calls xs);
      numbered =
          subst (λ d. WellNumbered d (numbers_through (current h) f.numbers (done_calls xs))) (sym comes)
          (through_numbered (current h) f.numbers (done_calls xs) f.numbered);
      left = c.left;
    }

-- after them the history is still that of the image left last
pub faithful_through : (h : Underway) → Faithful h → (xs : List Exported) → NoLoads h xs → Faithful (carried_through h xs)
faithful_through = through

-- and that image has the length of the one left at first, since it has its form
pub length_through : (h : Underway) → Faithful h → (xs : List Exported) → NoLoads h xs → length (carried_through h xs).left ≡ length h.left
length_through h f xs n = left_length (carried_through h xs) (through h f xs n) ∙ sym (left_length h f)

-- and that image, loaded, is the device
pub image_holds_history : (h : Underway) → Faithful h → (xs : List Exported) → NoLoads h xs
    → in_image (carried_through h xs) ≡ (history (current h) (done_calls xs)).after
image_holds_history h f xs n =
    let well = history_well (current h) (done_calls xs) (current_well h f) in
    let ns = numbers_through (current h) f.numbers (done_calls xs) in
    ap (λ (u : Underway). decode u.left) (calls_carry_on h f xs n)
    ∙ decode_encode (history (current h) (done_calls xs)).after well ns (through_numbered (current h) f.numbers (done_calls xs) f.numbered) f.form

-- With the fifth body numbers run through the calls: those in the image left last are what those in the image left at first become by the calls that were done
-- (02, C-19).
pub numbers_run_through : (h : Underway) (f : Faithful h) → has f.form numbers ≡ true → (xs : List Exported) → NoLoads h xs
    → numbers_in (carried_through h xs).left ≡ numbers_through (in_image h) (numbers_in h.left) (done_calls xs)
numbers_run_through h f e xs n =
    image_holds_numbers (carried_through h xs) (through h f xs n) e
    ∙ (λ i. numbers_through (sym (left_holds h f) i) (sym (image_holds_numbers h f e) i) (done_calls xs))

-- So a done reset x, and after it exported calls each given the image that the one before it left, are the history from reset of the calls that were
-- done; and the image left last is that of the history's device, in the form that the reset was given, with the numbers that those calls give from 0 on.
pub calls_are_a_history : (h : Underway) (x : Exported) → asked_by x.asked ≡ afresh → is_done x ≡ true → (xs : List Exported) → HandedOn (left_by x).image xs
    → carried_through h (x ∷ xs) ≡ record {
      began = reset;
      calls = done_calls xs;
      left = encode_like x.given (from_reset (done_calls xs)).after (numbers_through reset (from_zero 0) (done_calls xs));
    }
unfolding history carried_through faithful_after_reset
calls_are_a_history h x e t xs o =
    let begins = a_reset_begins h x e t in
    let f = begins.0 in
    let like = sym (encode_as_lem f x.given begins.1 (from_reset (done_calls xs)).after (numbers_through reset (from_zero 0) (done_calls xs))) in
    ap (λ u. carried_through u xs) begins.3
    ∙ calls_carry_on (after_reset f) (faithful_after_reset f) xs (handed_on_is_no_load (after_reset f) xs (rw begins.2 at o))
    ∙ (λ i. record { began = reset; calls = done_calls xs; left = like i })

-- With loads and resets among them, exported calls are what Exported says: whatever they are, the image left last is that of the device to which the
-- history under way has come since it began, at the last load or reset. A load has to be given bytes.
pub history_since_load : (h : Underway) (xs : List Exported) → Faithful h → GivenBytes xs → Faithful (carried_through h xs)
unfolding carried_through
history_since_load h [] f b = f
history_since_load h (x ∷ xs) f b = history_since_load (carried_on h x) xs (faithful_on h x f (λ t. b.0)) b.1

-- ---- 'A state saved and loaded answers every later call as the unsaved one would' (01, Saved image)

-- s: the device after any calls from d, which is reset or a loaded device (RoundTrip). Saved in any form and with any numbers that fit, and loaded, it is the same
-- device, so that later calls make, drain and leave the same, and each answers the same value.
pub saved_answers_alike : (d : Device) → WellFormed d → (f : Form) (before later : List Call)
    → let s = (history d before).after in
    (ns : Numbers) → WellNumbered s ns
    → (history (decode (encode_as f s ns)) later ≡ history s later) × ((c : Call) → value (history (decode (encode_as f s ns)) later).after c ≡ value (history s later).after c)
saved_answers_alike d w f before later ns v =
    let same = decode_encode (history d before).after (history_well d before w) ns v f in
    (ap (λ s. history s later) same, λ c. ap (λ s. value (history s later).after c) same)

-- Saved with the fifth body it has its numbers too, so that later calls hand back the same numbers with the same events (02, C-19).
pub saved_numbers_alike : (d : Device) → WellFormed d → (before later : List Call)
    → let s = (history d before).after in
    (ns : Numbers) → WellNumbered s ns
    → let i = encode_as numbered s ns in
    (numbers_through (decode i) (numbers_in i) later ≡ numbers_through s ns later)
    × ((c : Call) → value_with (history (decode i) later).after (numbers_through (decode i) (numbers_in i) later) c ≡ value_with (history s later).after (numbers_through s ns later) c)
    × ((c : Call) → drained_with (history (decode i) later).after (numbers_through (decode i) (numbers_in i) later) c ≡ drained_with (history s later).after (numbers_through s ns later) c)
saved_numbers_alike d w before later ns v =
    let well = history_well d before w in
    let same = decode_encode (history d before).after well ns v numbered in
    let alike = numbers_encode (history d before).after well ns v numbered refl in (
      λ i. numbers_through (same i) (alike i) later,
      λ c i. value_with (history (same i) later).after (numbers_through (same i) (alike i) later) c,
      λ c i. drained_with (history (same i) later).after (numbers_through (same i) (alike i) later) c,
    )
