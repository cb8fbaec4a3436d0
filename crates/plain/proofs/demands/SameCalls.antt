-- 02, C-13, of exported calls: every done call leaves the bytes that the plain engine tells, on any image, with refused calls, loads and resets anywhere. They are
-- compared without the numbers of events (02, C-19).
use Rattle.basics.proofs.Prelude.{◌≡◌, refl, sym, ap, ap₂, subst, ◌∙◌, Bool, true, false, cond, true≢false, List, [], ◌∷◌, ◌++◌, map, map-append, append-nil, ℕ, length, Bytes, test}
use Rattle.rules.specs.{Lines.Made, Ring.Event, Device.Device, Device.WellFormed, Device.Call, Device.Step, Device.none, Device.step, Device.value, Numbering.from_zero, History.history}
use Rattle.images.specs.{Form.Form, Form.Known, Form.unknown, Form.known, Form.form_of, Image.image_test, Image.accepted, Image.encode_as, Image.encode_like, Image.decode, Image.numbers_in}
use Rattle.calls.proofs.laws.Requests.{never, passed}
use Rattle.calls.specs.Calls.{pass, Asked, afresh, calls, asked_by, Done, performed, wrong_length, answered, buffer_of, place_of, written, Outcome, settled, ended}
use Rattle.histories.specs.exported.Exported.{Exported, left_by, is_done, unnumbered, is_reset, is_load, call_of, done_call, Underway, carried_on, carried_through, GivenBytes, current, in_image, Faithful, after_reset, at_load}
use Rattle.histories.proofs.laws.{Folds.history_append, WellFormed.step_well}
use Rattle.histories.proofs.exported.laws.Chains.{did_pass, current_well, handed, faithful_on, carried_on_lem, reset_leaves, reset_begins, done_call_lem, own_image, load_begins, faithful_after_reset, faithful_at_load}
use Rattle.histories.proofs.exported.laws.Without.{own_numbers, handed_image, handed_answer, handed_events, reset_answer, reset_events}
use Rattle.histories.proofs.exported.demands.FromCalls.{image_holds_device, history_since_load}
use Rattle.laws.proofs.laws.Images.{decode_well_formed, reset_well_formed, reset_numbered}
use Rattle.plain.specs.{Plain.Engine, Plain.counted, Plain.Gave, Plain.idle, Plain.gives, Sequence.load_of, Sequence.shown, Sequence.notes_of, Sequence.as_made}
use Rattle.plain.specs.Beside.{gives_to, meets, Agrees, AllAgree, after_calls}
use Rattle.plain.proofs.laws.{Queues.notes_made, Same.Run, Same.Same}
use Rattle.plain.proofs.laws.Following.{stepped, counted_run, like_call, loaded_run, sized, same_load, same_counted, shown_is}
use Rattle.rules.specs.Device as device

-- ---- one exported call

-- a run is of a history under way: it has come to its device, by its events
record Of (r : Run) (u : Underway) : Type 0 where
  device : r.device ≡ current u
  made : map as_made r.notes ≡ (history u.began u.calls).made

-- what the plain engine gave stands beside a history under way, and a done call agrees with it
record Beside (g : Gave) (u : Underway) (x : Exported) : Type 0 where
  run : Run
  same : Same g.after run
  is : Of run u
  agrees : is_done x ≡ true → Agrees g x

history_made : (d : Device) (cs : List Call) (c : Call) → (history d (cs ++ (c ∷ []))).made ≡ (history d cs).made ++ (step (history d cs).after c).made
unfolding history
history_made d cs c =
    ap (λ (s : Step). s.made) (history_append d cs (c ∷ [])) ∙ ap (λ (ms : List Made). (history d cs).made ++ ms) (append-nil (step (history d cs).after c).made)

history_one : (d : Device) (c : Call) → (history d (c ∷ [])).after ≡ (step d c).after
unfolding history
history_one d c = refl

module _ (e : Engine) (h : Underway) (x : Exported) where
  meets_is : {d n : Bool} {k : Asked} → is_done x ≡ d → is_load h.left x ≡ n → asked_by x.asked ≡ k → meets e h x ≡ gives_to d n k e x
  unfolding meets
  meets_is p q s t = gives_to (p t) (q t) (s t) e x

  -- a done call that is no load
  beside_call : (r : Run) → Same e r → Of r h → Faithful h → is_done x ≡ true → is_load h.left x ≡ false
      → Beside (meets e h x) (carried_on h x) x
  beside_call r s o f t n =
      let i = o.device in
      let p = handed h x f t n in
      let c = p.call in
      let w = subst WellFormed (sym i) (current_well h f) in
      let a = like_call e r s (sized w) c in
      let is : meets e h x ≡ gives e c = meets_is t n p.passes in
      let one : done_call x ≡ c ∷ [] = (λ j. cond (t j) (call_of (p.passes j)) []) in
      let on = carried_on_lem h x f n in
      let after : (step (current h) c).after ≡ current (carried_on h x) = sym (on.current ∙ ap (λ cs. (history (current h) cs).after) one ∙ history_one (current h) c) in
      let new = (step r.device c).made in
      let shows = shown_is (gives e c).after (stepped r c) a.after (sized (step_well r.device c w)) in
      subst (λ (g : Gave). Beside g (carried_on h x) x) (sym is) (record {
        run = stepped r c;
        same = a.after;
        is = record {
          device = ap (λ (d : Device). (step d c).after) i ∙ after;
          made =
              map-append as_made r.notes (notes_of r.call r.device.ring new)
              ∙ ap₂ (λ (ms ns : List Made). ms ++ ns) o.made (notes_made r.call r.device.ring new ∙ ap (λ (d : Device). (step d c).made) i)
              ∙ sym (history_made h.began h.calls c) ∙ (λ z. (history (sym on.began z) (sym (on.calls ∙ ap (λ cs. h.calls ++ cs) one) z)).made);
        };
        agrees = λ _. record {
          image =
              handed_image h x f t n
              ∙ ap (λ (d : Device). encode_like x.given d (numbers_in (left_by x).image)) (ap (λ (d : Device). (step d c).after) (sym i) ∙ sym shows);
          answer = handed_answer h x f t n ∙ ap (λ v. answered 0 v x.answer) (ap (λ (d : Device). value d c) (sym i) ∙ sym a.value);
          events =
              handed_events h x f t n
              ∙ ap (λ (es : List Event). written (buffer_of x.asked) (place_of x.asked) (unnumbered es)) (ap (λ (d : Device). (step d c).drained) (sym i) ∙ sym a.drained);
        };
      })

  -- a refused call
  beside_refused : (r : Run) → Same e r → Of r h → Faithful h → is_done x ≡ false → Beside (meets e h x) (carried_on h x) x
  unfolding history
  beside_refused r s o f t =
      let no : is_load h.left x ≡ false = rw t in
      let none_done : done_call x ≡ [] = (λ j. cond (t j) (call_of (asked_by x.asked)) []) in
      let on = carried_on_lem h x f no in
      let stays : current (carried_on h x) ≡ current h = (carried_on_lem h x f no).current ∙ ap (λ cs. (history (current h) cs).after) none_done in
      let is : meets e h x ≡ idle (counted e) = meets_is t no refl in
      subst (λ (g : Gave). Beside g (carried_on h x) x) (sym is) (record {
        run = counted_run r;
        same = same_counted e r s;
        is = record {
          device = o.device ∙ sym stays;
          made = o.made ∙ (λ z. (history (sym on.began z) (sym (on.calls ∙ ap (λ cs. h.calls ++ cs) none_done ∙ append-nil h.calls) z)).made);
        };
        agrees = λ d. absurd (true≢false (sym d ∙ t));
      })

-- a done reset gives nothing but the reset device
reset_gives : (i : List ℕ) (y : Done) → performed afresh i ≡ pass y → y ≡ record { device = device.reset; numbers = from_zero 0; value = none; drained = [] }
unfolding performed
reset_gives i y e = go (form_of (length i)) refl
  where
    go : (k : Known) → form_of (length i) ≡ k → y ≡ record { device = device.reset; numbers = from_zero 0; value = none; drained = [] }
    go unknown h = never wrong_length y (rw h at e)
    go (known f) h = sym (passed (rw h at e))

module _ (e : Engine) (h : Underway) (x : Exported) (t : is_done x ≡ true) where
  beside_reset : asked_by x.asked ≡ afresh → Beside (meets e h x) (carried_on h x) x
  unfolding history
  beside_reset k =
      let load : is_load h.left x ≡ true = rw (t, k) in
      let p = did_pass x t in
      let left = p.left ∙ ap (λ (y : Done). settled x.answer (ended x.asked x.given (pass y))) (reset_gives x.given p.gives (rw k at p.passed)) in
      let image_is = ap (λ (o : Outcome). o.image) left in
      let at = reset_leaves x t k in
      let same = same_load e device.reset reset_well_formed in
      let is : meets e h x ≡ idle (load_of e device.reset) = meets_is e h x t load k in
      subst (λ (g : Gave). Beside g (carried_on h x) x) (sym is) (record {
        run = loaded_run device.reset;
        same = same;
        is = record {
          device = sym (ap current (reset_begins h x t k));
          made = sym (ap (λ (u : Underway). (history u.began u.calls).made) (reset_begins h x t k));
        };
        agrees = λ _. record {
          image =
              image_is ∙ own_numbers at.0 x.given at.1 device.reset reset_well_formed (from_zero 0) reset_numbered
              ∙ ap (λ l. encode_like x.given device.reset (numbers_in l)) (sym image_is)
              ∙ ap (λ (d : Device). encode_like x.given d (numbers_in (left_by x).image))
              (sym (shown_is (load_of e device.reset) (loaded_run device.reset) same (sized reset_well_formed)));
          answer = reset_answer x k t ∙ ap (λ (o : Outcome). o.answer) left;
          events = reset_events x k t ∙ ap (λ (o : Outcome). o.events) left;
        };
      })

  -- a load that is no reset: the call meets what the image holds
  beside_load : is_reset (asked_by x.asked) ≡ false → is_load h.left x ≡ true → Bytes x.given → Beside (meets e h x) (carried_on h x) x
  unfolding history
  beside_load a n b =
      let did = done_call_lem h x t a in
      let d = decode x.given in
      let g = load_of e d in
      let u = at_load x.given in
      let own = own_image x t a in
      let well = decode_well_formed x.given b did.accepted in
      let faith = faithful_at_load x.given b did.accepted in
      let one = beside_call g u x (loaded_run d) (same_load e d well) (record { device = refl; made = refl }) faith t own in
      let is : meets e h x ≡ meets g u x = meets_is e h x t n did.passes ∙ sym (meets_is g u x t own did.passes) in
      let goes : carried_on h x ≡ carried_on u x = load_begins x t a h n in
      subst (λ (v : Underway). Beside (meets e h x) v x) (sym goes) (subst (λ (y : Gave). Beside y (carried_on u x) x) (sym is) one)

-- any exported call
beside : (e : Engine) (r : Run) (h : Underway) (x : Exported) → Same e r → Of r h → Faithful h
    → Bytes x.given → Beside (meets e h x) (carried_on h x) x
beside e r h x s o f b =
    test (is_done x)
    (λ t. test (is_load h.left x) (λ n. go t n (asked_by x.asked) refl) (λ n. beside_call e h x r s o f t n))
    (λ t. beside_refused e h x r s o f t)
  where
    go : is_done x ≡ true → is_load h.left x ≡ true → (k : Asked) → asked_by x.asked ≡ k → Beside (meets e h x) (carried_on h x) x
    go t n afresh k = beside_reset e h x t k
    go t n (calls u) k = beside_load e h x t (ap is_reset k) n b

-- ---- one after another

record Followed (e : Engine) (h : Underway) (xs : List Exported) : Type 0 where
  all : AllAgree e h xs
  shows : shown (after_calls e h xs) ≡ current (carried_through h xs)
  made : map as_made (after_calls e h xs).history ≡ (history (carried_through h xs).began (carried_through h xs).calls).made

followed : (e : Engine) (r : Run) (h : Underway) (xs : List Exported) → Same e r → Of r h → Faithful h → GivenBytes xs → Followed e h xs
unfolding AllAgree after_calls carried_through
followed e r h [] s o f b = record {
  all = tt;
  shows = shown_is e r s (sized (subst WellFormed (sym o.device) (current_well h f))) ∙ o.device;
  made = ap (map as_made) s.tail.notes ∙ o.made;
}
followed e r h (x ∷ xs) s o f b =
    let one = beside e r h x s o f b.0 in
    let two = followed (meets e h x).after one.run (carried_on h x) xs one.same one.is (faithful_on h x f (λ _. b.0)) b.1 in
    record { all = (one.agrees, two.all); shows = two.shows; made = two.made }

-- The plain engine is started with the device d, of reset or of an accepted image, and the history with it. Over any exported calls, refused ones, loads and
-- resets among them:
module _ (old : Engine) (d : Device) (i : List ℕ) (f : Faithful (record { began = d; calls = []; left = i })) (xs : List Exported) (b : GivenBytes xs) where
  abbrev h : Underway
  h = record { began = d; calls = []; left = i }

  both : Followed (load_of old d) h xs
  unfolding history
  both = followed (load_of old d) (loaded_run d) h xs (same_load old d f.began) (record { device = refl; made = refl }) f b

  -- each call that is done leaves the image of what the plain engine then shows, has its value in the answer area and its drained events in the event buffer;
  pub calls_as_plain : AllAgree (load_of old d) h xs
  calls_as_plain = both.all

  -- the image left last holds what the plain engine shows: registers, bytes, waiting events and drop count;
  pub image_as_plain : in_image (carried_through h xs) ≡ shown (after_calls (load_of old d) h xs)
  image_as_plain = image_holds_device (carried_through h xs) (history_since_load h xs f b) ∙ sym both.shows

  -- and the plain engine's history is of the events that the device has made since the last load or reset, in order.
  pub events_as_plain : map as_made (after_calls (load_of old d) h xs).history ≡ (history (carried_through h xs).began (carried_through h xs).calls).made
  events_as_plain = both.made

-- So from reset, in any form, and from an image that is accepted.
pub calls_as_plain_from_reset : (old : Engine) (form : Form) (xs : List Exported) → GivenBytes xs → AllAgree (load_of old device.reset) (after_reset form) xs
calls_as_plain_from_reset old form xs b = calls_as_plain old device.reset (encode_as form device.reset (from_zero 0)) (faithful_after_reset form) xs b

pub calls_as_plain_from_load : (old : Engine) (i : List ℕ) → Bytes i → image_test i ≡ accepted → (xs : List Exported) → GivenBytes xs
    → AllAgree (load_of old (decode i)) (at_load i) xs
calls_as_plain_from_load old i c t xs b = calls_as_plain old (decode i) i (faithful_at_load i c t) xs b
