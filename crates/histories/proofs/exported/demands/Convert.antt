-- Request C-17, of exported calls: 'Calls accept both forms and write back the form they were given'. Two images that hold the same device answer every
-- later call alike, whatever the form of each: an image and what it is moved to, for one, and to move it first or last is the same. And a call, done or
-- refused, leaves an image of the length that it was given. Request C-19: of images without the fifth body all this is so in every byte. Where one of them has it, the
-- numbers of events can differ, and nothing else: from image to image only the fifth body brings them on.
use Rattle.basics.proofs.Prelude.{◌≡◌, refl, sym, ap, subst, ◌∙◌, Bool, true, false, cond, false≢true, List, [], ◌∷◌, ℕ, arith, length, Bytes, test}
use Rattle.rules.specs.{Device.Device, Device.WellFormed, Device.none, Device.step, Device.reset, Numbering.Numbers, Numbering.WellNumbered, Numbering.from_zero, Numbering.numbers_after}
use Rattle.rules.proofs.laws.Numbered.{numbers_step}
use Rattle.images.specs.Form.{Form, one, two, numbered, numbers, has, form_length}
use Rattle.images.specs.Image.{image_test, accepted, encode_as, encode_like, decode, numbers_in}
use Rattle.images.proofs.laws.Saved.{bytes_encode, length_encode, encode_without, from_zero_well}
use Rattle.calls.proofs.laws.Requests.{passed}
use Rattle.calls.specs.Calls.{no_room, refusal_number, Tested, pass, refuse, on_pass, image_answer, Request, Asked, afresh, calls, asked_by, Done, done_on, reset_as, performed, buffer_of, Outcome, leaves, ended, settled, has_room, outcome}
use Rattle.calls.specs.Convert.{converted}
use Rattle.histories.specs.exported.Exported.{Exported, left_by, is_done, answer_left, events_left, is_reset, at_load, left_after}
use Rattle.histories.specs.exported.Alike.{Asking, asked_of, made_on, SameDevice, Alike, AlikeBut, NoFifth, AllAlike, AllAlikeBut}
use Rattle.laws.proofs.laws.Images.{form_of_lem, encode_as_lem, accepted_has, encode_decode, decode_well_formed, numbers_well, accepted_encode, decode_encode, numbers_encode, numbers_lost, reset_well_formed, reset_numbered}
use Rattle.laws.proofs.demands.Convert.{Converted, was_converted, can_be_converted, copied_as_it_is}
use Rattle.histories.proofs.laws.WellFormed.{step_well}
use Rattle.histories.proofs.exported.laws.{Chains.place_fits, Chains.refused_leaves, Chains.reset_leaves, Chains.done_accepted, Without.answer_without_lem, Without.events_without_lem, Holding.holds_numbers_exactly}

-- ---- what a call does, of the device and of the numbers beside it

abbrev performed_on : Asked → Device → Numbers → Tested Done
performed_on afresh d s = pass (record { device = reset; numbers = from_zero 0; value = none; drained = [] })
performed_on (calls t) d s = on_pass t (λ c. pass (done_on d s c))

-- the device after it, which the numbers do not touch, and the numbers
abbrev device_by : Asked → Device → Device
device_by afresh d = reset
device_by (calls (pass c)) d = (step d c).after
device_by (calls (refuse r)) d = d

abbrev numbers_by : Asked → Device → Numbers → Numbers
numbers_by afresh d s = from_zero 0
numbers_by (calls (pass c)) d s = numbers_after d s c
numbers_by (calls (refuse r)) d s = s

by_well : (d : Device) → WellFormed d → (k : Asked) → WellFormed (device_by k d)
by_well d w afresh = reset_well_formed
by_well d w (calls (pass c)) = step_well d c w
by_well d w (calls (refuse r)) = w

by_numbered : (d : Device) (s : Numbers) → WellNumbered d s → (k : Asked) → WellNumbered (device_by k d) (numbers_by k d s)
by_numbered d s v afresh = reset_numbered
by_numbered d s v (calls (pass c)) = numbers_step d s c v
by_numbered d s v (calls (refuse r)) = v

-- and by whether there is room for the answer
left_well : (d : Device) (room : Bool) (k : Asked) → WellFormed d → WellFormed (cond room (device_by k d) d)
left_well d true k w = by_well d w k
left_well d false k w = w

left_numbered : (d : Device) (s : Numbers) (room : Bool) (k : Asked) → WellNumbered d s → WellNumbered (cond room (device_by k d) d) (cond room (numbers_by k d s) s)
left_numbered d s true k v = by_numbered d s v k
left_numbered d s false k v = v

-- ---- on the image of the device, in some form

-- an image shows a device and numbers in a form: it is the image that they have in that form, and these are the numbers that it loads with
record Shows (f : Form) (d : Device) (s : Numbers) (i : List ℕ) : Type 0 where
  well : WellFormed d
  numbered : WellNumbered d s
  is : i ≡ encode_as f d s
  loads : numbers_in i ≡ s

-- what an image of the form f loads with, if it was saved with the numbers s
abbrev reloaded : Form → Device → Numbers → Numbers
reloaded f d s = cond (has f numbers) s (from_zero (length d.ring.waiting))

saved_shows : (f : Form) (d : Device) (s : Numbers) → WellFormed d → WellNumbered d s → (i : List ℕ) → i ≡ encode_as f d s → Shows f d (reloaded f d s) i
saved_shows f d s w v i e =
    test (has f numbers) (λ t. rw t (record { well = w; numbered = v; is = e; loads = ap numbers_in e ∙ numbers_encode d w s v f t }))
    (λ t.
    let zero = from_zero (length d.ring.waiting) in
    rw t (record {
      well = w;
      numbered = from_zero_well d w.waiting;
      is = e ∙ encode_without f t d s zero;
      loads = ap numbers_in e ∙ numbers_lost d w s v f t;
    }))

module _ {f : Form} {d : Device} {s : Numbers} {i : List ℕ} (h : Shows f d s i) where
  sized : length i ≡ form_length f
  sized = ap length h.is ∙ length_encode d h.well s h.numbered f

  is_bytes : Bytes i
  is_bytes = subst Bytes (sym h.is) (bytes_encode d h.well s h.numbered f)

  good : image_test i ≡ accepted
  good = ap image_test h.is ∙ accepted_encode d h.well s h.numbered f

  holds : decode i ≡ d
  holds = ap decode h.is ∙ decode_encode d h.well s h.numbered f

  from_zero_lem : has f numbers ≡ false → numbers_in i ≡ from_zero (length d.ring.waiting)
  from_zero_lem e = ap numbers_in h.is ∙ numbers_lost d h.well s h.numbered f e

  performed_on_lem : (k : Asked) → performed k i ≡ performed_on k d s
  unfolding performed
  performed_on_lem afresh = ap reset_as (form_of_lem f i sized)
  performed_on_lem (calls t) = (λ j. on_pass (image_answer (good j) (holds j)) (λ e. on_pass t (λ c. pass (done_on e (h.loads j) c))))

  ended_as : (q : Request) (k : Asked) → (ended q i (performed_on k d s)).image ≡ encode_as f (device_by k d) (numbers_by k d s)
  ended_as q afresh = encode_as_lem f i sized reset (from_zero 0)
  ended_as q (calls (pass c)) = encode_as_lem f i sized (step d c).after (numbers_after d s c)
  ended_as q (calls (refuse r)) = h.is

-- what a request leaves, by whether there is room and by what is done
abbrev leaves_of : (q : Request) (i a : List ℕ) → Bool → Tested Done → Outcome
leaves_of q i a room p = cond room (settled a (ended q i p)) (leaves (refusal_number no_room) i a (buffer_of q))

leaves_as : {f : Form} {d : Device} {s : Numbers} {i : List ℕ} → Shows f d s i → (q : Request) (a : List ℕ) (room : Bool) (k : Asked)
    → (leaves_of q i a room (performed_on k d s)).image ≡ encode_as f (cond room (device_by k d) d) (cond room (numbers_by k d s) s)
leaves_as h q a true k = ended_as h q k
leaves_as h q a false k = h.is

-- ---- but for the image that is the same of any two images

record Back (x y : Outcome) : Type 0 where
  number : x.number ≡ y.number
  answer : x.answer ≡ y.answer
  events : x.events ≡ y.events

leaves_back : (q : Request) (i j a : List ℕ) (room : Bool) (p : Tested Done) → Back (leaves_of q i a room p) (leaves_of q j a room p)
leaves_back q i j a true (pass x) = record { number = refl; answer = refl; events = refl }
leaves_back q i j a true (refuse r) = record { number = refl; answer = refl; events = refl }
leaves_back q i j a false p = record { number = refl; answer = refl; events = refl }

-- and with other numbers it is the same without them
record BackBut (q : Request) (x y : Outcome) : Type 0 where
  number : x.number ≡ y.number
  answer : answer_left q x ≡ answer_left q y
  events : events_left q x ≡ events_left q y

module _ (d : Device) (w : WellFormed d) (s t : Numbers) (v : WellNumbered d s) (u : WellNumbered d t) (q : Request) (i j a : List ℕ) where
  leaves_back_but : (room : Bool) → has_room q a ≡ room → (k : Asked) → asked_by q ≡ k
      → BackBut q (leaves_of q i a room (performed_on k d s)) (leaves_of q j a room (performed_on k d t))
  leaves_back_but true r afresh e = record { number = refl; answer = refl; events = refl }
  leaves_back_but true r (calls (pass c)) e = record {
    number = refl;
    answer = answer_without_lem d w s v a q c e ∙ sym (answer_without_lem d w t u a q c e);
    events = events_without_lem d w s v a q c e (place_fits q a r) ∙ sym (events_without_lem d w t u a q c e (place_fits q a r));
  }
  leaves_back_but true r (calls (refuse f)) e = record { number = refl; answer = refl; events = refl }
  leaves_back_but false r k e = record { number = refl; answer = refl; events = refl }

-- ---- one request

module _ (q : Asking) where
  abbrev room : Bool
  room = has_room q.asked q.answer

  abbrev asks : Asked
  asks = asked_by q.asked

  abbrev next : Device → Device
  next d = cond room (device_by asks d) d

  abbrev next_numbers : Device → Numbers → Numbers
  next_numbers d s = cond room (numbers_by asks d s) s

  left_on : {f : Form} {d : Device} {s : Numbers} {i : List ℕ} → Shows f d s i → left_by (asked_of i q) ≡ leaves_of q.asked i q.answer room (performed_on asks d s)
  unfolding outcome
  left_on {i = i} h = ap (leaves_of q.asked i q.answer room) (performed_on_lem h asks)

  next_shows : {f : Form} {d : Device} {s : Numbers} {i : List ℕ} → Shows f d s i → Shows f (next d) (reloaded f (next d) (next_numbers d s)) (left_by (asked_of i q)).image
  next_shows {f} {d} {s} {i} h =
      saved_shows f (next d) (next_numbers d s) (left_well d room asks h.well) (left_numbered d s room asks h.numbered) (left_by (asked_of i q)).image
      (ap (λ (o : Outcome). o.image) (left_on h) ∙ leaves_as h q.asked q.answer room asks)

  length_next : {f : Form} {d : Device} {s : Numbers} {i : List ℕ} → Shows f d s i → length (left_by (asked_of i q)).image ≡ length i
  length_next h = sized (next_shows h) ∙ sym (sized h)

  same_device : {f g : Form} {d : Device} {s t : Numbers} {i j : List ℕ} → Shows f d s i → Shows g d t j → SameDevice (asked_of i q) (asked_of j q)
  same_device h k = record { holds = holds (next_shows h) ∙ sym (holds (next_shows k)); first_form = length_next h; second_form = length_next k }

  alike : {f g : Form} {d : Device} {s : Numbers} {i j : List ℕ} → Shows f d s i → Shows g d s j → Alike (asked_of i q) (asked_of j q)
  alike {d = d} {s = s} {i = i} {j = j} h k =
      let back = leaves_back q.asked i j q.answer room (performed_on asks d s) in
      record {
        number = ap (λ (o : Outcome). o.number) (left_on h) ∙ back.number ∙ sym (ap (λ (o : Outcome). o.number) (left_on k));
        answer = ap (λ (o : Outcome). o.answer) (left_on h) ∙ back.answer ∙ sym (ap (λ (o : Outcome). o.answer) (left_on k));
        events = ap (λ (o : Outcome). o.events) (left_on h) ∙ back.events ∙ sym (ap (λ (o : Outcome). o.events) (left_on k));
        images = same_device h k;
      }

  alike_but : {f g : Form} {d : Device} {s t : Numbers} {i j : List ℕ} → Shows f d s i → Shows g d t j → AlikeBut (asked_of i q) (asked_of j q)
  alike_but {g = g} {d = d} {s = s} {t = t} {i = i} {j = j} h k =
      let back = leaves_back_but d h.well s t h.numbered k.numbered q.asked i j q.answer room refl asks refl in
      record {
        number = ap (λ (o : Outcome). o.number) (left_on h) ∙ back.number ∙ sym (ap (λ (o : Outcome). o.number) (left_on k));
        answer = ap (answer_left q.asked) (left_on h) ∙ back.answer ∙ sym (ap (answer_left q.asked) (left_on k));
        events = ap (events_left q.asked) (left_on h) ∙ back.events ∙ sym (ap (events_left q.asked) (left_on k));
        images = same_device h k;
        whole = λ e. alike h (subst (λ n. Shows g d n j) (sym k.loads ∙ sym e ∙ h.loads) k);
      }

-- ---- one after another

all_alike_but : {f g : Form} {d : Device} {s t : Numbers} {i j : List ℕ} → Shows f d s i → Shows g d t j → (qs : List Asking) → AllAlikeBut (made_on i qs) (made_on j qs)
unfolding made_on AllAlikeBut
all_alike_but h k [] = tt
all_alike_but {d = d} h k (q ∷ qs) = (alike_but q h k, all_alike_but {d = next q d} (next_shows q h) (next_shows q k) qs)

-- without the fifth body the numbers are the same at each call, since they are those from 0 on
all_alike : {f g : Form} → has f numbers ≡ false → has g numbers ≡ false → {d : Device} {s t : Numbers} {i j : List ℕ} → Shows f d s i → Shows g d t j
    → (qs : List Asking) → AllAlike (made_on i qs) (made_on j qs)
unfolding made_on AllAlike
all_alike a b h k [] = tt
all_alike a b {d = d} h k (q ∷ qs) = ((alike_but q h k).whole (from_zero_lem h a ∙ sym (from_zero_lem k b)), all_alike a b {d = next q d} (next_shows q h) (next_shows q k) qs)

-- the device that is left at last is in both images
record ShowSame (f g : Form) (i j : List ℕ) : Type 0 where
  device : Device
  first_numbers : Numbers
  second_numbers : Numbers
  first : Shows f device first_numbers i
  second : Shows g device second_numbers j

left_show : {f g : Form} {d : Device} {s t : Numbers} {i j : List ℕ} → Shows f d s i → Shows g d t j → (qs : List Asking)
    → ShowSame f g (left_after i (made_on i qs)) (left_after j (made_on j qs))
unfolding left_after made_on
left_show {d = d} {s = s} {t = t} h k [] = record { device = d; first_numbers = s; second_numbers = t; first = h; second = k }
left_show {d = d} h k (q ∷ qs) = left_show {d = next q d} (next_shows q h) (next_shows q k) qs

-- an accepted image shows its device and its numbers
shows : (i : List ℕ) → Bytes i → (e : image_test i ≡ accepted) → Shows (accepted_has i e).form (decode i) (numbers_in i) i
shows i b e =
    let its = accepted_has i e in
    record {
      well = decode_well_formed i b e;
      numbered = numbers_well i b e;
      is = sym (encode_decode i b e) ∙ encode_as_lem its.form i its.has.sized (decode i) (numbers_in i);
      loads = refl;
    }

no_fifth : (f : Form) (i : List ℕ) → length i ≡ form_length f → NoFifth i → has f numbers ≡ false
no_fifth f i s n = test (has f numbers) (λ t. absurd (n (omega (arith, (holds_numbers_exactly f i s).1 t)))) (λ t. t)

-- ---- without the fifth body

-- Request C-19, 'An image without it loads with waiting events numbered from 0 and the next number after them, and is written back without it, so numbers then hold
-- within one call only'. An accepted image without the fifth body loads with such numbers, whatever was told before; so does the image that any call leaves of it, done
-- or refused, a reset too; and so do those of any calls one after another.
module _ (i : List ℕ) (b : Bytes i) (e : image_test i ≡ accepted) (n : NoFifth i) where
  without_fifth : has (accepted_has i e).form numbers ≡ false
  without_fifth = no_fifth (accepted_has i e).form i (accepted_has i e).has.sized n

  pub numbers_from_zero : numbers_in i ≡ from_zero (length (decode i).ring.waiting)
  numbers_from_zero = from_zero_lem (shows i b e) without_fifth

  pub numbers_within_one_call : (q : Asking) → numbers_in (left_by (asked_of i q)).image ≡ from_zero (length (decode (left_by (asked_of i q)).image).ring.waiting)
  numbers_within_one_call q = let h = next_shows q (shows i b e) in from_zero_lem h without_fifth ∙ ap (λ d. from_zero (length d.ring.waiting)) (sym (holds h))

  pub numbers_within_each_call : (qs : List Asking)
      → numbers_in (left_after i (made_on i qs)) ≡ from_zero (length (decode (left_after i (made_on i qs))).ring.waiting)
  numbers_within_each_call qs =
      let h = (left_show (shows i b e) (shows i b e) qs).first in
      from_zero_lem h without_fifth ∙ ap (λ d. from_zero (length d.ring.waiting)) (sym (holds h))

-- ---- all forms answer every later call alike

-- Two accepted images hold the same device, in whatever forms. Any requests, each with its answer area, are made one after another on each of them, refused
-- ones and resets included: each call hands back the same number and leaves the same answer area and event buffer on both, and the images after it again hold
-- the same device, each in its own form. Where neither has the fifth body, in every byte; in any forms, but for the numbers of events.
module _ (i j : List ℕ) (b : Bytes i) (c : Bytes j) (e : image_test i ≡ accepted) (f : image_test j ≡ accepted) (s : decode i ≡ decode j) where
  other : Shows (accepted_has j f).form (decode i) (numbers_in j) j
  other = subst (λ d. Shows (accepted_has j f).form d (numbers_in j) j) (sym s) (shows j c f)

  pub same_device_answers_alike : NoFifth i → NoFifth j → (qs : List Asking) → AllAlike (made_on i qs) (made_on j qs)
  same_device_answers_alike n m =
      all_alike (no_fifth (accepted_has i e).form i (accepted_has i e).has.sized n) (no_fifth (accepted_has j f).form j (accepted_has j f).has.sized m) (shows i b e) other

  pub same_device_answers_alike_but_for_numbers : (qs : List Asking) → AllAlikeBut (made_on i qs) (made_on j qs)
  same_device_answers_alike_but_for_numbers = all_alike_but (shows i b e) other

-- ---- an image and what it is moved to

module _ (i t j : List ℕ) (b : Bytes i) (e : converted i t ≡ pass j) where
  abbrev did : Converted i t j
  did = was_converted i t j e

  abbrev own : Form
  own = (accepted_has i did.accepted).form

  own_sized : length i ≡ form_length own
  own_sized = (accepted_has i did.accepted).has.sized

  its_image : Shows did.form (decode i) (reloaded did.form (decode i) (numbers_in i)) j
  its_image = saved_shows did.form (decode i) (numbers_in i) (decode_well_formed i b did.accepted) (numbers_well i b did.accepted) j did.is

  -- They answer every later call alike, where neither has the fifth body in every byte,
  pub converted_answers_alike : NoFifth i → NoFifth t → (qs : List Asking) → AllAlike (made_on i qs) (made_on j qs)
  converted_answers_alike n m = all_alike (no_fifth own i own_sized n) (no_fifth did.form t did.target m) (shows i b did.accepted) its_image

  -- and in any forms but for the numbers of events,
  pub converted_answers_alike_but_for_numbers : (qs : List Asking) → AllAlikeBut (made_on i qs) (made_on j qs)
  converted_answers_alike_but_for_numbers = all_alike_but (shows i b did.accepted) its_image

  -- and to move it and then make calls leaves what it leaves to make them and then move it, if the target has the fifth body only where the image has it.
  pub moved_first_or_last : (length t ≡ form_length numbered → length i ≡ form_length numbered)
      → (qs : List Asking) → converted (left_after i (made_on i qs)) t ≡ pass (left_after j (made_on j qs))
  moved_first_or_last keeps qs = test (has did.form numbers) with_them without
    where
      fifth : (g : Form) → has g numbers ≡ true → form_length g ≡ form_length numbered
      fifth one h = absurd (false≢true h)
      fifth two h = absurd (false≢true h)
      fifth numbered h = refl

      with_them : has did.form numbers ≡ true → converted (left_after i (made_on i qs)) t ≡ pass (left_after j (made_on j qs))
      with_them h =
          let r = left_show (shows i b did.accepted) its_image qs in
          let long = did.target ∙ fifth did.form h in
          let same_length = long ∙ sym (keeps long) in
          let same : i ≡ j = passed (sym (copied_as_it_is i t b did.accepted same_length) ∙ e) in
          copied_as_it_is (left_after i (made_on i qs)) t (is_bytes r.first) (good r.first) (same_length ∙ own_sized ∙ sym (sized r.first))
          ∙ ap (λ k. pass (left_after k (made_on k qs))) same

      without : has did.form numbers ≡ false → converted (left_after i (made_on i qs)) t ≡ pass (left_after j (made_on j qs))
      without h =
          let r = left_show (shows i b did.accepted) its_image qs in
          let last = left_after i (made_on i qs) in
          can_be_converted last t (good r.first) did.form did.target
          ∙ ap (λ l. pass l) (ap (λ d. encode_as did.form d (numbers_in last)) (holds r.first) ∙ encode_without did.form h r.device (numbers_in last) r.second_numbers ∙ sym r.second.is)

  -- In any forms both hold the same device. Moved last, the image has the numbers that it then loads with: where it keeps none and the target would have kept them, they
  -- are not those that ran through the calls on the target.
  pub moved_last : (qs : List Asking) → converted (left_after i (made_on i qs)) t ≡ pass (encode_like t (decode (left_after j (made_on j qs))) (numbers_in (left_after i (made_on i qs))))
  moved_last qs =
      let r = left_show (shows i b did.accepted) its_image qs in
      let last = left_after i (made_on i qs) in
      can_be_converted last t (good r.first) did.form did.target
      ∙ ap (λ l. pass l) (ap (λ d. encode_as did.form d (numbers_in last)) (holds r.first ∙ sym (holds r.second))
      ∙ sym (encode_as_lem did.form t did.target (decode (left_after j (made_on j qs))) (numbers_in last)))

-- ---- the form is kept

-- Every call, done or refused, a reset too, leaves an image of the length that it was given, and so of its form.
pub length_kept : (x : Exported) → Bytes x.given → length (left_by x).image ≡ length x.given
length_kept x b = test (is_done x) (λ t. go t (asked_by x.asked) refl) (λ t. ap length (refused_leaves x t))
  where
    go : is_done x ≡ true → (k : Asked) → asked_by x.asked ≡ k → length (left_by x).image ≡ length x.given
    go t afresh e =
        let r = reset_leaves x t e in
        ap length r.2 ∙ length_encode reset reset_well_formed (from_zero 0) reset_numbered r.0 ∙ sym r.1
    go t (calls u) e = length_next (record { asked = x.asked; answer = x.answer }) (shows x.given b (done_accepted (at_load x.given) x t (ap is_reset e)))
