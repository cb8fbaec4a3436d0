-- The day that is counted is the day that is played (02, C-21, C-11): after each record the plain engine shows the device that the played image holds, and a record is refused in the one just
-- where it is refused in the other.
use Rattle.basics.proofs.Prelude.{◌≡◌, refl, sym, ap, ◌∙◌, false, true≢false, and-false, List, [], ◌∷◌, map, ℕ, eqb, length, replicate, Bytes, same_self}
use Rattle.rules.specs.{Device.reset, Device.step, History.history, Numbering.from_zero}
use Rattle.images.{specs.Form.Form, specs.Form.forms, specs.Form.known, specs.Form.form_of, specs.Image.accepted, specs.Image.image_test, specs.Image.decode, proofs.laws.Tests.form_known_lem}
use Rattle.calls.specs.Calls.{pass, refuse, Asked, afresh, calls, asked_by, performed, answer_length, Outcome}
use Rattle.laws.proofs.laws.Images.{reset_well_formed, reset_numbered, decode_encode, encode_as_lem}
use Rattle.histories.specs.exported.Exported.{Exported, is_done, is_reset, is_load, carried_on, done_call, at_load, current}
use Rattle.histories.proofs.exported.laws.Chains.{refused_not_done, faithful_at_load, faithful_kept, carried_on_lem, left_holds, left_last}
use Rattle.plain.specs.Sequence.{Item, call, load, refused, load_of, shown, Ported, ported_follows, ported_after, plain_after}
use Rattle.plain.proofs.demands.History.{shows_device}
use Rattle.traces.specs.{Trace.Record, Trace.nth, Played.request_of, Played.played_on, Played.records_from, Played.outcomes, Played.gathered, plays.Playing.played_to}
use Rattle.traces.proofs.{demands.Play.plays_from_reset, plays.laws.Drained.asked_ends, plays.laws.Keeps.no_reset, plays.laws.Keeps.in_front_lem, plays.laws.Keeps.keeps_accepted}
use Rattle.traces.proofs.plays.demands.Accepted.{afresh_fits, each_fits}
use Rattle.sheets.specs.Day.{as_item, item_of, begun}
use Rattle.passes.specs.{days.Accounts.is_made, Finish.after_items}
use Rattle.passes.proofs.laws.{Passing.no_load_well, Days.items_loadless}
use Rattle.calls.specs.Calls as request
use Rattle.traces.specs.Played as played

-- ---- one record

module _ (j : List ℕ) (b : Bytes j) (e : image_test j ≡ accepted) (r : Record) where
  abbrev made : Exported
  made = record { given = j; asked = request_of r; answer = replicate answer_length 0 }

  goes_on : is_load j made ≡ false
  goes_on = rw (no_reset r, same_self j) (and-false (is_done made))

  -- the device that the image holds afterwards is that of the calls made, none or one
  one_call : decode (played_on j r).image ≡ (history (decode j) (done_call made)).after
  unfolding history
  one_call =
      let f = faithful_at_load j b e in
      ap decode (sym (left_last (at_load j) made refl)) ∙ left_holds (carried_on (at_load j) made) (faithful_kept (at_load j) made f goes_on) ∙ (carried_on_lem (at_load j) made f goes_on).current

  number_is : {k : Asked} → asked_by (request_of r) ≡ k → is_done made ≡ eqb (request.ended (request_of r) j (performed k j)).number 0
  number_is {k} q = ap (λ (o : Outcome). eqb o.number 0) (asked_ends (request_of r) j (in_front_lem r)) ∙ ap (λ a. eqb (request.ended (request_of r) j (performed a j)).number 0) q

  -- it is done just where it passes
  pub done_is_made : is_done made ≡ is_made (item_of r)
  unfolding performed
  done_is_made = go (asked_by (request_of r)) refl
    where
      go : (k : Asked) → asked_by (request_of r) ≡ k → is_done made ≡ is_made (as_item (asked_by (request_of r)))
      go afresh q = absurd (true≢false (sym (ap is_reset q) ∙ no_reset r))
      go (calls (pass c)) q = number_is q ∙ rw e (ap (λ a. is_made (as_item a)) (sym q))
      go (calls (refuse x)) q = number_is q ∙ rw e (refused_not_done x) ∙ ap (λ a. is_made (as_item a)) (sym q)

  followed : (p : Ported) → decode j ≡ p.device → decode (played_on j r).image ≡ (ported_follows p (item_of r)).device
  unfolding history
  followed p same = one_call ∙ go (asked_by (request_of r)) refl
    where
      go : (k : Asked) → asked_by (request_of r) ≡ k → (history (decode j) (done_call made)).after ≡ (ported_follows p (as_item (asked_by (request_of r)))).device
      go afresh q = absurd (true≢false (sym (ap is_reset q) ∙ no_reset r))
      go (calls (pass c)) q = rw (done_is_made, q) (ap (λ d. (step d c).after) same)
      go (calls (refuse x)) q = rw (done_is_made, q) same

-- ---- one after another

through : (rs : List Record) (j : List ℕ) → Bytes j → image_test j ≡ accepted → (p : Ported) → decode j ≡ p.device → decode (gathered j (outcomes j rs)).image ≡ (ported_after p (map item_of rs)).device
unfolding gathered outcomes ported_after
through [] j b e p same = same
through (r ∷ rs) j b e p same =
    let q = keeps_accepted j b e r in
    through rs (played_on j r).image q.0 q.1 (ported_follows p (item_of r)) (followed j b e r p same)

-- the device of the ported engine is the one that the items leave
ported_items : (xs : List Item) (p : Ported) → (ported_after p xs).device ≡ after_items p.device xs
unfolding ported_after after_items
ported_items [] p = refl
ported_items (call c ∷ xs) p = ported_items xs (ported_follows p (call c))
ported_items (load d ∷ xs) p = ported_items xs (ported_follows p (load d))
ported_items (refused ∷ xs) p = ported_items xs (ported_follows p refused)

-- Records played on an accepted image leave one that holds the device after them: so a day is handed on from trace to trace.
pub hands_on : (rs : List Record) (j : List ℕ) → Bytes j → image_test j ≡ accepted → decode (gathered j (outcomes j rs)).image ≡ after_items (decode j) (map item_of rs)
hands_on rs j b e = through rs j b e (record { device = decode j; call = 0; history = [] }) refl ∙ ported_items (map item_of rs) (record { device = decode j; call = 0; history = [] })

module _ (i : List ℕ) {f : Form} (k : form_of (length i) ≡ known f) where
  start : decode (played.afresh i) ≡ reset
  start =
      let sized = form_known_lem forms (length i) f k in
      ap decode (plays_from_reset i f k ∙ encode_as_lem f i sized reset (from_zero 0)) ∙ decode_encode reset reset_well_formed (from_zero 0) reset_numbered f

  -- After the first n records of a trace, on bytes of any form: the played image holds the device that the plain engine of the day shows.
  pub day_is_played : (l : List ℕ) (n : ℕ) → decode (played_to l n i).image ≡ shown (plain_after begun (map item_of (records_from l n 0)))
  unfolding begun load_of
  day_is_played l n =
      let rs = records_from l n 0 in
      let fits = afresh_fits i k in
      through rs (played.afresh i) fits.bytes fits.good (record { device = reset; call = 0; history = [] }) start
      ∙ sym (shows_device begun reset reset_well_formed (map item_of rs) (no_load_well (map item_of rs) (items_loadless rs)))

  -- And the next record is done in the play just where the day has it as a call, and refused where the day has it so.
  pub refused_alike : (l : List ℕ) (n : ℕ) → eqb (played_on (played_to l n i).image (nth l n)).number 0 ≡ is_made (item_of (nth l n))
  refused_alike l n = let fits = each_fits i k l n in done_is_made (played_to l n i).image fits.bytes fits.good (nth l n)
