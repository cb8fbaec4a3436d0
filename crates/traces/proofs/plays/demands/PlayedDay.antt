-- A played trace is a history of exported calls (00, demand 3; 02, C-11): the calls that its records are, each handed the image that the one before it left, are no loads, and the image that the
-- play leaves is the one that they leave. So what is proved of such calls holds of a play, from a reset and on: here the account, service and the drop count.
use Rattle.basics.proofs.Prelude.{◌≡◌, sym, ap, subst, ◌∙◌, true, List, ◌++◌, ◌∷◌, [], ℕ, ◌+◌, ◌<◌, min, length, Bytes}
use Rattle.rules.specs.{Ring.Event, Ring.dropped, Device.Call, Device.reset, Numbering.from_zero, History.history}
use Rattle.rules.specs.Account.{carrying, asserts_among, deasserts_among}
use Rattle.images.{specs.Form.Form, specs.Form.forms, specs.Form.known, specs.Form.form_of, specs.Image.accepted, specs.Image.image_test, specs.Image.decode, specs.Image.encode_as, proofs.laws.Tests.form_known_lem}
use Rattle.laws.proofs.laws.Images.{encode_as_lem}
use Rattle.histories.specs.{Premises.Along, Premises.Admitted, Demands.in_service, Demands.Eligible, Demands.Spared, Demands.Undisturbed, Demands.polls_or_raises, Demands.ring_acts}
use Rattle.histories.specs.exported.Exported.{Exported, Underway, carried_through, NoLoads, done_call, done_calls, after_reset, at_load, returned_by, drained_by, Balances}
use Rattle.histories.proofs.exported.laws.Chains.{faithful_at_load}
use Rattle.histories.proofs.exported.demands.{FromCalls.handed_on_is_no_load, FromCalls.left_through, HandedBack.account_of_calls, HandedBack.account_under_way, HandedBack.service_of_calls, HandedBack.drops_of_calls}
use Rattle.traces.specs.{Trace.Record, Played.records, Played.played_all, Played.played_through, Played.afresh, plays.Playing.PlayLeft, plays.Playing.playing, plays.Playing.playing_on, plays.InTurn.calls_of}
use Rattle.traces.proofs.{demands.Play.plays_from_reset, plays.demands.Ended.has_played, plays.demands.EndedOn.has_played_on, plays.demands.OneAfterAnother.image_of_calls, plays.demands.OneAfterAnother.calls_handed_on}

-- ---- records on an image

module _ (h : Underway) (rs : List Record) where
  abbrev made : List Exported
  made = calls_of h.left rs

  no_loads_lem : NoLoads h made
  no_loads_lem = handed_on_is_no_load h made (calls_handed_on h.left rs)

  left_of : (carried_through h made).left ≡ (played_all h.left rs).image
  left_of = left_through h made (calls_handed_on h.left rs) ∙ sym (image_of_calls h.left rs)

-- ---- from a reset

-- bytes i of the length of the form f, on which a play was done
module _ (l i bs es a : List ℕ) (f : Form) (k : form_of (length i) ≡ known f) (done : (playing l i bs es a).number ≡ 0) where
  -- the calls of its records, from the image that the reset leaves
  abbrev pub calls_played : List Exported
  calls_played = calls_of (encode_as f reset (from_zero 0)) (records l)

  reset_is : afresh i ≡ encode_as f reset (from_zero 0)
  reset_is = plays_from_reset i f k ∙ encode_as_lem f i (form_known_lem forms (length i) f k) reset (from_zero 0)

  -- None of them is a load, and the image that they leave is the play's.
  pub play_is_a_history : NoLoads (after_reset f) calls_played × ((carried_through (after_reset f) calls_played).left ≡ (playing l i bs es a).image)
  play_is_a_history = (
    no_loads_lem (after_reset f) (records l),
    left_of (after_reset f) (records l) ∙ ap (λ j. (played_through l j).image) (sym reset_is) ∙ sym (ap (λ (p : PlayLeft). p.image) (has_played l i bs es a done)),
  )

  -- The account of demand 3 of a played trace, with its premises: no record's write reaches ISR, and none changes the vector byte of an input in service.
  pub account_of_a_play : Along Admitted reset (done_calls calls_played) → (v : ℕ) (lost : List Event) → lost ≡ dropped reset.ring (ring_acts reset (done_calls calls_played))
      → let left = decode (playing l i bs es a).image in
      asserts_among v (returned_by calls_played) + asserts_among v (drained_by calls_played) + asserts_among v left.ring.waiting + asserts_among v lost
      ≡ deasserts_among v (returned_by calls_played) + deasserts_among v (drained_by calls_played) + deasserts_among v left.ring.waiting + deasserts_among v lost + carrying v left.core
  account_of_a_play p v lost is =
      let xs = calls_played in
      subst (λ (j : List ℕ). let left = decode j in
      asserts_among v (returned_by xs) + asserts_among v (drained_by xs) + asserts_among v left.ring.waiting + asserts_among v lost
      ≡ deasserts_among v (returned_by xs) + deasserts_among v (drained_by xs) + deasserts_among v left.ring.waiting + deasserts_among v lost + carrying v left.core)
      play_is_a_history.1 (account_of_calls v f xs play_is_a_history.0 p lost is)

-- ---- on from an image

module _ (l i bs es a : List ℕ) (b : Bytes i) (t : image_test i ≡ accepted) (done : (playing_on l i bs es a).number ≡ 0) where
  abbrev pub calls_played_on : List Exported
  calls_played_on = calls_of i (records l)

  pub play_on_is_a_history : NoLoads (at_load i) calls_played_on × ((carried_through (at_load i) calls_played_on).left ≡ (playing_on l i bs es a).image)
  play_on_is_a_history = (
    no_loads_lem (at_load i) (records l),
    left_of (at_load i) (records l) ∙ sym (ap (λ (p : PlayLeft). p.image) (has_played_on l i bs es a done)),
  )

  pub account_of_a_play_on : Along Admitted (decode i) (done_calls calls_played_on) → (v : ℕ) (lost : List Event) → lost ≡ dropped (decode i).ring (ring_acts (decode i) (done_calls calls_played_on))
      → Balances v (decode i) calls_played_on lost (decode (playing_on l i bs es a).image)
  account_of_a_play_on p v lost is =
      subst (λ (j : List ℕ). Balances v (decode i) calls_played_on lost (decode j)) play_on_is_a_history.1
      (account_under_way v (at_load i) (faithful_at_load i b t) calls_played_on play_on_is_a_history.0 p lost is)

  -- An input that is latched and unmasked in the image, and is not lowered, cleared or masked by any record, is in service in the image left, where some record x of
  -- them polls or raises it and no write after x reaches ISR.
  pub service_of_a_play_on : (n : ℕ) → n < 64 → Eligible n (decode i).core.lines → (before : List Exported) (x : Exported) (later : List Exported) (c : Call) → calls_played_on ≡ before ++ (x ∷ later)
      → Along (Spared n) (decode i) (done_calls before) → done_call x ≡ c ∷ [] → polls_or_raises n c ≡ true → Along (Undisturbed n) (history (decode i) (done_calls before ++ (c ∷ []))).after (done_calls later)
      → in_service n (decode (playing_on l i bs es a).image).core.lines ≡ true
  service_of_a_play_on n below r before x later c whole p e asks q =
      subst (λ (j : List ℕ). in_service n (decode j).core.lines ≡ true) (ap (λ ys. (carried_through (at_load i) ys).left) (sym whole) ∙ play_on_is_a_history.1)
      (service_of_calls (at_load i) (faithful_at_load i b t) n below r before x later c (subst (NoLoads (at_load i)) whole play_on_is_a_history.0) p e asks q)

  -- The drop count in the image left is that in the first and the events dropped since, up to the stop.
  pub drops_of_a_play_on : (decode (playing_on l i bs es a).image).ring.drops ≡ min ((decode i).ring.drops + length (dropped (decode i).ring (ring_acts (decode i) (done_calls calls_played_on)))) 4294967295
  drops_of_a_play_on =
      ap (λ (j : List ℕ). (decode j).ring.drops) (sym play_on_is_a_history.1) ∙ drops_of_calls (at_load i) (faithful_at_load i b t) calls_played_on play_on_is_a_history.0
