-- How a play ends, by the test that decides it: one law for each way; and what a reset image has.
use Rattle.basics.proofs.Prelude.{◌≡◌, refl, sym, ap, subst, ◌∙◌, List, [], ℕ, zero-le, arith, length}
use Rattle.std.proofs.Common.{Option, Result, Ok, Err, Some}
use Rattle.rules.specs.Device.{some}
use Rattle.images.specs.{Form.Form, Form.Known, Form.unknown, Form.known, Form.form_of, Image.ImageTest, Image.accepted, Image.image_test}
use Rattle.calls.specs.Calls.{image_number, image_value, answer_length, Ending, ending, Outcome}
use Rattle.fields.specs.inplace.Passed.{Passed}
use Rattle.traces.specs.Trace.{trace_test}
use Rattle.traces.specs.Played.{Played, played_from, played_through, afresh}
use Rattle.traces.specs.plays.Playing.{play_room, trace_left, length_left, image_left, PlayTest, play_test, play_on_test, PlayEnding, in_front, play_ends, play_ending, play_on_ending}
use Rattle.traces.proofs.plays.laws.Drained.{asked_ends}
use Rattle.traces.proofs.plays.demands.Accepted.{afresh_fits}
use Rattle.answer.specs.{Given.Refuses, declared.refusals.Refusal.Refusal, declared.refusals.Refusal.TheVariants.WrongLength}
use Rattle.trace.specs.declared.contents.Records.{Records}
use Rattle.pch_pic_trace.specs.{play_records.Played.Fits, play_records.Played.Roomy, play_records.Played.Ready, play_records.Played.PlayedTo, play_trace.Plays.ends}
use Rattle.pch_pic_trace.proofs.play_records.Good.{all_good_lem, reaches, counted, fits}
use Rattle.images.specs.Image as image
use Rattle.calls.specs.Calls as request
use Rattle.answer.specs.Given as goal

-- ---- an image of an admitted length, after its reset

module _ (i : List ℕ) {f : Form} (k : form_of (length i) ≡ known f) where
  pub afresh_passes : Passed f (afresh i)
  afresh_passes = let x = afresh_fits i k in record { bytes = x.bytes; good = x.good; known = ap form_of x.size ∙ k }

  pub is_afresh : (t : Result (Option ℕ) Refusal) {j : List ℕ} → goal.ends t j [] ≡ ending request.reset i → j ≡ afresh i
  is_afresh t d = ap (λ (x : Ending). x.image) d ∙ sym (ap (λ (o : Outcome). o.image) (asked_ends request.reset i zero-le))

-- ---- refused for the image

module _ (l i bs es : List ℕ) where
  -- what trace and room leave of it
  abbrev left : PlayTest
  left = trace_left (trace_test l) (play_room l bs es)

  by_length : {k : Known} → form_of (length i) ≡ k → play_ends (length_left k left) l (afresh i) i bs es ≡ play_ending l i bs es
  unfolding play_test
  by_length e = ap (λ k. play_ends (length_left k left) l (afresh i) i bs es) (sym e)

  pub no_form : form_of (length i) ≡ unknown → ends (Err WrongLength) i bs es ≡ play_ending l i bs es
  no_form e = by_length e

  by_image : {x : ImageTest} → image_test i ≡ x → play_ends (image_left x left) l i i bs es ≡ play_on_ending l i bs es
  unfolding play_on_test
  by_image e = ap (λ x. play_ends (image_left x left) l i i bs es) (sym e)

  -- played on, with what its test found
  pub no_image : (r : Refusal) → Refuses r i → ends (Err r) i bs es ≡ play_on_ending l i bs es
  no_image r d = (λ s. record { number = d.number s; value = d.value s; image = i; answers = bs; events = es }) ∙ go (image_test i) refl
    where
      go : (x : ImageTest) → image_test i ≡ x → record { number = image_number x; value = image_value x; image = i; answers = bs; events = es } ≡ play_on_ending l i bs es
      go image.accepted e = absurd (d.not e)
      go image.wrong_length e = by_image e
      go image.wrong_contents e = by_image e
      go (image.broken k a) e = by_image e

  -- ---- the image lets it play: trace and room decide how it ends

  -- from the image b on
  abbrev Opens : (b : List ℕ) → PlayEnding → Type 0
  Opens b x = play_ends left l b i bs es ≡ x

  -- from reset, or on
  pub opens : {f : Form} → form_of (length i) ≡ known f → Opens (afresh i) (play_ending l i bs es)
  opens k = by_length k

  pub opens_on : image_test i ≡ accepted → Opens i (play_on_ending l i bs es)
  opens_on e = by_image e

  module _ (b : List ℕ) (x : PlayEnding) (opened : Opens b x) where
    pub unfit : (r : Refusal) → Fits (Err r) l (length bs) (length es) → ends (Err r) i bs es ≡ x
    unfit r f = ap (λ t. play_ends t l b i bs es) f ∙ opened

    module _ {r : Records} (y : Roomy r l (length bs) (length es)) {j : List ℕ} (d : j ≡ b) where
      pub ready : {f : Form} → Passed f b → Ready l r.first r.count f j bs es
      ready {f} p = record {
        reaches = reaches l y.good;
        good = λ m u. (all_good_lem l y.good).each m (omega (arith, u, counted l y.good));
        passed = subst (Passed f) (sym d) p;
        answers = y.answers;
        events = y.events;
      }

      pub has_played : {j₂ cs fs : List ℕ} → PlayedTo l r.count j bs es j₂ cs fs → ends (Ok (Some r.count)) j₂ cs fs ≡ x
      has_played p =
          let c = counted l y.good in
          let q : played_from l r.count 0 j ≡ played_through l b = (λ s. played_from l (c s) 0 (d s)) in
          (λ s. record {
            number = 0;
            value = some (c s);
            image = (p.image ∙ ap (λ (y : Played). y.image) q) s;
            answers = (p.answers ∙ ap (λ (y : Played). in_front y.answers bs) q) s;
            events = (p.events ∙ ap (λ (y : Played). in_front y.events es) q) s;
          })
          ∙ ap (λ t. play_ends t l b i bs es) (fits l (length bs) (length es) y) ∙ opened
