-- Every image along a play is accepted: from an accepted image on, and so from reset on, after each record.
use Rattle.basics.proofs.Prelude.{◌≡◌, sym, ap, subst, ◌∙◌, List, ℕ, zero, suc, length, Bytes}
use Rattle.rules.specs.{Device.reset, Numbering.from_zero}
use Rattle.images.{specs.Form.Form, specs.Form.forms, specs.Form.known, specs.Form.form_of, specs.Image.accepted, specs.Image.image_test, proofs.laws.Tests.form_known_lem}
use Rattle.images.proofs.laws.Saved.{bytes_encode, length_encode}
use Rattle.laws.proofs.laws.Images.{encode_as_lem, accepted_encode, reset_well_formed, reset_numbered}
use Rattle.traces.specs.{Trace.nth, Played.Played, Played.afresh, plays.Playing.played_to, plays.Playing.played_on_to}
use Rattle.traces.proofs.{demands.Play.plays_from_reset, plays.laws.Keeps.keeps_accepted, plays.demands.AfterEachOn.none_played_on, plays.demands.AfterEachOn.one_more_on}

-- an accepted image, as long as another
pub record Fit (i j : List ℕ) : Type 0 where
  pub bytes : Bytes j
  pub good : image_test j ≡ accepted
  pub size : length j ≡ length i

-- played on from an accepted image
pub each_fits_on : (i j : List ℕ) → Fit i j → (l : List ℕ) (n : ℕ) → Fit i (played_on_to l n j).image
each_fits_on i j f l zero = subst (Fit i) (sym (ap (λ (p : Played). p.image) (none_played_on l j))) f
each_fits_on i j f l (suc n) =
    let e = each_fits_on i j f l n in
    let q = keeps_accepted (played_on_to l n j).image e.bytes e.good (nth l n) in
    subst (Fit i) (sym (ap (λ (p : Played). p.image) (one_more_on l j n))) (record { bytes = q.0; good = q.1; size = q.2 ∙ e.size })

-- from a reset of bytes of an admitted length
module _ (i : List ℕ) {f : Form} (k : form_of (length i) ≡ known f) where
  pub afresh_fits : Fit i (afresh i)
  afresh_fits =
      let sized = form_known_lem forms (length i) f k in
      let is = plays_from_reset i f k ∙ encode_as_lem f i sized reset (from_zero 0) in
      record {
        bytes = subst Bytes (sym is) (bytes_encode reset reset_well_formed (from_zero 0) reset_numbered f);
        good = ap image_test is ∙ accepted_encode reset reset_well_formed (from_zero 0) reset_numbered f;
        size = ap length is ∙ length_encode reset reset_well_formed (from_zero 0) reset_numbered f ∙ sym sized;
      }

  pub each_fits : (l : List ℕ) (n : ℕ) → Fit i (played_to l n i).image
  each_fits l n = each_fits_on i (afresh i) afresh_fits l n
