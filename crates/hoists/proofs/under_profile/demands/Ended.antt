-- The two calls that store the phase (02, C-22; 00, demand 1): what a refused one leaves; and once start-up has ended, no vector is written.
use Rattle.basics.proofs.Prelude.{◌≡◌, sym, ap, ◌∙◌, Bool, true, false, or-true, and-false, List, ℕ, ◌≤◌, arith, leb, length, drop, length-set, leb-true, test}
use Rattle.rules.specs.{Map.in_vectors, Access.Width}
use Rattle.images.specs.Image.{ImageTest, image_test, decode}
use Rattle.calls.{specs.Calls.answer_length, specs.Calls.answered, specs.Calls.pass, specs.Calls.access_call, specs.Calls.Outcome, specs.Calls.outcome, proofs.demands.Refused.refused_changes_nothing}
use Rattle.histories.specs.Premises.{is_isr}
use Rattle.hoists.specs.Profile.{running, aligned_dword, forbidden}
use Rattle.hoists.specs.HoistCalls.{hoist_room, hoist_write, PhaseLeft, hoist_reset, cannot_end, end_told, end_startup}
use Rattle.hoists.specs.Hoisted.{unphased}
use Rattle.hoists.proofs.under_profile.demands.{Answers.forbidden_is_15, Under.reset_is_full, Handed.end_keeps_image}
use Rattle.hoists.proofs.under_profile.demands.Phases.{after_runs, done_end, refused_end_keeps, refused_reset_keeps}
use Rattle.rules.specs.Device as device
use Rattle.images.specs.Image as image
use Rattle.calls.specs.Calls as request

-- ---- refused

-- no byte changes but those of the answer area, and with 7 not even these
pub record PhaseUntouched (x : PhaseLeft) (i p a : List ℕ) : Type 0 where
  pub image : x.image ≡ i
  pub phase : x.phase ≡ p
  pub past : drop answer_length x.answer ≡ drop answer_length a
  pub seven : x.number ≡ 7 → x.answer ≡ a

module _ (i p a : List ℕ) where
  -- with room the end of start-up is not refused with 7
  not_seven : (k : ImageTest) (b : Bool) → (end_told k b i).number ≡ 7 → ⊥
  not_seven image.accepted true e = omega (arith, e)
  not_seven image.accepted false e = omega (arith, e)
  not_seven image.wrong_length b e = omega (arith, e)
  not_seven image.wrong_contents b e = omega (arith, e)
  not_seven (image.broken image.copy_differs x) b e = omega (arith, e)
  not_seven (image.broken image.many_wait x) b e = omega (arith, e)
  not_seven (image.broken image.bad_flag x) b e = omega (arith, e)
  not_seven (image.broken image.unused_set x) b e = omega (arith, e)

  end_past : drop answer_length (end_startup i p a).answer ≡ drop answer_length a
  unfolding end_startup answered
  end_past = test (hoist_room p a) (λ t. rw t) (λ t. rw t)

  end_seven : (end_startup i p a).number ≡ 7 → (end_startup i p a).answer ≡ a
  unfolding end_startup
  end_seven = test (hoist_room p a) (λ t z. absurd (not_seven (image_test i) (cannot_end (running p) (decode i)) (rw t at z))) (λ t z. rw t)

  pub refused_end_untouched : ((end_startup i p a).number ≡ 0 → ⊥) → PhaseUntouched (end_startup i p a) i p a
  refused_end_untouched n = record { image = end_keeps_image i p a; phase = refused_end_keeps i p a n; past = end_past; seven = end_seven }

  -- a reset with a phase lent is the full device's
  reset_lent : ((hoist_reset i p a).number ≡ 0 → ⊥) → 1 ≤ length p → PhaseUntouched (hoist_reset i p a) i p a
  reset_lent n l =
      let same : unphased (hoist_reset i p a) ≡ outcome request.reset i a = reset_is_full i p a l in
      let c = refused_changes_nothing request.reset i a (λ z. n (ap (λ (o : Outcome). o.number) same ∙ z)) in
      record {
        image = ap (λ (o : Outcome). o.image) same ∙ c.image;
        phase = refused_reset_keeps i p a n;
        past = ap (λ (o : Outcome). drop answer_length o.answer) same ∙ c.past;
        seven = λ z. ap (λ (o : Outcome). o.answer) same ∙ c.seven (sym (ap (λ (o : Outcome). o.number) same) ∙ z);
      }

  reset_unlent : leb 1 (length p) ≡ false → PhaseUntouched (hoist_reset i p a) i p a
  unfolding hoist_reset
  reset_unlent t =
      let e : hoist_room p a ≡ false = rw (t, and-false (leb answer_length (length a))) in
      record { image = rw e; phase = rw e; past = rw e; seven = λ z. rw e }

  pub refused_reset_untouched : ((hoist_reset i p a).number ≡ 0 → ⊥) → PhaseUntouched (hoist_reset i p a) i p a
  refused_reset_untouched n = test (leb 1 (length p)) (λ t. reset_lent n (leb-true 1 (length p) t)) (λ t. reset_unlent t)

-- ---- after start-up

pub vectors_forbidden : {r : Bool} (d : device.Device) (o v : ℕ) → r ≡ true → in_vectors o ≡ true → forbidden r d o v ≡ true
unfolding forbidden
vectors_forbidden d o v e f = rw (e, f) (or-true (is_isr o))

-- after a done end of start-up, with the phase that it left, a write of the vectors that the full device would do is refused with 15, whatever it writes
module _ (i p a : List ℕ) (ended : (end_startup i p a).number ≡ 0) where
  abbrev phase : List ℕ
  phase = (end_startup i p a).phase

  runs : running phase ≡ true
  runs = let e = done_end i p a ended in ap running e.phase ∙ after_runs p e.lent

  lent : 1 ≤ length phase
  lent = let e = done_end i p a ended in rw (ap length e.phase ∙ length-set p 0 1) e.lent

  pub vectors_refused_after_end : (base size address width v : ℕ) (j b : List ℕ) (w : Width) (o : ℕ) → image_test j ≡ image.accepted
      → access_call base size address width (λ w o. device.write w o v) ≡ pass (device.write w o v) → answer_length ≤ length b
      → aligned_dword w o ≡ true → in_vectors o ≡ true → (hoist_write base size address width v j phase b).number ≡ 15
  vectors_refused_after_end base size address width v j b w o good asks room aligned inside =
      forbidden_is_15 base size address width v j phase b w o good asks room lent aligned (vectors_forbidden (decode j) o v runs inside)
