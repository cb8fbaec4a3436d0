-- The two phases (02, C-22): a reset starts the first; start-up ends only where no input is in service, and once; after it no vector byte changes.
use Rattle.basics.proofs.Prelude.{neither, ◌≡◌, refl, sym, ap, ◌∙◌, Bool, true, false, cond, true≢false, and-eq-true_iff, List, [], ◌∷◌, ℕ, ◌%◌, arith, eqb, leb, length, eqb-true, eq-eqb, le-leb, leb-true, test, ◌≤◌}
use Rattle.rules.specs.{Core.turns, Core.vectors_after, Access.byte, Access.word, Access.dword, Access.qword}
use Rattle.rules.specs.{Device.Device, Device.Call, Device.level, Device.poll, Device.read, Device.write, Device.drain, Device.none, Device.acts_of, Device.acted, Device.step, History.history}
use Rattle.images.specs.Image.{ImageTest, image_test, decode}
use Rattle.calls.specs.Calls.{fault_number, answer_length, answered, ending}
use Rattle.calls.specs.Untouched.{IsDone}
use Rattle.histories.specs.Premises.{Along}
use Rattle.histories.specs.exported.Exported.{Underway, carried_through, NoLoads, done_calls, current, in_image, Faithful}
use Rattle.histories.proofs.{laws.Folds.fold_calls, exported.demands.FromCalls.image_holds_device, exported.demands.FromCalls.image_holds_history}
use Rattle.hoists.specs.Profile.{running, in_start_up, after_start_up, any_served, forbidden, passes, unaligned, unfit, verdict}
use Rattle.hoists.specs.HoistCalls.{hoist_room, PhaseLeft, phase_leaves, hoist_reset, cannot_end, end_ending, end_startup}
use Rattle.hoists.specs.Hoisted.{Hoisted, plain_calls}
use Rattle.hoists.proofs.{laws.Vectors.no_vector_written, under_profile.demands.Admits.allowed, under_profile.demands.Admits.passed, under_profile.demands.Admits.no_verdict}
use Rattle.hoists.proofs.under_profile.demands.Under.{EachCall, along_under}
use Rattle.images.specs.Image as image
use Rattle.calls.specs.Calls as request

-- ---- the end of start-up

module _ (i p a : List ℕ) where
  abbrev end : PhaseLeft
  end = end_startup i p a

  -- With room and an accepted image: 15, or it is done and the second phase begins.
  pub end_is : answer_length ≤ length a → 1 ≤ length p → image_test i ≡ image.accepted
      → end ≡ cond (cannot_end (running p) (decode i)) (phase_leaves 15 i p (answered 15 none a)) (phase_leaves 0 i (after_start_up p) (answered 0 none a))
  unfolding end_startup
  end_is r l e =
      rw (le-leb answer_length (length a) r, le-leb 1 (length p) l, e) (test (cannot_end (running p) (decode i)) (λ t. rw t) (λ t. rw t))

  -- done, the image was accepted, it was start-up, and no input was in service
  pub record Ended : Type 0 where
    pub lent : 1 ≤ length p
    pub good : image_test i ≡ image.accepted
    pub was_start_up : running p ≡ false
    pub none_served : any_served (decode i) ≡ false
    pub phase : end.phase ≡ after_start_up p

  pub done_end : end.number ≡ 0 → Ended
  unfolding end_startup
  done_end d = test (hoist_room p a) (λ t. go t (image_test i) refl (cannot_end (running p) (decode i)) refl (rw t at d)) (λ t. absurd (let z : ◌≡◌ {A = ℕ} 7 0 = rw t at d in omega arith))
    where
      faults : (k : image.Fault) → fault_number k ≡ 0 → ⊥
      faults image.copy_differs e = omega arith
      faults image.many_wait e = omega arith
      faults image.bad_flag e = omega arith
      faults image.unused_set e = omega arith

      go : hoist_room p a ≡ true → (k : ImageTest) → image_test i ≡ k → (b : Bool) → cannot_end (running p) (decode i) ≡ b → IsDone (end_ending (running p) i).number → Ended
      go t image.accepted e true c z = absurd (let y : ◌≡◌ {A = ℕ} 15 0 = rw (e, c) at z in omega arith)
      go t image.accepted e false c z =
          let l = leb-true 1 (length p) ((and-eq-true_iff (leb answer_length (length a)) (leb 1 (length p))).0 t).1 in
          let n = neither (running p) (any_served (decode i)) c in
          record { lent = l; good = e; was_start_up = n.0; none_served = n.1; phase = rw (t, e, c) }
      go t image.wrong_length e b c z = absurd (let y : ◌≡◌ {A = ℕ} 4 0 = rw e at z in omega arith)
      go t image.wrong_contents e b c z = absurd (let y : ◌≡◌ {A = ℕ} 5 0 = rw e at z in omega arith)
      go t (image.broken k x) e b c z = absurd (faults k (rw e at z))

  -- refused, the phase stays
  pub refused_end_keeps : (end.number ≡ 0 → ⊥) → end.phase ≡ p
  unfolding end_startup
  refused_end_keeps n = test (hoist_room p a) (λ t. rw t (kept (eqb (end_ending (running p) i).number 0) refl (λ z. n (rw t z)))) (λ t. rw t)
    where
      kept : (b : Bool) → eqb (end_ending (running p) i).number 0 ≡ b → (IsDone (end_ending (running p) i).number → ⊥) → cond (eqb (end_ending (running p) i).number 0) (after_start_up p) p ≡ p
      kept true e m = absurd (m (eqb-true (end_ending (running p) i).number 0 e))
      kept false e m = rw e

-- Once it has ended it does not end again, whatever the image: the phase that a done call leaves is refused by the next.
pub after_runs : (p : List ℕ) → 1 ≤ length p → running (after_start_up p) ≡ true
after_runs [] h = absurd (omega arith)
after_runs (x ∷ p) h = refl

pub ends_once : (i p a : List ℕ) → (end_startup i p a).number ≡ 0 → (j b : List ℕ) → (end_startup j (end_startup i p a).phase b).number ≡ 0 → ⊥
ends_once i p a d j b again =
    let e = done_end i p a d in
    let f = done_end j (end_startup i p a).phase b again in
    true≢false (sym (after_runs p e.lent) ∙ ap running (sym e.phase) ∙ f.was_start_up)

-- ---- a reset

-- Done, it starts the first phase; refused, it leaves the phase.
starts : (p : List ℕ) → running (in_start_up p) ≡ false
starts [] = refl
starts (x ∷ p) = refl

pub reset_starts : (i p a : List ℕ) → (hoist_reset i p a).number ≡ 0 → running (hoist_reset i p a).phase ≡ false
unfolding hoist_reset
reset_starts i p a d = test (hoist_room p a) (λ t. rw (t, eq-eqb (ending request.reset i).number 0 (rw t at d)) (starts p)) (λ t. absurd (let z : ◌≡◌ {A = ℕ} 7 0 = rw t at d in omega arith))

pub refused_reset_keeps : (i p a : List ℕ) → ((hoist_reset i p a).number ≡ 0 → ⊥) → (hoist_reset i p a).phase ≡ p
unfolding hoist_reset
refused_reset_keeps i p a n =
    test (hoist_room p a)
    (λ t. test (eqb (ending request.reset i).number 0) (λ z. absurd (n (rw t (eqb-true (ending request.reset i).number 0 z)))) (λ z. rw (t, z)))
    (λ t. rw t)

-- ---- after start-up

-- a call that is let through after start-up leaves the vector bytes
keeps_vectors : (d : Device) (c : Call) → verdict true d c ≡ passes → (step d c).after.core.vectors ≡ d.core.vectors
unfolding verdict passed step acted acts_of turns vectors_after
keeps_vectors d (level n true) e = refl
keeps_vectors d (level n false) e = refl
keeps_vectors d (poll n) e = refl
keeps_vectors d (read w o) e = refl
keeps_vectors d (write byte o v) e = no_verdict e refl
keeps_vectors d (write word o v) e = no_verdict e refl
keeps_vectors d (write dword o v) e = go (eqb (o % 4) 0) refl (forbidden true d o v) refl e
  where
    go : (a : Bool) → eqb (o % 4) 0 ≡ a → (b : Bool) → forbidden true d o v ≡ b → cond a (cond b unfit passes) unaligned ≡ passes → (step d (write dword o v)).after.core.vectors ≡ d.core.vectors
    go true t true f e = no_verdict e refl
    go true t false f e = no_vector_written d o v (eqb-true (o % 4) 0 t) ((allowed true d o v f).not_vectors refl)
    go false t b f e = no_verdict e refl
keeps_vectors d (write qword o v) e = no_verdict e refl
keeps_vectors d (drain k) e = refl

-- Over calls that are each given the phase after start-up, none a load: the vector bytes in the image left last are those in the image left at first.
pub vectors_stay_after_start_up : (h : Underway) → Faithful h → (xs : List Hoisted) → EachCall (λ x. running x.phase ≡ true) xs → NoLoads h (plain_calls xs)
    → (in_image (carried_through h (plain_calls xs))).core.vectors ≡ (in_image h).core.vectors
vectors_stay_after_start_up h f xs each n =
    let cs = done_calls (plain_calls xs) in
    let kept = along_under (λ d c. (step d c).after.core.vectors ≡ d.core.vectors) (λ x. running x.phase ≡ true) (λ x r d c e. keeps_vectors d c (rw r at e)) h f xs each n in
    ap (λ (d : Device). d.core.vectors) (image_holds_history h f (plain_calls xs) n) ∙ through (current h) cs kept ∙ ap (λ (d : Device). d.core.vectors) (sym (image_holds_device h f))
  where
    through : (d : Device) (cs : List Call) → Along (λ d c. (step d c).after.core.vectors ≡ d.core.vectors) d cs → (history d cs).after.core.vectors ≡ d.core.vectors
    through d cs p =
        fold_calls (λ d ms e. e.core.vectors ≡ d.core.vectors) (λ d. refl) (λ d e f xs ys x y. y ∙ x) (λ d c. (step d c).after.core.vectors ≡ d.core.vectors) (λ d c k. k) d cs p
