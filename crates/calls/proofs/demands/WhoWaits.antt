-- What is asked of the call that tells who waits: it changes nothing, it is refused as a poll is, and its value has bit n where input n waits. Of any image and
-- any answer area.
use Rattle.basics.proofs.Prelude.{◌≡◌, refl, sym, ap, ◌∙◌, true, List, [], ◌∷◌, ℕ, ◌<◌, arith, lit<, drop, leb, length, get_or, leb-true, on, number_with_lt, on_number, test, ◌≤◌}
use Rattle.rules.specs.Lines.{is_pending}
use Rattle.images.specs.Image.{ImageTest, image_test, decode}
use Rattle.calls.specs.Calls.{fault_number, Tested, pass, refuse, performed, answer_length, answered, value_in, Outcome, outcome}
use Rattle.calls.specs.Untouched.{IsDone, left_of, Untouched}
use Rattle.calls.specs.Waiting.{waiting_in, waiting_told, waiting}
use Rattle.calls.proofs.laws.Answers.{value_read}
use Rattle.calls.proofs.demands.Refused.{refused_untouched}
use Rattle.images.specs.Image as image
use Rattle.calls.specs.Calls as request
use Rattle.calls.proofs.laws.Waits as computed

module _ (i a : List ℕ) where
  -- Where it is refused, number and bytes are those of a poll, of whatever input: the same tests in the same order, 7, 4, 5, 8 to 11.
  pub refused_as_a_poll : (n : ℕ) → n < 64 → ((waiting i a).number ≡ 0 → ⊥) → waiting i a ≡ outcome (request.poll n) i a
  unfolding waiting waiting_told outcome performed
  refused_as_a_poll n b undone = test (leb answer_length (length a)) (λ t. go t (image_test i) refl) (λ t. rw t)
    where
      go : leb answer_length (length a) ≡ true → (u : ImageTest) → image_test i ≡ u → waiting i a ≡ outcome (request.poll n) i a
      go t image.accepted e = absurd (undone (rw (t, e)))
      go t image.wrong_length e = rw (t, e)
      go t image.wrong_contents e = rw (t, e)
      go t (image.broken k p) e = rw (t, e)

  -- Done or refused, it leaves what a refused call leaves: no byte of the image changes, nor one of the answer area past its 16; with refusal 7 none at all. There is no event buffer.
  stays : ((left_of (waiting i a)).lent ≡ i ∷ [] ∷ []) × (drop answer_length (waiting i a).answer ≡ drop answer_length a)
  unfolding waiting answered
  stays = test (leb answer_length (length a)) (λ t. go t (waiting_told i) refl) (λ t. (rw t, rw t))
    where
      go : leb answer_length (length a) ≡ true → (x : Tested ℕ) → waiting_told i ≡ x → ((left_of (waiting i a)).lent ≡ i ∷ [] ∷ []) × (drop answer_length (waiting i a).answer ≡ drop answer_length a)
      go t (pass w) e = (rw (t, e), rw t)
      go t (refuse r) e = (rw (t, e), rw t)

  pub waiting_untouched : Untouched (i ∷ [] ∷ []) a (left_of (waiting i a))
  waiting_untouched = record { kept = stays.0; past = stays.1; seven = seven }
    where
      seven : (waiting i a).number ≡ 7 → (waiting i a).answer ≡ a
      seven z =
          let refused : IsDone (waiting i a).number → ⊥ = λ e. let y : ◌≡◌ {A = ℕ} 7 0 = sym z ∙ e in omega arith in
          let same = refused_as_a_poll 0 (lit< tt) refused in
          let number = ap (λ (o : Outcome). o.number) same in
          ap (λ (o : Outcome). o.answer) same ∙ (refused_untouched (request.poll 0) i a (λ e. refused (number ∙ e))).seven (sym number ∙ z)

  -- No byte of the image changes, nor one of the answer area past its 16; there is no event buffer.
  pub record Stays : Type 0 where
    pub image : (waiting i a).image ≡ i
    pub events : (waiting i a).events ≡ []
    pub past : drop answer_length (waiting i a).answer ≡ drop answer_length a

  pub waiting_changes_nothing : Stays
  waiting_changes_nothing = record {
    image = ap (λ (ls : List (List ℕ)). get_or ls 0 []) stays.0;
    events = ap (λ (ls : List (List ℕ)). get_or ls 1 []) stays.0;
    past = stays.1;
  }

  -- Done, the image was accepted and there was room; a poll of any input is then done too.
  pub waiting_done : (waiting i a).number ≡ 0 → (image_test i ≡ image.accepted) × (answer_length ≤ length a)
  unfolding waiting waiting_told
  waiting_done z = test (leb answer_length (length a)) (λ t. (go t (image_test i) refl, leb-true answer_length (length a) t)) (λ t. absurd (let x : ◌≡◌ {A = ℕ} 7 0 = rw t at z in omega arith))
    where
      go : leb answer_length (length a) ≡ true → (u : ImageTest) → image_test i ≡ u → image_test i ≡ image.accepted
      go t image.accepted e = e
      go t image.wrong_length e = absurd (let x : ◌≡◌ {A = ℕ} 4 0 = rw (t, e) at z in omega arith)
      go t image.wrong_contents e = absurd (let x : ◌≡◌ {A = ℕ} 5 0 = rw (t, e) at z in omega arith)
      go t (image.broken k p) e = absurd (never k (rw (t, e) at z))
        where
          never : (k : image.Fault) → fault_number k ≡ 0 → ⊥
          never image.copy_differs x = omega arith
          never image.many_wait x = omega arith
          never image.bad_flag x = omega arith
          never image.unused_set x = omega arith

  -- Its value is the set of the inputs that are latched, unmasked and not in service: bit n is on where input n is one of them.
  module _ (z : (waiting i a).number ≡ 0) where
    pub set_in_the_answer : value_in (waiting i a).answer ≡ waiting_in (decode i).core.lines
    unfolding waiting waiting_told
    set_in_the_answer =
        let d = waiting_done z in
        test (leb answer_length (length a)) (λ t. rw (t, d.0) (value_read 0 a (waiting_in (decode i).core.lines) (number_with_lt 64 (is_pending (decode i).core.lines))))
        (λ t. absurd (let x : ◌≡◌ {A = ℕ} 7 0 = rw t at z in omega arith))

    pub each_that_waits : (n : ℕ) → n < 64 → on (value_in (waiting i a).answer) n ≡ is_pending (decode i).core.lines n
    each_that_waits n b = ap (λ w. on w n) set_in_the_answer ∙ on_number 64 (is_pending (decode i).core.lines) n b
