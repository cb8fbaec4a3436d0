-- Demand 1, what a refusal changes: 'A refused call changes no state and no lent byte but the answer area, and refusal 7 not even that.' The state is the
-- image. Over every request, with its numbers and a drain's event buffer, every image and every answer area.
use Rattle.basics.proofs.Prelude.{◌≡◌, refl, sym, ap, ◌∙◌, true, List, [], ◌∷◌, ℕ, drop, get_or, test}
use Rattle.calls.specs.Calls.{Tested, pass, refuse, Request, asked_by, Done, performed, answer_length, answered, buffer_of, has_room, Outcome, ended, settled, outcome}
use Rattle.calls.specs.Untouched.{IsDone, left_of, Untouched}
use Rattle.calls.proofs.laws.Refusals.{refused_not_seven}

-- Whatever is asked, of any image and any answer area: where the number handed back is not 0, image and event buffer are as they were, and of the answer area the bytes past its 16; with refusal 7
-- every byte.
pub refused_untouched : (q : Request) (i a : List ℕ) → (IsDone (outcome q i a).number → ⊥) → Untouched (i ∷ buffer_of q ∷ []) a (left_of (outcome q i a))
unfolding outcome answered
refused_untouched q i a n =
    test (has_room q a) (λ t. go t (performed (asked_by q) i) refl)
    (λ t. record { kept = rw t; past = rw t; seven = λ z. rw t })
  where
    go : has_room q a ≡ true → (p : Tested Done) → performed (asked_by q) i ≡ p → Untouched (i ∷ buffer_of q ∷ []) a (left_of (outcome q i a))
    go t (pass y) e = absurd (n (rw (t, e)))
    go t (refuse r) e =
        let left : outcome q i a ≡ settled a (ended q i (refuse r)) = rw (t, e) in
        record {
          kept = ap (λ (o : Outcome). o.image ∷ o.events ∷ []) left;
          past = ap (λ (o : Outcome). drop answer_length o.answer) left;
          seven = λ z. absurd (refused_not_seven q i r e (sym (ap (λ (o : Outcome). o.number) left) ∙ z));
        }

-- what a refused call leaves: the image and the event buffer as they were, and of the answer area the bytes past its 16; with refusal 7 every byte
pub record Unchanged (q : Request) (i a : List ℕ) : Type 0 where
  pub image : (outcome q i a).image ≡ i
  pub events : (outcome q i a).events ≡ buffer_of q
  pub past : drop answer_length (outcome q i a).answer ≡ drop answer_length a
  pub seven : (outcome q i a).number ≡ 7 → (outcome q i a).answer ≡ a

-- Whatever is asked, of any image and any answer area: where the number handed back is not 0, nothing else has changed.
pub refused_changes_nothing : (q : Request) (i a : List ℕ) → ((outcome q i a).number ≡ 0 → ⊥) → Unchanged q i a
refused_changes_nothing q i a n =
    let u = refused_untouched q i a n in
    record {
      image = ap (λ (ls : List (List ℕ)). get_or ls 0 []) u.kept;
      events = ap (λ (ls : List (List ℕ)). get_or ls 1 []) u.kept;
      past = u.past;
      seven = u.seven;
    }
