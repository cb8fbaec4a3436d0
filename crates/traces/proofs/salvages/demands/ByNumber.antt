-- The numbers that a salvage hands back, each exactly when (02, C-23), by its table in specs/Refusals.antt; and what a refused salvage leaves (00, demand 1).
use Rattle.basics.proofs.Prelude.{◌≡◌, ap, true, false, and-false, List, [], ◌∷◌, ◌⊎◌, inl, inr, ℕ, ◌<◌, ◌≤◌, arith, leb, length, eqb-true, eqb-false, leb-true, leb-false, lt-leb, test}
use Rattle.calls.specs.{Untouched.Left, Untouched.left, Untouched.Untouched, Calls.AnswerRoom, Untouched.IsDone}
use Rattle.calls.specs.Reasons.{bad_contents, bad_at, Reason, short_room, of_image, of_request, of_trace, of_profile, none_left, of_tally, refused_for, Refuses, ByNumber}
use Rattle.traces.specs.Trace.{contents_good}
use Rattle.traces.specs.salvages.Kept.{bodies, kept, new_trace, drop_list}
use Rattle.traces.specs.salvages.Salvaging.{is_empty, salvage_room, SalvageLeft, salvaging}
use Rattle.traces.specs.Refusals.{salvage_left, NoSalvageRoom, SalvageGiven}
use Rattle.traces.proofs.salvages.demands.Left as salvage
use Rattle.traces.proofs.salvages.demands.Left.{twelve_left, sixteen_left, seven_left, done_left}
use Rattle.calls.proofs.laws.Tables as tables
use Rattle.traces.proofs.salvages.laws.Computed as computed

module _ (l ks ds a : List ℕ) where
  abbrev salvaged : SalvageLeft
  salvaged = salvaging l ks ds a

  abbrev lent : List (List ℕ)
  lent = ks ∷ ds ∷ []

  short : length a < 16 → salvage_left salvaged ≡ refused_for short_room lent a
  unfolding salvaging
  short h = rw (lt-leb 16 (length a) h)

  no_room_lem : NoSalvageRoom l ks ds → salvage_room l ks ds ≡ false
  no_room_lem (inl h) = rw (lt-leb (length (new_trace l)) (length ks) h)
  no_room_lem (inr h) = rw (lt-leb (length (drop_list l)) (length ds) h, and-false (leb (length (new_trace l)) (length ks)))

  salvage_refuses : (r : Reason) → SalvageGiven l ks ds a r → salvage_left salvaged ≡ refused_for r lent a
  salvage_refuses short_room (inl h) = short h
  salvage_refuses short_room (inr g) = ap salvage_left (seven_left l ks ds a g.0 g.1 g.2 (no_room_lem g.3))
  salvage_refuses (of_image x) g = absurd g
  salvage_refuses (of_request w) g = absurd g
  salvage_refuses (of_trace bad_contents) g = ap salvage_left (twelve_left l ks ds a g.0 g.1)
  salvage_refuses (of_trace (bad_at k)) g = absurd g
  salvage_refuses (of_profile v) g = absurd g
  salvage_refuses none_left g = ap salvage_left (sixteen_left l ks ds a g.0 g.1 (salvage.none_left (bodies l) g.2))
  salvage_refuses (of_tally p) g = absurd g

  abbrev Why : Type 0
  Why = (r : Reason) × SalvageGiven l ks ds a r

  salvage_given : (IsDone salvaged.number → ⊥) → Why
  salvage_given n = test (leb 16 (length a)) (λ t. tested (leb-true 16 (length a) t)) (λ t. (short_room, inl (leb-false 16 (length a) t)))
    where
      roomed : AnswerRoom a → contents_good l ≡ true → 1 ≤ length (kept (bodies l)) → Why
      roomed h c s =
          test (leb (length (new_trace l)) (length ks))
          (λ t. test (leb (length (drop_list l)) (length ds))
          (λ u. absurd (n (ap (λ (x : SalvageLeft). x.number) (done_left l ks ds a h (record {
            contents = c;
            some = s;
            second = leb-true (length (new_trace l)) (length ks) t;
            list = leb-true (length (drop_list l)) (length ds) u;
          })))))
          (λ u. (short_room, inr (h, c, s, inr (leb-false (length (drop_list l)) (length ds) u)))))
          (λ t. (short_room, inr (h, c, s, inl (leb-false (length (new_trace l)) (length ks) t))))

      tested : AnswerRoom a → Why
      tested h =
          test (contents_good l)
          (λ c. test (is_empty l) (λ e. (none_left, (h, c, eqb-true (length (kept (bodies l))) 0 e)))
          (λ e. roomed h c (omega (arith, eqb-false (length (kept (bodies l))) 0 e))))
          (λ c. (of_trace bad_contents, (h, c)))

  -- A salvage keeps to its table.
  pub refusals_of_a_salvage : Refuses (SalvageGiven l ks ds a) lent a (salvage_left salvaged)
  refusals_of_a_salvage = record { refused = salvage_refuses; given = salvage_given }

  pub salvage_by_number : ByNumber (SalvageGiven l ks ds a) salvaged.number
  salvage_by_number = tables.each_number (SalvageGiven l ks ds a) lent a _ refusals_of_a_salvage

  -- not done: the two buffers are as they were, and of the answer area the bytes past its 16; with 7 every byte
  pub refused_salvage_untouched : (IsDone salvaged.number → ⊥) → Untouched lent a (salvage_left salvaged)
  refused_salvage_untouched = tables.refused_untouched (SalvageGiven l ks ds a) lent a _ refusals_of_a_salvage
