-- What `update_irq` comes to: what `decide` gives, and its own mask expression, hold the inputs that can move, and the lowest bit is the first of them.
use Rattle.basics.proofs.Prelude.{◌≡◌, refl, sym, ap, subst, subst⁻¹, ◌∙◌, true, false, List, ℕ, ◌<◌, ◌-◌, ◌^◌, bit_and, bit_or, count_trailing_zeros, get_or, on, inputs, register, put_is, without_only_is, and_below, number_with_lt, first_below, first_input, no_input_lem}
use Rattle.rules.specs.Lines.{with_isr, serve, pending_in}
use Rattle.laws.proofs.laws.Sets.{unlatched_is}
use Rattle.device.specs.{state.View.lines_view, declared.state.Lines.Lines, decide.Sets.waiting_of}
use Rattle.std.specs.Prelude.{Some, None}
use Rattle.device.proofs.decide.Deciding.{inputs_of}
use Rattle.port.specs.irq_level.Moves.{Answers, retire, updated}
use Rattle.port.proofs.irq_level.Turns.{bit}

abbrev with_service : Lines → ℕ → Lines
with_service l x = record { int_mask = l.int_mask; intirr = l.intirr; intisr = x }

-- x holds the inputs of m that wait
module _ (l : Lines) (m x : ℕ) (e : x ≡ register (waiting_of m l.intirr l.int_mask l.intisr)) where
  waiting : inputs (on x) ≡ inputs (pending_in (on m) (lines_view l))
  waiting = inputs_of (waiting_of m l.intirr l.int_mask l.intisr) e

  waiting_lt : x < 2 ^ 64
  waiting_lt = subst⁻¹ (λ (y : ℕ). y < 2 ^ 64) e (number_with_lt 64 (waiting_of m l.intirr l.int_mask l.intisr))

  pub pending_below : (x ≡ 0 → ⊥) → count_trailing_zeros 64 x < 64
  pending_below n = first_below x waiting_lt n

  module _ (vs : List ℕ) (hisr : l.intisr < 2 ^ 64) where
    -- the lowest goes into service
    pub pending_some : (x ≡ 0 → ⊥)
        → Answers (record { lines = with_service l (bit_or l.intisr (bit (count_trailing_zeros 64 x))); answer = Some (get_or vs (count_trailing_zeros 64 x) 0) }) (updated vs (lines_view l) m true)
    pending_some n =
        subst (Answers _) (sym (ap (serve vs false (lines_view l)) (sym waiting ∙ first_input x waiting_lt n)))
        (record { after = ap (with_isr (lines_view l)) (put_is l.intisr (count_trailing_zeros 64 x) hisr (pending_below n)); gives = refl })

    pub pending_none : x ≡ 0 → Answers (record { lines = l; answer = None }) (updated vs (lines_view l) m true)
    pending_none z =
        subst (Answers _) (sym (ap (serve vs false (lines_view l)) (sym waiting ∙ no_input_lem x z)))
        (record { after = refl; gives = refl })

module _ (l : Lines) (m : ℕ) (hm : m < 2 ^ 64) where
  abbrev pub inactive : ℕ
  inactive = bit_and (bit_and m l.intisr) ((2 ^ 64 - 1) - l.intirr)

  inactive_lt : inactive < 2 ^ 64
  inactive_lt = and_below _ _ (and_below _ _ hm)

  pub inactive_below : (inactive ≡ 0 → ⊥) → count_trailing_zeros 64 inactive < 64
  inactive_below n = first_below inactive inactive_lt n

  module _ (vs : List ℕ) (hirr : l.intirr < 2 ^ 64) (hisr : l.intisr < 2 ^ 64) where
    -- the lowest that is in service and not latched leaves it
    pub inactive_some : (inactive ≡ 0 → ⊥)
        → Answers (record { lines = with_service l (bit_and l.intisr ((2 ^ 64 - 1) - bit (count_trailing_zeros 64 inactive))); answer = Some (get_or vs (count_trailing_zeros 64 inactive) 0) }) (updated vs (lines_view l) m false)
    inactive_some n =
        let first = sym (unlatched_is m (lines_view l) hirr) ∙ first_input inactive inactive_lt n in
        subst (Answers _) (sym (ap (retire vs (lines_view l)) first))
        (record { after = ap (with_isr (lines_view l)) (without_only_is l.intisr (count_trailing_zeros 64 inactive) hisr (inactive_below n)); gives = refl })

    pub inactive_none : inactive ≡ 0 → Answers (record { lines = l; answer = None }) (updated vs (lines_view l) m false)
    inactive_none e =
        subst (Answers _) (sym (ap (retire vs (lines_view l)) (sym (unlatched_is m (lines_view l) hirr) ∙ no_input_lem inactive e)))
        (record { after = refl; gives = refl })
