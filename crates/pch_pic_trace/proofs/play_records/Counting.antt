-- The records that drain, counted one by one.
use Rattle.basics.proofs.Prelude.{◌≡◌, refl, sym, ap, ◌∙◌, List, ℕ, zero, suc, ◌+◌, ◌*◌, ◌≤◌, zero-le, zero-add, arith, eqb, ne_eqb, test}
use Rattle.traces.specs.{Trace.Record, Trace.record_length, Trace.first_place, Trace.record_at, Trace.nth, Played.records_from, plays.Playing.drains, plays.Playing.drains_in}
use Rattle.traces.proofs.plays.laws.Rooms.{drains_last}

pub none_counted : (l : List ℕ) → 0 ≡ drains_in (records_from l 0 0)
unfolding drains_in records_from
none_counted l = refl

module _ (l : List ℕ) (first k : ℕ) (place : first ≡ first_place l) {n : ℕ} (counted : n ≡ drains_in (records_from l k 0)) (r : Record) (e : r ≡ record_at (first + record_length * k) l) where
  one_more : n + drains r ≡ drains_in (records_from l (k + 1) 0)
  one_more =
      let z : suc k ≡ k + 1 = omega arith in
      let its : nth l (0 + k) ≡ r = ap (nth l) (zero-add k) ∙ sym (e ∙ ap (λ (a : ℕ). record_at (a + record_length * k) l) place) in
      (λ t. counted t + drains (sym its t)) ∙ sym (drains_last l k 0) ∙ ap (λ (m : ℕ). drains_in (records_from l m 0)) z

  pub one_counted : r.kind ≡ 6 → n + 1 ≡ drains_in (records_from l (k + 1) 0)
  one_counted h = (rw h at one_more)

  pub other_counted : (r.kind ≡ 6 → ⊥) → n ≡ drains_in (records_from l (k + 1) 0)
  other_counted h =
      let z : n ≡ n + drains r = rw (ne_eqb r.kind 6 h) (omega arith) in
      z ∙ one_more

-- no more drain than there are
pub few_counted : (l : List ℕ) (k j : ℕ) → drains_in (records_from l k j) ≤ k
unfolding drains_in records_from
few_counted l zero j = zero-le
few_counted l (suc k) j =
    let m = few_counted l k (suc j) in
    test (eqb (nth l j).kind 6) (λ t. rw t (omega (arith, m))) (λ t. rw t (omega (arith, m)))
