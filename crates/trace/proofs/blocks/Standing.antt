-- Blocks looked at one after another: those before number b stand, and what is left decides.
use Rattle.basics.proofs.Prelude.{◌≡◌, sym, ap, ◌∙◌, false, ◌&&◌, and-false, List, ℕ, suc, ◌+◌, ◌-◌, ◌*◌, ◌<◌, ◌≤◌, arith, eqb, leb, eq-eqb, ne_eqb, le-leb, lt-leb}
use Rattle.std.specs.Prelude.{Some, None}
use Rattle.traces.specs.Trace.{most_records, record_length, two_at, listed_at, block_at, blocks_from, records_in, back_to_back}
use Rattle.traces.proofs.laws.Blocks.{records_none, records_front, stand_none, stand_next}
use Rattle.trace.specs.{blocks.Found.listed_if, blocks.Found.standing, blocks.Found.listed_as}

-- of n blocks the first b stand and have r records
pub record Looked (l : List ℕ) (n r b : ℕ) : Type 0 where
  pub reach : b ≤ n
  pub most : r ≤ most_records
  pub stand : back_to_back (listed_at n) (blocks_from n 0 l) ≡ back_to_back (listed_at n + record_length * r) (blocks_from (n - b) b l)
  pub count : records_in (blocks_from n 0 l) ≡ r + records_in (blocks_from (n - b) b l)

module _ (l : List ℕ) (n r b : ℕ) (w : Looked l n r b) where
  wrong_if : standing n l ≡ false → None ≡ listed_as n l
  wrong_if e = sym (ap (λ t. listed_if t (records_in (blocks_from n 0 l))) e)

  -- all have been looked at
  pub looked_all : n ≤ b → Some r ≡ listed_as n l
  looked_all h =
      let z : n - b ≡ 0 = omega arith in
      let all : records_in (blocks_from n 0 l) ≡ r = w.count ∙ ap (λ m. r + records_in (blocks_from m b l)) z ∙ omega (arith, records_none l b) in
      let back = w.stand ∙ ap (λ m. back_to_back (listed_at n + record_length * r) (blocks_from m b l)) z ∙ stand_none l (listed_at n + record_length * r) b in
      sym ((λ t. listed_if (back t && leb (all t) most_records) (all t)) ∙ ap (λ t. listed_if t r) (le-leb r most_records w.most))

  module _ (h : b < n) where
    left : n - b ≡ suc (n - (b + 1))
    left = omega arith

    -- what the next block decides
    abbrev further : ℕ
    further = listed_at n + record_length * r

    here : back_to_back (listed_at n) (blocks_from n 0 l)
        ≡ eqb (block_at b l).offset further && (leb 1 (block_at b l).records && back_to_back (further + record_length * (block_at b l).records) (blocks_from (n - (b + 1)) (suc b) l))
    here = w.stand ∙ ap (λ m. back_to_back further (blocks_from m b l)) left ∙ stand_next l further (n - (b + 1)) b

    more : records_in (blocks_from n 0 l) ≡ r + ((block_at b l).records + records_in (blocks_from (n - (b + 1)) (suc b) l))
    more = w.count ∙ ap (λ m. r + records_in (blocks_from m b l)) left ∙ ap (λ m. r + m) (records_front l (n - (b + 1)) b)

    -- it begins at another place
    pub other_offset : {x : ℕ} → x ≡ two_at (listed_at b) l → (x ≡ further → ⊥) → None ≡ listed_as n l
    other_offset e k =
        wrong_if (ap (λ t. t && leb (records_in (blocks_from n 0 l)) most_records)
        (here ∙ ap (λ t. t && (leb 1 (block_at b l).records && back_to_back (further + record_length * (block_at b l).records) (blocks_from (n - (b + 1)) (suc b) l)))
        (ne_eqb (block_at b l).offset further (λ z. k (e ∙ z)))))

    module _ {y : ℕ} (e : y ≡ two_at (listed_at b + 2) l) where
      -- it is empty
      pub no_record : y ≡ 0 → None ≡ listed_as n l
      no_record z =
          let none : (block_at b l).records < 1 = omega (arith, e) in
          wrong_if (ap (λ t. t && leb (records_in (blocks_from n 0 l)) most_records)
          (here ∙ ap (λ t. eqb (block_at b l).offset further && (t && back_to_back (further + record_length * (block_at b l).records) (blocks_from (n - (b + 1)) (suc b) l)))
          (lt-leb 1 (block_at b l).records none) ∙ and-false (eqb (block_at b l).offset further)))

      -- there are too many
      pub too_many : most_records < r + y → None ≡ listed_as n l
      too_many z =
          wrong_if (ap (λ t. back_to_back (listed_at n) (blocks_from n 0 l) && t) (lt-leb (records_in (blocks_from n 0 l)) most_records (omega (arith, e, more)))
          ∙ and-false (back_to_back (listed_at n) (blocks_from n 0 l)))

      -- it stands
      pub looked_on : {x : ℕ} → x ≡ two_at (listed_at b) l → x ≡ further → (y ≡ 0 → ⊥) → r + y ≤ most_records → Looked l n (r + y) (b + 1)
      looked_on d p s m =
          let some : 1 ≤ (block_at b l).records = omega (arith, e) in
          let there : further + record_length * (block_at b l).records ≡ listed_at n + record_length * (r + y) = omega (arith, e) in
          let sum : r + ((block_at b l).records + records_in (blocks_from (n - (b + 1)) (suc b) l)) ≡ r + y + records_in (blocks_from (n - (b + 1)) (suc b) l) = omega (arith, e) in
          let step : suc b ≡ b + 1 = omega arith in
          record {
            reach = omega arith;
            most = m;
            stand = here ∙ (λ t. eq-eqb (block_at b l).offset further (sym d ∙ p) t
                && (le-leb 1 (block_at b l).records some t && back_to_back (there t) (blocks_from (n - (b + 1)) (step t) l)));
            count = more ∙ sum ∙ ap (λ c. r + y + records_in (blocks_from (n - (b + 1)) c l)) step;
          }
