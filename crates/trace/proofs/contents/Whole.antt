-- The contents as a whole: each refusal is a fact of good contents that does not hold.
use Rattle.basics.proofs.Prelude.{◌≡◌, refl, sym, ap, ◌∙◌, Bool, true, false, ◌&&◌, false≢true, and-eq-true_iff, List, ℕ, ◌+◌, ◌*◌, ◌≤◌, arith, leb, length, le-leb, leb-true}
use Rattle.std.specs.Prelude.{Some, None}
use Rattle.traces.specs.Trace.{most_blocks, most_records, record_length, block_count, blocks, back_to_back, first_place, record_count}
use Rattle.traces.proofs.laws.Contents.{contents_are, contents_wrong, Good}
use Rattle.trace.specs.{blocks.Found.listed_if, blocks.Found.standing, blocks.Found.listed_as, contents.Found.contents_if, contents.Found.contents_as}

-- an answer about blocks taken apart
some_if : (t : Bool) (n r : ℕ) → Some r ≡ listed_if t n → (t ≡ true) × (n ≡ r)
some_if true n r e = (refl, cc)
some_if false n r e = absurd (cc)

none_if : (t : Bool) (n : ℕ) → None ≡ listed_if t n → t ≡ false
none_if true n e = absurd (cc)
none_if false n e = refl

module _ (l : List ℕ) where
  pub wrong_is : (Good l → ⊥) → None ≡ contents_as l
  wrong_is n = sym (ap (λ t. contents_if t (first_place l) (record_count l)) (contents_wrong l n))

  -- n blocks, which are those that the contents name
  module _ {n : ℕ} (e : n ≡ block_count l) where
    -- they do not stand
    pub not_listed : None ≡ listed_as n l → None ≡ contents_as l
    not_listed w =
        wrong_is (λ g. let no-stand = none_if (standing (block_count l) l) (record_count l) (w ∙ ap (λ m. listed_as m l) e) in
        let stand : standing (block_count l) l ≡ true = λ t. g.stand t && le-leb (record_count l) most_records g.most t in
        false≢true (sym no-stand ∙ stand))

    -- they stand
    module _ {r : ℕ} (w : Some r ≡ listed_as n l) where
      are_listed : (standing (block_count l) l ≡ true) × (record_count l ≡ r)
      are_listed = some_if (standing (block_count l) l) (record_count l) r (w ∙ ap (λ m. listed_as m l) e)

      both : (back_to_back (first_place l) (blocks l) ≡ true) × (leb (record_count l) most_records ≡ true)
      both = (and-eq-true_iff (back_to_back (first_place l) (blocks l)) (leb (record_count l) most_records)).0 are_listed.0

      -- but the trace does not end with them
      pub other_end : (length l ≡ 2 + 4 * n + record_length * r → ⊥) → None ≡ contents_as l
      other_end k = wrong_is (λ g. k (omega (arith, g.ends, are_listed.1)))

      -- and all is as it has to be
      pub good_is : 1 ≤ n → n ≤ most_blocks → length l ≡ 2 + 4 * n + record_length * r → Some (record { first = 2 + 4 * n; count = r }) ≡ contents_as l
      good_is some few ends =
          let all : Good l = record {
            some = omega arith;
            few = omega arith;
            stand = both.0;
            most = leb-true (record_count l) most_records both.1;
            ends = omega (arith, are_listed.1);
          }
          in
          (λ t. Some (record { first = 2 + 4 * e t; count = sym are_listed.1 t })) ∙ sym (ap (λ t. contents_if t (first_place l) (record_count l)) (contents_are l all))
