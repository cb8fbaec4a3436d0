-- Good contents, fact by fact.
use Rattle.basics.proofs.Prelude.{◌≡◌, true, false, and-eq-true_iff, List, ℕ, ◌+◌, ◌*◌, ◌≤◌, length, leb-true, eqb-true, le-leb, eq-eqb, test}
use Rattle.traces.specs.Trace.{most_blocks, most_records, record_length, block_count, blocks, back_to_back, first_place, record_count, contents_good}
use Rattle.traces.proofs.laws.Computed as computed

pub record Good (l : List ℕ) : Type 0 where
  pub some : 1 ≤ block_count l
  pub few : block_count l ≤ most_blocks
  pub stand : back_to_back (first_place l) (blocks l) ≡ true
  pub most : record_count l ≤ most_records
  pub ends : length l ≡ first_place l + record_length * record_count l

module _ (l : List ℕ) where
  pub contents_have : contents_good l ≡ true → Good l
  unfolding contents_good
  contents_have e =
      let a = (and-eq-true_iff _ _).0 e in
      let b = (and-eq-true_iff _ _).0 a.0 in
      let c = (and-eq-true_iff _ _).0 a.1 in
      let d = (and-eq-true_iff _ _).0 c.1 in
      record {
        some = leb-true 1 (block_count l) b.0;
        few = leb-true (block_count l) most_blocks b.1;
        stand = c.0;
        most = leb-true (record_count l) most_records d.0;
        ends = eqb-true (length l) (first_place l + record_length * record_count l) d.1;
      }

  pub contents_are : Good l → contents_good l ≡ true
  unfolding contents_good
  contents_are g =
      rw (
        le-leb 1 (block_count l) g.some,
        le-leb (block_count l) most_blocks g.few,
        g.stand,
        le-leb (record_count l) most_records g.most,
        eq-eqb (length l) (first_place l + record_length * record_count l) g.ends,
      )

  -- whatever keeps a fact from holding
  pub contents_wrong : (Good l → ⊥) → contents_good l ≡ false
  contents_wrong n = test (contents_good l) (λ t. absurd (n (contents_have t))) (λ t. t)
