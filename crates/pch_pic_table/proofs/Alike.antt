-- 02, C-18: 'with the answers and states of the present path'. What a call by the table leaves and what the present one leaves of the same image and answer
-- area is the same number and the same bytes: both contracts are the one equation, which has one outcome.
use Rattle.basics.proofs.Prelude.{◌≡◌, List, [], ℕ}
use Rattle.calls.{specs.Calls.read, specs.Calls.write, specs.Calls.leaves, specs.Calls.outcome, proofs.demands.OneOutcome.one_result}

module _ (image answer : List ℕ) (base size address width : ℕ) where
  -- r and a: what pch_pic_table_read hands back and leaves in the answer area; s and b: what pch_pic_read does
  pub reads_alike : (r s : ℕ) (a b : List ℕ) → leaves r image a [] ≡ outcome (read base size address width) image answer → leaves s image b [] ≡ outcome (read base size address width) image answer → (r ≡ s) × (a ≡ b)
  reads_alike r s a b p q = let e = one_result (read base size address width) image answer r s image image a b [] [] p q in (e.0, e.2)

  -- and i and j: the images that pch_pic_table_write and pch_pic_write leave
  pub writes_alike : (value r s : ℕ) (i j a b : List ℕ) → leaves r i a [] ≡ outcome (write base size address width value) image answer → leaves s j b [] ≡ outcome (write base size address width value) image answer
      → (r ≡ s) × (i ≡ j) × (a ≡ b)
  writes_alike value r s i j a b p q = let e = one_result (write base size address width value) image answer r s i j a b [] [] p q in (e.0, e.1, e.2)
