-- The sizes of a trace whose contents are good (02, C-11): up to 4,000 calls, held whole in a buffer of 64 KiB.
use Rattle.basics.proofs.Prelude.{◌≡◌, true, List, ℕ, zero, suc, ◌+◌, ◌*◌, ◌<◌, ◌≤◌, arith, length}
use Rattle.traces.specs.Trace.{record_length, block_count, blocks_from, records_in, back_to_back, first_place, record_place, record_count, contents_good}
use Rattle.traces.proofs.laws.{Contents.Good, Contents.contents_have, Blocks.records_front, Blocks.stand_front}

module _ (l : List ℕ) (e : contents_good l ≡ true) where
  facts : Good l
  facts = contents_have l e

  -- 1 to 4,000 records: none of the blocks is empty, and there is one
  pub has_records : 1 ≤ record_count l
  has_records = go (block_count l) facts.some facts.stand
    where
      go : (n : ℕ) → 1 ≤ n → back_to_back (first_place l) (blocks_from n 0 l) ≡ true → 1 ≤ records_in (blocks_from n 0 l)
      go zero h s = absurd (omega arith)
      go (suc n) h s = omega (arith, records_front l n 0, (stand_front l (first_place l) n 0 s).some)

  pub few_records : record_count l ≤ 4000
  few_records = omega (arith, facts.most)

  -- the contents and the records are all of it
  pub trace_length : length l ≡ 2 + 4 * block_count l + 16 * record_count l
  trace_length = omega (arith, facts.ends)

  -- so it has at most 2 + 64 * 4 + 4,000 * 16 bytes,
  pub longest_trace : length l ≤ 64258
  longest_trace = omega (arith, facts.few, facts.most, facts.ends)

  -- and fits a buffer of 64 KiB
  pub trace_fits : length l ≤ 65536
  trace_fits = omega (arith, longest_trace)

  -- so each record stands whole in it
  pub record_fits : (k : ℕ) → k < record_count l → record_place l k + record_length ≤ length l
  record_fits k h = omega (arith, facts.ends)
