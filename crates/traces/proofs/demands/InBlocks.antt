-- Each record of a trace whose contents are good stands in one block (02, C-11: blocks back to back in that order).
use Rattle.basics.proofs.Prelude.{◌≡◌, ap, true, List, ℕ, ◌+◌, ◌<◌, zero-add, arith, ltb, ltb-true, ltb-false, part, test}
use Rattle.traces.specs.Trace.{record_length, block_count, block_at, first_place, record_place, record_count, contents_good}
use Rattle.traces.specs.Blocks.{records_before, place_in_block, InBlock, Has}
use Rattle.traces.proofs.laws.{Contents.contents_have, Blocks.begins, Blocks.find, Blocks.apart}

module _ (l : List ℕ) (e : contents_good l ≡ true) where
  -- record j of block b is the record of the trace whose number is j and those before the block
  pub in_trace : (b j : ℕ) → b < block_count l → j < (block_at b l).records → InBlock l (records_before l b + j) b j
  in_trace b j h g =
      let w = begins l (block_count l) (first_place l) 0 b (contents_have l e).stand h in
      let p : record_place l (records_before l b + j) ≡ place_in_block l b j = omega (arith, w.offset, ap (λ c. (block_at c l).offset) (zero-add b)) in
      record { listed = h; inside = g; number = omega arith; place = p; bytes = ap (λ a. part a record_length l) p }

  -- and each record of the trace is such a one
  pub in_a_block : (k : ℕ) → k < record_count l → Has l k
  in_a_block k h =
      let f = find l (block_count l) 0 k h in
      let inside = rw zero-add at f.inside in
      let i = in_trace f.block f.in_it f.listed inside in
      let p : record_place l k ≡ place_in_block l f.block f.in_it = omega (arith, f.number, i.place) in
      record {
        block = f.block;
        in_it = f.in_it;
        stands = record { listed = f.listed; inside = inside; number = f.number; place = p; bytes = ap (λ a. part a record_length l) p };
      }

-- of one block only, at one number
pub in_one_block : (l : List ℕ) (k b c i j : ℕ) → InBlock l k b i → InBlock l k c j → (b ≡ c) × (i ≡ j)
in_one_block l k b c i j x y =
    test (ltb b c) (λ t. absurd (apart l 0 b c i j (ltb-true b c t) (rw zero-add x.inside) (omega (arith, x.number, y.number))))
    (λ t. test (ltb c b) (λ u. absurd (apart l 0 c b j i (ltb-true c b u) (rw zero-add y.inside) (omega (arith, x.number, y.number))))
    (λ u. let s : b ≡ c = omega (arith, ltb-false b c t, ltb-false c b u) in
    (s, omega (arith, x.number, y.number, ap (records_before l) s))))
