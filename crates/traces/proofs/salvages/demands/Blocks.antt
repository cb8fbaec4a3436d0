-- What is kept (02, C-23): the blocks that are all good, byte for byte in the old order, in a trace that is good; a good trace comes out unchanged, and so does the outcome.
use Rattle.basics.proofs.Prelude.{◌≡◌, sym, ap, subst, ◌∙◌, true, false, cond, false≢true, List, [], ℕ, ◌+◌, ◌*◌, ◌≤◌, arith, ltb, length, ltb-true, not-true, Bytes, test, Each, length_part}
use Rattle.traces.specs.Trace.{record_length, block_count, first_place, record_count, contents_good, nth, is_good, is_bad, first_bad, TraceTest, good, wrong_contents, found_bad, trace_test}
use Rattle.traces.specs.salvages.Kept.{bodies, all_good, kept, dropped_from, joined, entries, trace_of, new_trace, drop_list}
use Rattle.traces.proofs.{laws.Contents.contents_have, laws.Firsts.first_found, demands.Told.AllGood, demands.Told.Means, demands.Told.test_told}
use Rattle.traces.proofs.salvages.laws.Chosen.{kept_each, kept_all_good, good_kept, good_none_dropped, kept_twice, kept_or_dropped, kept_shorter, length_entries}
use Rattle.traces.proofs.salvages.laws.Built.{Fit, length_trace, bodies_are, contents_good_lem}
use Rattle.traces.proofs.salvages.laws.Taken.{length_bodies, all_standing, joined_all, bodies_good, records_good, bodies_fit, trace_again}

-- ---- all records are good

-- of a trace with good contents that has only good blocks
pub all_good_tested : (m : List ℕ) → contents_good m ≡ true → Each (λ x. all_good x ≡ true) (bodies m) → trace_test m ≡ good (first_place m) (record_count m)
unfolding trace_test
all_good_tested m c e =
    let f = first_found (λ k. is_bad (nth m k)) (record_count m) 0 in
    let j = first_bad (λ k. is_bad (nth m k)) (record_count m) 0 in
    let g = records_good m (block_count m) 0 (first_place m) (all_standing m c) e in
    let none : ltb j (record_count m) ≡ false =
    test (ltb j (record_count m))
    (λ t. let h = ltb-true j (record_count m) t in absurd (false≢true (sym (not-true (is_good (nth m j)) (f.here (omega (arith, h)))) ∙ g j h)))
    (λ t. t) in
    ap (λ t. cond t (found_bad (first_place m) (record_count m) j) wrong_contents) c ∙ ap (λ t. cond t (TraceTest.bad_record j) (good (first_place m) (record_count m))) none

-- a good trace has only good blocks
pub good_blocks : (l : List ℕ) {first n : ℕ} → trace_test l ≡ good first n → Each (λ x. all_good x ≡ true) (bodies l)
good_blocks l e =
    let a : AllGood l _ _ = subst (Means l) e (test_told l) in
    bodies_good l (block_count l) 0 (first_place l) (all_standing l a.contents) a.each

-- ---- what is kept

module _ (l : List ℕ) (g : contents_good l ≡ true) where
  kept_fit : Fit (kept (bodies l))
  kept_fit =
      let f = bodies_fit l g in
      record {
        whole = kept_each _ (bodies l) f.whole;
        few = omega (arith, f.few, kept_or_dropped 0 (bodies l));
        most = omega (arith, f.most, kept_shorter (bodies l));
      }

  -- the new trace's blocks are the good blocks of the old one, byte for byte and in their order
  pub kept_stands : bodies (new_trace l) ≡ kept (bodies l)
  kept_stands = bodies_are (kept (bodies l)) kept_fit

  -- its length: the contents, and the blocks that are kept
  pub new_length : length (new_trace l) ≡ 2 + 4 * length (kept (bodies l)) + length (joined (kept (bodies l)))
  new_length = length_trace (kept (bodies l))

  pub new_fits : length (new_trace l) ≤ 65536
  new_fits = omega (arith, new_length, kept_fit.few, kept_fit.most)

  -- it is no longer than the old one, so that a second buffer of that length has room
  pub no_longer : length (new_trace l) ≤ length l
  no_longer =
      let g₀ = contents_have l g in
      let old : length (joined (bodies l)) ≡ record_length * record_count l =
      ap length (joined_all l g) ∙ length_part l (first_place l) (record_length * record_count l) (omega (arith, g₀.ends)) in
      omega (arith, new_length, kept_shorter (bodies l), kept_or_dropped 0 (bodies l), length_bodies l (block_count l) 0, old, g₀.ends)

  -- and 63 entries have room for every list, since one block is kept
  pub list_fits : 1 ≤ length (kept (bodies l)) → length (drop_list l) ≤ 252
  list_fits h = omega (arith, length_entries (dropped_from 0 (bodies l)), kept_or_dropped 0 (bodies l), (bodies_fit l g).few)

  -- where a block is left, what comes out is a good trace
  pub comes_out_good : 1 ≤ length (kept (bodies l)) → trace_test (new_trace l) ≡ good (first_place (new_trace l)) (record_count (new_trace l))
  comes_out_good h =
      all_good_tested (new_trace l) (contents_good_lem (kept (bodies l)) kept_fit h) (subst (Each (λ x. all_good x ≡ true)) (sym kept_stands) (kept_all_good (bodies l)))

  -- salvaging it again changes nothing, and lists nothing
  pub again_the_same : new_trace (new_trace l) ≡ new_trace l
  again_the_same = ap (λ xs. trace_of (kept xs)) kept_stands ∙ ap trace_of (kept_twice (bodies l))

-- a good trace comes out unchanged, with an empty list
pub good_unchanged : (l : List ℕ) → Bytes l → {first n : ℕ} → trace_test l ≡ good first n → new_trace l ≡ l
good_unchanged l c e =
    let a : AllGood l _ _ = subst (Means l) e (test_told l) in
    ap trace_of (good_kept (bodies l) (good_blocks l e)) ∙ trace_again l a.contents c

pub good_unlisted : (l : List ℕ) {first n : ℕ} → trace_test l ≡ good first n → drop_list l ≡ []
unfolding entries
good_unlisted l e = ap entries (good_none_dropped 0 (bodies l) (good_blocks l e))
