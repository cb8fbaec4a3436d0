-- What is listed (02, C-23): in rising order the blocks that have a bad record, each with the first bad one in it; and every block is kept or listed.
use Rattle.basics.proofs.Prelude.{◌≡◌, refl, sym, ap, ◌∙◌, Bool, true, false, not, List, [], ◌∷◌, ◌++◌, ℕ, zero, suc, ◌+◌, ◌*◌, ◌<◌, ◌≤◌, arith, length, eqb-false, not-true, not-false, number_of_bytes_of, Each}
use Rattle.traces.specs.{Trace.record_length, Trace.block_count, Trace.block_at, Trace.first_place, Trace.contents_good, Trace.record_at, Trace.is_good, Trace.is_bad, Blocks.place_in_block}
use Rattle.traces.specs.salvages.Kept.{body_of, bodies_from, bodies, records_of, bad_in, all_good, front_if, kept, Dropped, dropped_from, entries, entries_in, drop_list}
use Rattle.traces.proofs.{laws.Contents.contents_have, laws.Firsts.first_found, salvages.laws.Chosen.kept_or_dropped}
use Rattle.traces.proofs.salvages.laws.Taken.{Standing, record_in, records_body, others, all_standing, length_bodies, within}

-- ---- rising

-- numbers from b on, each greater than the one before
abbrev pub Rising : ℕ → List Dropped → Type 0
Rising b [] = Unit {0}
Rising b (d ∷ ds) = (b ≤ d.block) × Rising (suc d.block) ds

pub rising : (b : ℕ) (xs : List (List ℕ)) → Rising b (dropped_from b xs)
unfolding dropped_from
rising b [] = tt
rising b (x ∷ xs) = go (all_good x) (rising (suc b) xs)
  where
    lower : (ds : List Dropped) → Rising (suc b) ds → Rising b ds
    lower [] r = r
    lower (d ∷ ds) r = (omega (arith, r.0), r.1)

    go : (t : Bool) → Rising (suc b) (dropped_from (suc b) xs) → Rising b (front_if (not t) (record { block = b; bad = bad_in x }) (dropped_from (suc b) xs))
    go true r = lower (dropped_from (suc b) xs) r
    go false r = (omega arith, r)

-- ---- the first bad record in each

-- an entry names a block of the trace and a record in it, which is bad; none before it in the block is
pub record Torn (l : List ℕ) (d : Dropped) : Type 0 where
  pub listed : d.block < block_count l
  pub in_it : d.bad < (block_at d.block l).records
  pub bad : is_good (record_at (place_in_block l d.block d.bad) l) ≡ false
  pub before : (j : ℕ) → j < d.bad → is_good (record_at (place_in_block l d.block j) l) ≡ true

-- ---- what is read of the list

abbrev Small : Dropped → Type 0
Small d = (d.block < 65536) × (d.bad < 65536)

read_entries : (ds : List Dropped) (r : List ℕ) → Each Small ds → entries_in (length ds) (entries ds ++ r) ≡ ds
unfolding entries entries_in
read_entries [] r e = refl
read_entries (d ∷ ds) r e =
    (λ t. record { block = number_of_bytes_of 2 d.block e.0.0 t; bad = number_of_bytes_of 2 d.bad e.0.1 t } ∷ read_entries ds r e.1 t)

module _ (l : List ℕ) where
  one_torn : (n b at : ℕ) → Standing l (suc n) b at → b < block_count l → all_good (body_of b l) ≡ false → Torn l (record { block = b; bad = bad_in (body_of b l) })
  one_torn n b at s h e =
      let x = body_of b l in
      let f = first_found (λ k. is_bad (record_at (record_length * k) x)) (records_of x) 0 in
      let size = records_body l n b at s in
      let below : bad_in x < records_of x = omega (arith, f.reach, eqb-false (bad_in x) (records_of x) e) in
      let its : (j : ℕ) → j < (block_at b l).records → record_at (record_length * j) x ≡ record_at (place_in_block l b j) l = λ j k. record_in l (block_at b l).offset (block_at b l).records j k in
      record {
        listed = h;
        in_it = omega (arith, below, size);
        bad = ap is_good (sym (its (bad_in x) (omega (arith, below, size)))) ∙ not-true (is_good (record_at (record_length * bad_in x) x)) (f.here (omega (arith, below)));
        before = λ j k. ap is_good (sym (its j (omega (arith, below, size, k)))) ∙ not-false (is_good (record_at (record_length * j) x)) (f.before j (omega arith) k);
      }

  torn_from : (n b at : ℕ) → Standing l n b at → b + n ≤ block_count l → Each (Torn l) (dropped_from b (bodies_from n b l))
  unfolding dropped_from bodies_from
  torn_from zero b at s h = tt
  torn_from (suc n) b at s h =
      go (all_good (body_of b l)) refl (torn_from n (suc b) (at + record_length * (block_at b l).records) (others l n b at s) (omega arith))
    where
      rest : List Dropped
      rest = dropped_from (suc b) (bodies_from n (suc b) l)

      go : (t : Bool) → all_good (body_of b l) ≡ t → Each (Torn l) rest → Each (Torn l) (front_if (not t) (record { block = b; bad = bad_in (body_of b l) }) rest)
      go true e r = r
      go false e r = (one_torn n b at s (omega arith) e, r)

  -- in rising order, from 0
  pub listed_rising : Rising 0 (dropped_from 0 (bodies l))
  listed_rising = rising 0 (bodies l)

  module _ (g : contents_good l ≡ true) where
    pub each_torn : Each (Torn l) (dropped_from 0 (bodies l))
    each_torn = torn_from (block_count l) 0 (first_place l) (all_standing l g) (omega arith)

    -- their numbers have two bytes, so that a host reads them as they were written
    small : (ds : List Dropped) → Each (Torn l) ds → Each Small ds
    small [] e = tt
    small (d ∷ ds) e =
        let t = e.0 in
        ((omega (arith, t.listed, (contents_have l g).few), omega (arith, t.in_it, (within l g d.block t.listed).few)), small ds e.1)

    pub list_read_back : (r : List ℕ) → entries_in (length (dropped_from 0 (bodies l))) (drop_list l ++ r) ≡ dropped_from 0 (bodies l)
    list_read_back r = read_entries (dropped_from 0 (bodies l)) r (small (dropped_from 0 (bodies l)) each_torn)

  -- so many as are not kept
  pub all_accounted : length (kept (bodies l)) + length (dropped_from 0 (bodies l)) ≡ block_count l
  all_accounted = kept_or_dropped 0 (bodies l) ∙ length_bodies l (block_count l) 0
