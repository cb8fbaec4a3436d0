-- The trace of some blocks, read again: the contents are good, and its blocks are these.
use Rattle.basics.proofs.Prelude.{◌≡◌, refl, sym, ap, ◌∙◌, true, ◌&&◌, List, [], ◌∷◌, ◌++◌, ℕ, suc, ◌+◌, ◌*◌, ◌<◌, ◌≤◌, arith, length, take, drop, length-append, take_at, drop_at, drop-drop, eq-eqb, le-leb, number_of, part, number_of_bytes_of, Each}
use Rattle.traces.specs.Trace.{most_blocks, most_records, record_length, block_count, listed_at, block_at, blocks_from, records_in, back_to_back, record_count, contents_good}
use Rattle.traces.specs.salvages.Kept.{body_of, bodies_from, bodies, records_of, listing, joined, contents_for, trace_of}
use Rattle.traces.proofs.laws.{Blocks.records_none, Blocks.records_front, Blocks.stand_none, Blocks.stand_next, Contents.contents_are}
use Rattle.traces.proofs.salvages.laws.Chosen.{joined_front, length_joined, length_listing}
use Rattle.traces.proofs.salvages.laws.Computed as computed

-- a block has whole records, and at least one
pub record Whole (x : List ℕ) : Type 0 where
  pub records : length x ≡ record_length * records_of x
  pub some : 1 ≤ records_of x

pub bodies_none : (b : ℕ) (m : List ℕ) → bodies_from 0 b m ≡ []
unfolding bodies_from
bodies_none b m = refl

pub bodies_front : (n b : ℕ) (m : List ℕ) → bodies_from (suc n) b m ≡ body_of b m ∷ bodies_from n (suc b) m
unfolding bodies_from
bodies_front n b m = refl

-- ---- one entry of the contents read

module _ (m : List ℕ) (b at : ℕ) (x : List ℕ) (xs : List (List ℕ)) (r : List ℕ) (e : drop (listed_at b) m ≡ listing at (x ∷ xs) ++ r) where
  its_offset : at < 65536 → (block_at b m).offset ≡ at
  unfolding listing
  its_offset h = ap (λ l. number_of (take 2 l)) e ∙ number_of_bytes_of 2 at h

  its_records : records_of x < 65536 → (block_at b m).records ≡ records_of x
  unfolding listing
  its_records h = ap (λ l. number_of (take 2 l)) (sym (drop-drop 2 (listed_at b) m) ∙ ap (drop 2) e) ∙ number_of_bytes_of 2 (records_of x) h

  -- and the others behind it
  others : drop (listed_at (suc b)) m ≡ listing (at + length x) xs ++ r
  unfolding listing
  others =
      let z : listed_at (suc b) ≡ listed_at b + 4 = omega arith in
      ap (λ n. drop n m) z ∙ sym (drop-drop 4 (listed_at b) m) ∙ ap (drop 4) e

-- ---- all of them

-- where blocks are listed from number b on and stand from a place on
pub record Lies (m : List ℕ) (b at : ℕ) (xs : List (List ℕ)) : Type 0 where
  pub rest : List ℕ
  pub listed : drop (listed_at b) m ≡ listing at xs ++ rest
  pub stand : drop at m ≡ joined xs
  pub room : at + length (joined xs) < 65536

-- they are read as they were written
pub record Read (m : List ℕ) (b at : ℕ) (xs : List (List ℕ)) : Type 0 where
  pub same : bodies_from (length xs) b m ≡ xs
  pub stand : back_to_back at (blocks_from (length xs) b m) ≡ true
  pub count : record_length * records_in (blocks_from (length xs) b m) ≡ length (joined xs)

module _ (m : List ℕ) (b at : ℕ) (x : List ℕ) (xs : List (List ℕ)) (w : Whole x) (y : Lies m b at (x ∷ xs)) where
  offset_is : (block_at b m).offset ≡ at
  offset_is = its_offset m b at x xs y.rest y.listed (omega (arith, y.room))

  records_are : (block_at b m).records ≡ records_of x
  records_are = its_records m b at x xs y.rest y.listed (omega (arith, y.room, length_joined x xs, w.records))

  -- its bytes
  body_is : body_of b m ≡ x
  body_is =
      (λ t. part (offset_is t) (record_length * records_are t) m) ∙ (λ t. take (sym w.records t) ((y.stand ∙ joined_front x xs) t)) ∙ take_at x (joined xs) (length x) refl

  next_lies : Lies m (suc b) (at + length x) xs
  next_lies = record {
    rest = y.rest;
    listed = others m b at x xs y.rest y.listed;
    stand = sym (drop-drop (length x) at m) ∙ ap (drop (length x)) (y.stand ∙ joined_front x xs) ∙ drop_at x (joined xs) (length x) refl;
    room = omega (arith, y.room, length_joined x xs);
  }

  next_read : Read m (suc b) (at + length x) xs → Read m b at (x ∷ xs)
  next_read r = record {
    same = bodies_front (length xs) b m ∙ (λ t. body_is t ∷ r.same t);
    stand =
        let ends : at + record_length * (block_at b m).records ≡ at + length x = omega (arith, records_are, w.records) in
        stand_next m at (length xs) b
        ∙ (λ t. eq-eqb (block_at b m).offset at offset_is t && (le-leb 1 (block_at b m).records (omega (arith, records_are, w.some)) t && back_to_back (ends t) (blocks_from (length xs) (suc b) m)))
        ∙ r.stand;
    count = omega (arith, r.count, records_front m (length xs) b, records_are, w.records, length_joined x xs);
  }

pub read_back : (m : List ℕ) (b at : ℕ) (xs : List (List ℕ)) → Each Whole xs → Lies m b at xs → Read m b at xs
unfolding joined
read_back m b at [] e y = record { same = bodies_none b m; stand = stand_none m at b; count = omega (arith, records_none m b) }
read_back m b at (x ∷ xs) e y = next_read m b at x xs e.0 y (read_back m (suc b) (at + length x) xs e.1 (next_lies m b at x xs e.0 y))

-- ---- the trace of some blocks

-- blocks that a trace may have
pub record Fit (xs : List (List ℕ)) : Type 0 where
  pub whole : Each Whole xs
  pub few : length xs ≤ most_blocks
  pub most : length (joined xs) ≤ record_length * most_records

module _ (xs : List (List ℕ)) where
  pub length_contents : length (contents_for xs) ≡ listed_at (length xs)
  length_contents = omega (arith, length_listing (listed_at (length xs)) xs)

  pub length_trace : length (trace_of xs) ≡ listed_at (length xs) + length (joined xs)
  length_trace = omega (arith, length-append (contents_for xs) (joined xs), length_contents)

  module _ (f : Fit xs) where
    pub count_is : block_count (trace_of xs) ≡ length xs
    count_is = number_of_bytes_of 2 (length xs) (omega (arith, f.few))

    read : Read (trace_of xs) 0 (listed_at (length xs)) xs
    read = read_back (trace_of xs) 0 (listed_at (length xs)) xs f.whole (record {
      rest = joined xs;
      listed = refl;
      stand = drop_at (contents_for xs) (joined xs) (listed_at (length xs)) length_contents;
      room = omega (arith, f.few, f.most);
    })

    -- its blocks are these
    pub bodies_are : bodies (trace_of xs) ≡ xs
    bodies_are = ap (λ n. bodies_from n 0 (trace_of xs)) count_is ∙ read.same

    counted : record_length * record_count (trace_of xs) ≡ length (joined xs)
    counted = ap (λ n. record_length * records_in (blocks_from n 0 (trace_of xs))) count_is ∙ read.count

    -- and its contents are good, if there are any
    pub contents_good_lem : 1 ≤ length xs → contents_good (trace_of xs) ≡ true
    contents_good_lem h =
        contents_are (trace_of xs) (record {
          some = omega (arith, count_is);
          few = omega (arith, count_is, f.few);
          stand = (λ t. back_to_back (listed_at (count_is t)) (blocks_from (count_is t) 0 (trace_of xs))) ∙ read.stand;
          most = omega (arith, counted, f.most);
          ends = omega (arith, counted, count_is, length_trace);
        })
