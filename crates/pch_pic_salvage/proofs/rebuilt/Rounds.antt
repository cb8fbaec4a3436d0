-- A block in each round of what is written: the contents, the blocks, the list.
use Rattle.basics.proofs.Prelude.{◌≡◌, refl, sym, ap, subst, ◌∙◌, true, false, List, [], ◌∷◌, ◌++◌, ℕ, ◌+◌, ◌-◌, ◌*◌, ◌<◌, ◌≤◌, arith, length, drop, put_mid, bytes_of}
use Rattle.traces.specs.{Trace.record_length, Trace.listed_at, Trace.block_at, plays.Playing.in_front}
use Rattle.traces.specs.salvages.Kept.{body_of, bodies_from, records_of, bad_in, all_good, kept, Dropped, dropped_from, two_numbers, listing, joined, entries}
use Rattle.traces.proofs.salvages.laws.Chosen.{length_listing, length_entries, length_joined, joined_none, joined_front}
use Rattle.traces.proofs.salvages.laws.Taken.{next_kept, next_torn, next_undropped, next_dropped, none_kept, none_dropped_lem, all_left}
use Rattle.bits.specs.bytes.Put.{with_bytes}
use Rattle.pch_pic_salvage.specs.{torn.Found.Lists, torn.Found.left_of, rebuilt.Given.new_contents, rebuilt.Given.new_blocks, rebuilt.Given.new_list, rebuilt.Given.with_two}
use Rattle.pch_pic_salvage.proofs.torn.Rounds.{size, records_are, few_left, few_records}
use Rattle.pch_pic_salvage.proofs.rebuilt.Written.{Written, still, put_next, part_next, to_come, all_written, front_again}

-- ---- one entry more

listing_none : (at : ℕ) → listing at [] ≡ []
unfolding listing
listing_none at = refl

listing_front : (at : ℕ) (x : List ℕ) (xs : List (List ℕ)) → listing at (x ∷ xs) ≡ two_numbers at (records_of x) ++ listing (at + length x) xs
unfolding listing
listing_front at x xs = refl

entries_none : entries [] ≡ []
unfolding entries
entries_none = refl

entries_front : (d : Dropped) (ds : List Dropped) → entries (d ∷ ds) ≡ two_numbers d.block d.bad ++ entries ds
unfolding entries
entries_front d ds = refl

-- ---- what holds when b blocks are looked at

-- the contents: where the next entry goes, and where the next block will stand
pub record Listing (l : List ℕ) (n : ℕ) (l₀ : List ℕ) (b : ℕ) (out : List ℕ) (at place : ℕ) : Type 0 where
  pub upto : b ≤ n
  pub written : Written (new_contents n l) l₀ out (listing place (kept (bodies_from (n - b) b l))) at
  pub ends : place + length (joined (kept (bodies_from (n - b) b l))) < 65536

-- the blocks
pub record Joining (l : List ℕ) (n : ℕ) (l₀ : List ℕ) (b : ℕ) (out : List ℕ) (at : ℕ) : Type 0 where
  pub upto : b ≤ n
  pub written : Written (new_blocks n l) l₀ out (joined (kept (bodies_from (n - b) b l))) at

-- the list
pub record Dropping (l : List ℕ) (n : ℕ) (l₀ : List ℕ) (b : ℕ) (out : List ℕ) (at : ℕ) : Type 0 where
  pub upto : b ≤ n
  pub written : Written (new_list n l) l₀ out (entries (dropped_from b (bodies_from (n - b) b l))) at

module _ (l : List ℕ) {n : ℕ} (k : Lists l n) (l₀ : List ℕ) where
  -- ---- the contents

  -- the number of blocks is written, and the entries are to come
  pub listing_start : {left : ℕ} → left ≡ length (left_of n l) → (m : List ℕ) → l₀ ≡ with_bytes 0 2 left m → Listing l n l₀ 0 l₀ 2 (2 + 4 * left)
  listing_start {left} e m f =
      let z = all_left l n in
      record {
        upto = omega arith;
        written = record {
          front = bytes_of 2 left;
          is = f ∙ ap (λ k. bytes_of 2 left ++ drop 2 k) (sym f);
          len = refl;
          whole = (λ t. bytes_of 2 (e t) ++ listing (listed_at (e t)) (kept (z t)));
        };
        ends = omega (arith, ap (λ xs. length (joined (kept xs))) z, few_left l k, few_records l k, e);
      }

  module _ {b : ℕ} (h : b < n) {out : List ℕ} {at place : ℕ} (w : Listing l n l₀ b out at place) where
    pub listing_fits : all_good (body_of b l) ≡ true → at + 4 ≤ length (new_contents n l)
    listing_fits t = omega (arith, still w.written, length_listing place (kept (bodies_from (n - b) b l)), ap length (next_kept l n b h t))

    pub listing_stands : all_good (body_of b l) ≡ true → place + record_length * (block_at b l).records < 65536
    listing_stands t =
        let e = next_kept l n b h t in
        omega (arith, w.ends, ap (λ xs. length (joined xs)) e, length_joined (body_of b l) (kept (bodies_from (n - (b + 1)) (b + 1) l)), size l k b h)

    pub listing_kept : {m : ℕ} → m ≡ (block_at b l).records → all_good (body_of b l) ≡ true → {out₂ : List ℕ} → out₂ ≡ with_two at place m out → Listing l n l₀ (b + 1) out₂ (at + 4) (place + record_length * m)
    listing_kept {m} q t {out₂} f =
        let x = body_of b l in
        let e = next_kept l n b h t in
        let r : records_of x ≡ m = records_are l k b h ∙ sym q in
        let s : length x ≡ record_length * m = size l k b h ∙ ap (λ j. record_length * j) (sym q) in
        let rest = kept (bodies_from (n - (b + 1)) (b + 1) l) in
        record {
          upto = omega arith;
          written =
              put_next w.written (two_numbers place m) (listing (place + record_length * m) rest)
              (ap (listing place) e ∙ listing_front place x rest ∙ (λ t. two_numbers place (r t) ++ listing (place + s t) rest)) 4 refl f;
          ends = omega (arith, w.ends, ap (λ xs. length (joined xs)) e, length_joined x rest, s);
        }

    pub listing_torn : all_good (body_of b l) ≡ false → Listing l n l₀ (b + 1) out at place
    listing_torn t =
        let e = next_torn l n b h t in
        record { upto = omega arith; written = to_come w.written (ap (listing place) e); ends = omega (arith, w.ends, ap (λ xs. length (joined xs)) e) }

  -- where two ways meet
  pub as_listing : {b at place at₂ place₂ : ℕ} {out out₂ : List ℕ} → Listing l n l₀ b out at place → out₂ ≡ out → at₂ ≡ at → place₂ ≡ place → Listing l n l₀ b out₂ at₂ place₂
  as_listing {b} {at} {place} {at₂} {place₂} {out} {out₂} w p q r =
      subst (λ (x : ℕ). Listing l n l₀ b out₂ at₂ x) (sym r) (subst (λ (x : ℕ). Listing l n l₀ b out₂ x place) (sym q) (subst (λ (x : List ℕ). Listing l n l₀ b x at place) (sym p) w))

  pub listing_all : {b at place : ℕ} {out : List ℕ} → Listing l n l₀ b out at place → n ≤ b → (left : ℕ) (m : List ℕ) → l₀ ≡ with_bytes 0 2 left m → out ≡ in_front (new_contents n l) m
  listing_all {b} {at} {place} w h left m f =
      all_written w.written (ap (listing place) (none_kept l n b h) ∙ listing_none place)
      ∙ ap (in_front (new_contents n l)) f ∙ front_again (bytes_of 2 left) (new_contents n l) m (omega arith)

  -- ---- the blocks

  module _ {b : ℕ} (h : b < n) {out : List ℕ} {at : ℕ} (w : Joining l n l₀ b out at) where
    pub joining_fits : all_good (body_of b l) ≡ true → at + length (body_of b l) ≤ length (new_blocks n l)
    joining_fits t =
        let e = next_kept l n b h t in
        omega (arith, still w.written, ap (λ xs. length (joined xs)) e, length_joined (body_of b l) (kept (bodies_from (n - (b + 1)) (b + 1) l)))

    pub joining_kept : all_good (body_of b l) ≡ true → {m : ℕ} → m ≡ length (body_of b l) → {zs : List ℕ} → zs ≡ body_of b l → Joining l n l₀ (b + 1) (put_mid at m out zs) (at + m)
    joining_kept t q f =
        let rest = kept (bodies_from (n - (b + 1)) (b + 1) l) in
        record { upto = omega arith; written = part_next w.written (body_of b l) (joined rest) (ap joined (next_kept l n b h t) ∙ joined_front (body_of b l) rest) q f }

    pub joining_torn : all_good (body_of b l) ≡ false → Joining l n l₀ (b + 1) out at
    joining_torn t = record { upto = omega arith; written = to_come w.written (ap joined (next_torn l n b h t)) }

  pub as_joining : {b at at₂ : ℕ} {out out₂ : List ℕ} → Joining l n l₀ b out at → out₂ ≡ out → at₂ ≡ at → Joining l n l₀ b out₂ at₂
  as_joining {b} {at} {at₂} {out} {out₂} w p q = subst (λ (x : ℕ). Joining l n l₀ b out₂ x) (sym q) (subst (λ (x : List ℕ). Joining l n l₀ b x at) (sym p) w)

  pub joining_all : {b at : ℕ} {out : List ℕ} → Joining l n l₀ b out at → n ≤ b → out ≡ in_front (new_blocks n l) l₀
  joining_all {b} w h = all_written w.written (ap joined (none_kept l n b h) ∙ joined_none)

  -- ---- the list

  module _ {b : ℕ} (h : b < n) {out : List ℕ} {at : ℕ} (w : Dropping l n l₀ b out at) where
    pub dropping_fits : all_good (body_of b l) ≡ false → at + 4 ≤ length (new_list n l)
    dropping_fits t = omega (arith, still w.written, length_entries (dropped_from b (bodies_from (n - b) b l)), ap length (next_dropped l n b h t))

    pub dropping_torn : all_good (body_of b l) ≡ false → {m : ℕ} → m ≡ bad_in (body_of b l) → {out₂ : List ℕ} → out₂ ≡ with_two at b m out → Dropping l n l₀ (b + 1) out₂ (at + 4)
    dropping_torn t {m} q f =
        let rest = dropped_from (b + 1) (bodies_from (n - (b + 1)) (b + 1) l) in
        record {
          upto = omega arith;
          written =
              put_next w.written (two_numbers b m) (entries rest)
              (ap entries (next_dropped l n b h t) ∙ entries_front (record { block = b; bad = bad_in (body_of b l) }) rest ∙ (λ t. two_numbers b (sym q t) ++ entries rest)) 4 refl f;
        }

    pub dropping_kept : all_good (body_of b l) ≡ true → Dropping l n l₀ (b + 1) out at
    dropping_kept t = record { upto = omega arith; written = to_come w.written (ap entries (next_undropped l n b h t)) }

  pub as_dropping : {b at at₂ : ℕ} {out out₂ : List ℕ} → Dropping l n l₀ b out at → out₂ ≡ out → at₂ ≡ at → Dropping l n l₀ b out₂ at₂
  as_dropping {b} {at} {at₂} {out} {out₂} w p q = subst (λ (x : ℕ). Dropping l n l₀ b out₂ x) (sym q) (subst (λ (x : List ℕ). Dropping l n l₀ b x at) (sym p) w)

  pub dropping_all : {b at : ℕ} {out : List ℕ} → Dropping l n l₀ b out at → n ≤ b → out ≡ in_front (new_list n l) l₀
  dropping_all {b} w h = all_written w.written (ap entries (none_dropped_lem l n b h) ∙ entries_none)
