-- The blocks of a trace whose contents are good: they are whole, together they are the trace again, and their records are its records.
use Rattle.basics.proofs.Prelude.{◌≡◌, sym, ap, subst, ◌∙◌, Bool, true, false, false≢true, List, [], ◌∷◌, ◌++◌, ℕ, zero, suc, ◌+◌, ◌-◌, ◌*◌, ◌/◌, ◌<◌, ◌≤◌, zero-add, arith, ltb, length, take, take_all, take-add, eq-eqb, eqb-true, ltb-true, ltb-false, not-false, not-true, bytes_of, part, Bytes, test, part_number, Each, length_part, part_part, part_add}
use Rattle.traces.specs.Trace.{most_records, record_length, block_count, listed_at, block_at, blocks_from, records_in, back_to_back, first_place, record_count, contents_good, record_of, record_at, is_good, is_bad, first_bad}
use Rattle.traces.specs.salvages.Kept.{body_of, bodies_from, bodies, records_of, bad_in, all_good, kept, dropped_from, two_numbers, listing, joined, contents_for, trace_of}
use Rattle.traces.proofs.laws.{Blocks.records_none, Blocks.records_front, Blocks.stand_front, Contents.Good, Contents.contents_have, Firsts.first_found}
use Rattle.traces.proofs.salvages.laws.Chosen.{kept_none, kept_good, kept_torn, dropped_none, dropped_good, dropped_torn, joined_none, joined_front}
use Rattle.traces.proofs.salvages.laws.Built.{Whole, Fit, bodies_none, bodies_front}

-- ---- a block

-- a part of n records has them
pub part_records : (l : List ℕ) (at n : ℕ) → at + record_length * n ≤ length l → records_of (part at (record_length * n) l) ≡ n
part_records l at n h = ap (λ k. k / record_length) (length_part l at (record_length * n) h) ∙ omega arith

-- record j of it is the trace's record there
pub record_in : (l : List ℕ) (at n j : ℕ) → j < n → record_at (record_length * j) (part at (record_length * n) l) ≡ record_at (at + record_length * j) l
record_in l at n j h = ap record_of (part_part l at (record_length * n) (record_length * j) record_length (omega arith))

-- the first bad one found over one test is found over another that tells the same
pub first_same : (f g : ℕ → Bool) (n : ℕ) → ((j : ℕ) → j < n → f j ≡ g j) → first_bad f n 0 ≡ first_bad g n 0
first_same f g n e =
    let p = first_found f n 0 in
    let q = first_found g n 0 in
    let i = first_bad f n 0 in
    let k = first_bad g n 0 in
    test (ltb i k)
    (λ t. let h = ltb-true i k t in
    absurd (false≢true (sym (q.before i (omega arith) h) ∙ sym (e i (omega (arith, q.reach))) ∙ p.here (omega (arith, q.reach)))))
    (λ t. test (ltb k i)
    (λ u. let h = ltb-true k i u in
    absurd (false≢true (sym (p.before k (omega arith) h) ∙ e k (omega (arith, p.reach)) ∙ q.here (omega (arith, p.reach)))))
    (λ u. omega (arith, ltb-false i k t, ltb-false k i u)))

-- found in the trace from its place on
pub bad_in_lem : (l : List ℕ) (at n : ℕ) → at + record_length * n ≤ length l → bad_in (part at (record_length * n) l) ≡ first_bad (λ j. is_bad (record_at (at + record_length * j) l)) n 0
bad_in_lem l at n h =
    let x = part at (record_length * n) l in
    ap (λ k. first_bad (λ j. is_bad (record_at (record_length * j) x)) k 0) (part_records l at n h)
    ∙ first_same (λ j. is_bad (record_at (record_length * j) x)) (λ j. is_bad (record_at (at + record_length * j) l)) n (λ j k. ap is_bad (record_in l at n j k))

-- all records of a block are good
pub all_good_are : (x : List ℕ) → all_good x ≡ true → (j : ℕ) → j < records_of x → is_good (record_at (record_length * j) x) ≡ true
all_good_are x e j h =
    let f = first_found (λ k. is_bad (record_at (record_length * k) x)) (records_of x) 0 in
    not-false (is_good (record_at (record_length * j) x)) (f.before j (omega arith) (omega (arith, eqb-true (bad_in x) (records_of x) e)))

pub are_all_good : (x : List ℕ) → ((j : ℕ) → j < records_of x → is_good (record_at (record_length * j) x) ≡ true) → all_good x ≡ true
are_all_good x g =
    let f = first_found (λ k. is_bad (record_at (record_length * k) x)) (records_of x) 0 in
    test (ltb (bad_in x) (records_of x))
    (λ t. let h = ltb-true (bad_in x) (records_of x) t in
    absurd (false≢true (sym (not-true (is_good (record_at (record_length * bad_in x) x)) (f.here (omega (arith, h)))) ∙ g (bad_in x) h)))
    (λ t. eq-eqb (bad_in x) (records_of x) (omega (arith, ltb-false (bad_in x) (records_of x) t, f.reach)))

-- ---- blocks that stand back to back

-- n blocks from number b on stand from a place on, within the trace
pub record Standing (l : List ℕ) (n b at : ℕ) : Type 0 where
  pub stand : back_to_back at (blocks_from n b l) ≡ true
  pub fits : at + record_length * records_in (blocks_from n b l) ≤ length l

pub length_bodies : (l : List ℕ) (n b : ℕ) → length (bodies_from n b l) ≡ n
length_bodies l zero b = ap length (bodies_none b l)
length_bodies l (suc n) b = ap length (bodies_front n b l) ∙ ap suc (length_bodies l n (suc b))

-- the first of them
module _ (l : List ℕ) (n b at : ℕ) (s : Standing l (suc n) b at) where
  abbrev size : ℕ
  size = (block_at b l).records

  here : (block_at b l).offset ≡ at
  here = (stand_front l at n b s.stand).here

  pub inside : at + record_length * size ≤ length l
  inside = omega (arith, s.fits, records_front l n b)

  pub body_part : body_of b l ≡ part at (record_length * size) l
  body_part = ap (λ a. part a (record_length * size) l) here

  pub length_body : length (body_of b l) ≡ record_length * size
  length_body = ap length body_part ∙ length_part l at (record_length * size) inside

  pub records_body : records_of (body_of b l) ≡ size
  records_body = ap records_of body_part ∙ part_records l at size inside

  whole_body : Whole (body_of b l)
  whole_body = record { records = omega (arith, length_body, records_body); some = omega (arith, records_body, (stand_front l at n b s.stand).some) }

  pub others : Standing l n (suc b) (at + record_length * size)
  others = record { stand = (stand_front l at n b s.stand).rest; fits = omega (arith, s.fits, records_front l n b) }

pub all_whole : (l : List ℕ) (n b at : ℕ) → Standing l n b at → Each Whole (bodies_from n b l)
unfolding bodies_from
all_whole l zero b at s = tt
all_whole l (suc n) b at s = (whole_body l n b at s, all_whole l n (suc b) (at + record_length * (block_at b l).records) (others l n b at s))

-- joined they are the bytes from that place on
pub joined_is : (l : List ℕ) (n b at : ℕ) → Standing l n b at → joined (bodies_from n b l) ≡ part at (record_length * records_in (blocks_from n b l)) l
joined_is l zero b at s =
    let z : record_length * records_in (blocks_from 0 b l) ≡ 0 = omega (arith, records_none l b) in
    ap joined (bodies_none b l) ∙ joined_none ∙ sym (ap (λ k. part at k l) z)
joined_is l (suc n) b at s =
    let r = record_length * (block_at b l).records in
    let z : r + record_length * records_in (blocks_from n (suc b) l) ≡ record_length * records_in (blocks_from (suc n) b l) = omega (arith, records_front l n b) in
    ap joined (bodies_front n b l) ∙ joined_front (body_of b l) (bodies_from n (suc b) l)
    ∙ (λ t. body_part l n b at s t ++ joined_is l n (suc b) (at + r) (others l n b at s) t)
    ∙ part_add l at r (record_length * records_in (blocks_from n (suc b) l)) ∙ ap (λ k. part at k l) z

-- listed they are the entries of the contents
pub listing_is : (l : List ℕ) → Bytes l → (n b at : ℕ) → listed_at (b + n) ≤ length l → Standing l n b at → listing at (bodies_from n b l) ≡ part (listed_at b) (4 * n) l
unfolding listing
listing_is l c zero b at h s = ap (listing at) (bodies_none b l)
listing_is l c (suc n) b at h s =
    let r = record_length * (block_at b l).records in
    let z : 4 + 4 * n ≡ 4 * suc n = omega arith in
    let next : listed_at b + 4 ≡ listed_at (suc b) = omega arith in
    let place : at ≡ (block_at b l).offset = sym (here l n b at s) in
    let entry : two_numbers at (records_of (body_of b l)) ≡ part (listed_at b) 4 l =
    (λ t. two_numbers (place t) (records_body l n b at s t))
    ∙ (λ t. part_number l (listed_at b) 2 c (omega arith) t ++ part_number l (listed_at b + 2) 2 c (omega arith) t) ∙ part_add l (listed_at b) 2 2 in
    ap (listing at) (bodies_front n b l)
    ∙ (λ t. entry t ++ listing (at + length_body l n b at s t) (bodies_from n (suc b) l))
    ∙ ap (λ k. part (listed_at b) 4 l ++ k) (listing_is l c n (suc b) (at + r) (omega arith) (others l n b at s) ∙ ap (λ a. part a (4 * n) l) (sym next))
    ∙ part_add l (listed_at b) 4 (4 * n) ∙ ap (λ k. part (listed_at b) k l) z

-- ---- their records

-- each is good where all records of the blocks are
pub bodies_good : (l : List ℕ) (n b at : ℕ) → Standing l n b at → ((k : ℕ) → k < records_in (blocks_from n b l) → is_good (record_at (at + record_length * k) l) ≡ true)
    → Each (λ x. all_good x ≡ true) (bodies_from n b l)
unfolding bodies_from
bodies_good l zero b at s g = tt
bodies_good l (suc n) b at s g =
    let size = (block_at b l).records in
    let f = records_front l n b in (
      are_all_good (body_of b l) (λ j h. let k : j < size = omega (arith, h, records_body l n b at s) in
          ap (λ x. is_good (record_at (record_length * j) x)) (body_part l n b at s) ∙ ap is_good (record_in l at size j k) ∙ g j (omega (arith, f))),
      bodies_good l n (suc b) (at + record_length * size) (others l n b at s) (λ k h.
          let z : at + record_length * size + record_length * k ≡ at + record_length * (size + k) = omega arith in
          ap (λ a. is_good (record_at a l)) z ∙ g (size + k) (omega (arith, f, h))),
    )

-- and the other way
pub records_good : (l : List ℕ) (n b at : ℕ) → Standing l n b at → Each (λ x. all_good x ≡ true) (bodies_from n b l)
    → (k : ℕ) → k < records_in (blocks_from n b l) → is_good (record_at (at + record_length * k) l) ≡ true
unfolding bodies_from
records_good l zero b at s e k h = absurd (omega (arith, records_none l b))
records_good l (suc n) b at s e k h =
    let size = (block_at b l).records in
    test (ltb k size)
    (λ t. let u = ltb-true k size t in
    ap is_good (sym (record_in l at size k u)) ∙ ap (λ x. is_good (record_at (record_length * k) x)) (sym (body_part l n b at s))
    ∙ all_good_are (body_of b l) e.0 k (omega (arith, u, records_body l n b at s)))
    (λ t. let u = ltb-false k size t in
    let z : at + record_length * k ≡ at + record_length * size + record_length * (k - size) = omega arith in
    ap (λ a. is_good (record_at a l)) z ∙ records_good l n (suc b) (at + record_length * size) (others l n b at s) e.1 (k - size) (omega (arith, u, h, records_front l n b)))

-- ---- a whole trace

module _ (l : List ℕ) (g : contents_good l ≡ true) where
  facts : Good l
  facts = contents_have l g

  pub all_standing : Standing l (block_count l) 0 (first_place l)
  all_standing = record { stand = facts.stand; fits = omega (arith, facts.ends) }

  pub joined_all : joined (bodies l) ≡ part (first_place l) (record_length * record_count l) l
  joined_all = joined_is l (block_count l) 0 (first_place l) all_standing

  pub bodies_fit : Fit (bodies l)
  bodies_fit = record {
    whole = all_whole l (block_count l) 0 (first_place l) all_standing;
    few = omega (arith, length_bodies l (block_count l) 0, facts.few);
    most = omega (arith, ap length joined_all, length_part l (first_place l) (record_length * record_count l) (omega (arith, facts.ends)), facts.most);
  }

  -- the trace of its blocks is the trace
  pub trace_again : Bytes l → trace_of (bodies l) ≡ l
  trace_again c =
      let n = block_count l in
      let some : listed_at n ≤ length l = omega (arith, facts.ends) in
      let size : listed_at n + record_length * record_count l ≡ length l = omega (arith, facts.ends) in
      let contents : contents_for (bodies l) ≡ part 0 (listed_at n) l =
      (λ t. bytes_of 2 (length_bodies l n 0 t) ++ listing (listed_at (length_bodies l n 0 t)) (bodies l))
      ∙ (λ t. part_number l 0 2 c (omega (arith, some)) t ++ listing_is l c n 0 (listed_at n) (omega (arith, some)) all_standing t) ∙ part_add l 0 2 (4 * n) in
      (λ t. contents t ++ joined_all t) ∙ sym (take-add (listed_at n) (record_length * record_count l) l) ∙ ap (λ k. take k l) size ∙ take_all (length l) l (omega arith)

-- ---- a block by its number

-- it stands within the trace, and has no more records than all have together
pub record Within (l : List ℕ) (most b : ℕ) : Type 0 where
  pub fits : (block_at b l).offset + record_length * (block_at b l).records ≤ length l
  pub few : (block_at b l).records ≤ most

pub within_from : (l : List ℕ) (n b at i : ℕ) → Standing l n b at → i < n → Within l (records_in (blocks_from n b l)) (b + i)
within_from l zero b at i s h = absurd (omega arith)
within_from l (suc n) b at zero s h =
    let z : b ≡ b + 0 = omega arith in
    subst (Within l (records_in (blocks_from (suc n) b l))) z (record { fits = omega (arith, here l n b at s, inside l n b at s); few = omega (arith, records_front l n b) })
within_from l (suc n) b at (suc i) s h =
    let z : suc b + i ≡ b + suc i = omega arith in
    let w = within_from l n (suc b) (at + record_length * (block_at b l).records) i (others l n b at s) (omega arith) in
    subst (Within l (records_in (blocks_from (suc n) b l))) z (record { fits = w.fits; few = omega (arith, w.few, records_front l n b) })

module _ (l : List ℕ) (g : contents_good l ≡ true) (b : ℕ) (h : b < block_count l) where
  pub within : Within l most_records b
  within =
      let w = rw zero-add at (within_from l (block_count l) 0 (first_place l) b (all_standing l g) h) in
      record { fits = w.fits; few = omega (arith, w.few, (contents_have l g).most) }

  -- its entry in the contents stands in the trace
  pub entry_within : listed_at (b + 1) ≤ length l
  entry_within = omega (arith, (contents_have l g).ends)

  pub its_length : length (body_of b l) ≡ record_length * (block_at b l).records
  its_length = length_part l (block_at b l).offset (record_length * (block_at b l).records) within.fits

  pub its_records : records_of (body_of b l) ≡ (block_at b l).records
  its_records = part_records l (block_at b l).offset (block_at b l).records within.fits

  -- the first bad record in it, found from its place on
  pub its_bad : bad_in (body_of b l) ≡ first_bad (λ j. is_bad (record_at ((block_at b l).offset + record_length * j) l)) (block_at b l).records 0
  its_bad = bad_in_lem l (block_at b l).offset (block_at b l).records within.fits

-- the next of the blocks that are left
pub next_body : (l : List ℕ) (n b : ℕ) → b < n → bodies_from (n - b) b l ≡ body_of b l ∷ bodies_from (n - (b + 1)) (b + 1) l
next_body l n b h =
    let z : n - b ≡ suc (n - (b + 1)) = omega arith in
    let s : suc b ≡ b + 1 = omega arith in
    ap (λ k. bodies_from k b l) z ∙ bodies_front (n - (b + 1)) b l ∙ ap (λ c. body_of b l ∷ bodies_from (n - (b + 1)) c l) s

-- it is kept or dropped, and the others are left
module _ (l : List ℕ) (n b : ℕ) where
  abbrev now_left : List (List ℕ)
  now_left = bodies_from (n - b) b l

  abbrev then_left : List (List ℕ)
  then_left = bodies_from (n - (b + 1)) (b + 1) l

  dropped_then : dropped_from (suc b) then_left ≡ dropped_from (b + 1) then_left
  dropped_then = let z : suc b ≡ b + 1 = omega arith in ap (λ c. dropped_from c then_left) z

  module _ (h : b < n) where
    pub next_kept : all_good (body_of b l) ≡ true → kept now_left ≡ body_of b l ∷ kept then_left
    next_kept t = ap kept (next_body l n b h) ∙ kept_good (body_of b l) then_left t

    pub next_torn : all_good (body_of b l) ≡ false → kept now_left ≡ kept then_left
    next_torn t = ap kept (next_body l n b h) ∙ kept_torn (body_of b l) then_left t

    pub next_undropped : all_good (body_of b l) ≡ true → dropped_from b now_left ≡ dropped_from (b + 1) then_left
    next_undropped t = ap (dropped_from b) (next_body l n b h) ∙ dropped_good b (body_of b l) then_left t ∙ dropped_then

    pub next_dropped : all_good (body_of b l) ≡ false → dropped_from b now_left ≡ record { block = b; bad = bad_in (body_of b l) } ∷ dropped_from (b + 1) then_left
    next_dropped t =
        ap (dropped_from b) (next_body l n b h) ∙ dropped_torn b (body_of b l) then_left t ∙ ap (λ ds. record { block = b; bad = bad_in (body_of b l) } ∷ ds) dropped_then

  module _ (h : n ≤ b) where
    none_now : now_left ≡ []
    none_now = let z : n - b ≡ 0 = omega arith in ap (λ k. bodies_from k b l) z ∙ bodies_none b l

    pub none_kept : kept now_left ≡ []
    none_kept = ap kept none_now ∙ kept_none

    pub none_dropped_lem : dropped_from b now_left ≡ []
    none_dropped_lem = ap (dropped_from b) none_now ∙ dropped_none b

-- at the start all of them are left
pub all_left : (l : List ℕ) (n : ℕ) → bodies_from (n - 0) 0 l ≡ bodies_from n 0 l
all_left l n = let z : n - 0 ≡ n = omega arith in ap (λ k. bodies_from k 0 l) z
