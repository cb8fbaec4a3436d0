-- 02, C-23: a block is kept exactly if each of its records is good, and else listed, exactly once. Said of the bytes that a done salvage leaves: the new trace, so many bytes of the second buffer as the value
-- says, and the entries that a host reads in the list.
use Rattle.basics.proofs.Prelude.{◌≡◌, refl, sym, ap, ◌∙◌, true, false, cond, false≢true, List, [], ◌∷◌, ℕ, zero, suc, ◌+◌, ◌-◌, ◌<◌, ◌≤◌, zero-add, arith, length, get_or, take, eq-eqb, ne_eqb, test, Each}
use Rattle.calls.specs.{Untouched.IsDone, Calls.value_in}
use Rattle.traces.specs.{Trace.block_count, Trace.block_at, Trace.contents_good, Trace.record_at, Trace.is_good, Blocks.place_in_block}
use Rattle.traces.specs.salvages.Kept.{body_of, bodies_from, bodies, records_of, all_good, kept, Dropped, dropped_from, entries_in}
use Rattle.traces.specs.salvages.{Salvaging.SalvageLeft, Salvaging.salvaging, Which.GoodBlock, Which.one_more_if, Which.good_before, Which.times_listed}
use Rattle.traces.proofs.salvages.laws.Chosen.{kept_none, kept_good, kept_torn, dropped_none, dropped_good, dropped_torn, kept_all_good}
use Rattle.traces.proofs.salvages.laws.Taken.{part_records, record_in, all_good_are, are_all_good, length_bodies, within}
use Rattle.traces.proofs.salvages.demands.{Blocks.kept_stands, Left.salvaged, Left.trace_comes_out, Left.list_is_read}

-- ---- of any list of blocks

-- a good block stands among those that are kept, behind the good ones before it
kept_there : (b : ℕ) (xs : List (List ℕ)) → b < length xs → all_good (get_or xs b []) ≡ true → (good_before b xs < length (kept xs)) × (get_or (kept xs) (good_before b xs) [] ≡ get_or xs b [])
unfolding good_before
kept_there b [] h g = absurd (omega arith)
kept_there zero (x ∷ xs) h g = (rw (kept_good x xs g) (omega arith), rw (kept_good x xs g))
kept_there (suc b) (x ∷ xs) h g =
    let r = kept_there b xs (omega arith) g in
    test (all_good x) (λ t. (rw (t, kept_good x xs t) (omega (arith, r.0)), rw (t, kept_good x xs t) r.1)) (λ t. (rw (t, kept_torn x xs t) r.0, rw (t, kept_torn x xs t) r.1))

-- and each that is kept is such a one
record From (xs : List (List ℕ)) (k : ℕ) : Type 0 where
  block : ℕ
  listed : block < length xs
  good : all_good (get_or xs block []) ≡ true
  number : good_before block xs ≡ k

kept_from : (xs : List (List ℕ)) (k : ℕ) → k < length (kept xs) → From xs k
unfolding good_before
kept_from [] k h = absurd (let z = ap length kept_none in omega (arith, z))
kept_from (x ∷ xs) k h = test (all_good x) (λ t. go k t (rw (kept_good x xs t) at h) (kept_from xs)) (λ t. behind t (kept_from xs k (rw (kept_torn x xs t) at h)))
  where
    behind : all_good x ≡ false → From xs k → From (x ∷ xs) k
    behind t f = record { block = suc f.block; listed = omega (arith, f.listed); good = f.good; number = rw t f.number }

    go : (k : ℕ) → all_good x ≡ true → k < suc (length (kept xs)) → ((j : ℕ) → j < length (kept xs) → From xs j) → From (x ∷ xs) k
    go zero t h later = record { block = 0; listed = omega arith; good = t; number = refl }
    go (suc k) t h later =
        let f = later k (omega arith) in
        record { block = suc f.block; listed = omega (arith, f.listed); good = f.good; number = rw t (ap suc f.number) }

-- a number below those of the blocks is not listed
below_unlisted : (b c : ℕ) (xs : List (List ℕ)) → b < c → times_listed b (dropped_from c xs) ≡ 0
unfolding times_listed
below_unlisted b c [] h = ap (times_listed b) (dropped_none c)
below_unlisted b c (x ∷ xs) h =
    let r = below_unlisted b (suc c) xs (omega arith) in
    test (all_good x) (λ t. ap (times_listed b) (dropped_good c x xs t) ∙ r)
    (λ t. ap (times_listed b) (dropped_torn c x xs t) ∙ ap (λ e. one_more_if e (times_listed b (dropped_from (suc c) xs))) (ne_eqb c b (λ z. omega (arith, z))) ∙ r)

-- block number c + i, of those from c on, is listed once where it is torn, and else not
times_listed_lem : (i c : ℕ) (xs : List (List ℕ)) → i < length xs → times_listed (c + i) (dropped_from c xs) ≡ cond (all_good (get_or xs i [])) 0 1
unfolding times_listed
times_listed_lem i c [] h = absurd (omega arith)
times_listed_lem zero c (x ∷ xs) h =
    let r = below_unlisted (c + 0) (suc c) xs (omega arith) in
    test (all_good x) (λ t. ap (times_listed (c + 0)) (dropped_good c x xs t) ∙ r ∙ sym (ap (λ e. cond e 0 1) t))
    (λ t. ap (times_listed (c + 0)) (dropped_torn c x xs t) ∙ (λ s. one_more_if (eq-eqb c (c + 0) (omega arith) s) (r s)) ∙ sym (ap (λ e. cond e 0 1) t))
times_listed_lem (suc i) c (x ∷ xs) h =
    let z : suc c + i ≡ c + suc i = omega arith in
    let r : times_listed (c + suc i) (dropped_from (suc c) xs) ≡ cond (all_good (get_or xs i [])) 0 1 = ap (λ b. times_listed b (dropped_from (suc c) xs)) (sym z) ∙ times_listed_lem i (suc c) xs (omega arith) in
    test (all_good x) (λ t. ap (times_listed (c + suc i)) (dropped_good c x xs t) ∙ r)
    (λ t. ap (times_listed (c + suc i)) (dropped_torn c x xs t) ∙ ap (λ e. one_more_if e (times_listed (c + suc i) (dropped_from (suc c) xs))) (ne_eqb c (c + suc i) (λ z. omega (arith, z))) ∙ r)

-- nor is a number behind them
behind_unlisted : (b c : ℕ) (xs : List (List ℕ)) → c + length xs ≤ b → times_listed b (dropped_from c xs) ≡ 0
unfolding times_listed
behind_unlisted b c [] h = ap (times_listed b) (dropped_none c)
behind_unlisted b c (x ∷ xs) h =
    let r = behind_unlisted b (suc c) xs (omega arith) in
    test (all_good x) (λ t. ap (times_listed b) (dropped_good c x xs t) ∙ r)
    (λ t. ap (times_listed b) (dropped_torn c x xs t) ∙ ap (λ e. one_more_if e (times_listed b (dropped_from (suc c) xs))) (ne_eqb c b (λ z. omega (arith, z))) ∙ r)

-- ---- the blocks of a trace

body_at : (l : List ℕ) (n c i : ℕ) → i < n → get_or (bodies_from n c l) i [] ≡ body_of (c + i) l
unfolding bodies_from
body_at l zero c i h = absurd (omega arith)
body_at l (suc n) c zero h = let z : c ≡ c + 0 = omega arith in ap (λ b. body_of b l) z
body_at l (suc n) c (suc i) h = let z : suc c + i ≡ c + suc i = omega arith in body_at l n (suc c) i (omega arith) ∙ ap (λ b. body_of b l) z

in_bodies : (l : List ℕ) (b : ℕ) → b < block_count l → get_or (bodies l) b [] ≡ body_of b l
in_bodies l b h = body_at l (block_count l) 0 b h ∙ ap (λ c. body_of c l) (zero-add b)

each_at : (P : List ℕ → Type 0) (xs : List (List ℕ)) (k : ℕ) → k < length xs → Each P xs → P (get_or xs k [])
each_at P [] k h e = absurd (omega arith)
each_at P (x ∷ xs) zero h e = e.0
each_at P (x ∷ xs) (suc k) h e = each_at P xs k (omega arith) e.1

module _ (l : List ℕ) (g : contents_good l ≡ true) (b : ℕ) (h : b < block_count l) where
  abbrev at : ℕ
  at = (block_at b l).offset

  has : records_of (body_of b l) ≡ (block_at b l).records
  has = part_records l at (block_at b l).records (within l g b h).fits

  good_all : GoodBlock l b → all_good (body_of b l) ≡ true
  good_all f = are_all_good (body_of b l) (λ j k. let m : j < (block_at b l).records = omega (arith, has) in ap is_good (record_in l at (block_at b l).records j m) ∙ f j m)

  all_good_lem : all_good (body_of b l) ≡ true → GoodBlock l b
  all_good_lem e j k = ap is_good (sym (record_in l at (block_at b l).records j k)) ∙ all_good_are (body_of b l) e j (omega (arith, has))

-- ---- what a done salvage leaves

module _ (l ks ds a : List ℕ) (done : IsDone (salvaging l ks ds a).number) where
  abbrev left : SalvageLeft
  left = salvaging l ks ds a

  -- the new trace, and the entries of the list, as a host takes them
  abbrev pub came_out : List ℕ
  came_out = take (value_in left.answer) left.second

  abbrev pub listed : List Dropped
  listed = entries_in (block_count l - block_count left.second) left.list

  contents : contents_good l ≡ true
  contents = (salvaged l ks ds a done).contents

  out_blocks : bodies came_out ≡ kept (bodies l)
  out_blocks = ap bodies (trace_comes_out l ks ds a done) ∙ kept_stands l contents

  out_count : block_count came_out ≡ length (kept (bodies l))
  out_count = sym (length_bodies came_out (block_count came_out) 0) ∙ ap length out_blocks

  in_list : listed ≡ dropped_from 0 (bodies l)
  in_list = list_is_read l ks ds a done

  module _ (b : ℕ) (h : b < block_count l) where
    in_trace : b < length (bodies l)
    in_trace = omega (arith, length_bodies l (block_count l) 0)

    its : all_good (get_or (bodies l) b []) ≡ all_good (body_of b l)
    its = ap all_good (in_bodies l b h)

    -- A block whose records are all good is kept, byte for byte, with the number that the good blocks before it leave it.
    pub kept_if_good : GoodBlock l b → (good_before b (bodies l) < block_count came_out) × (body_of (good_before b (bodies l)) came_out ≡ body_of b l)
    kept_if_good f =
        let r = kept_there b (bodies l) in_trace (its ∙ good_all l contents b h f) in
        let k = good_before b (bodies l) in
        let there : k < block_count came_out = omega (arith, out_count, r.0) in
        (there, sym (in_bodies came_out k there) ∙ ap (λ xs. get_or xs k []) out_blocks ∙ r.1 ∙ in_bodies l b h)

    -- And only such a one: a block that comes out has no bad record.
    pub kept_only_if_good : (k : ℕ) → k < block_count came_out → body_of k came_out ≡ body_of b l → GoodBlock l b
    kept_only_if_good k there same =
        let e = each_at (λ x. all_good x ≡ true) (kept (bodies l)) k (omega (arith, out_count)) (kept_all_good (bodies l)) in
        all_good_lem l contents b h (ap all_good (sym same ∙ sym (in_bodies came_out k there) ∙ ap (λ xs. get_or xs k []) out_blocks) ∙ e)

    times : times_listed b listed ≡ cond (all_good (body_of b l)) 0 1
    times = ap (times_listed b) in_list ∙ ap (λ c. times_listed c (dropped_from 0 (bodies l))) (sym (zero-add b)) ∙ times_listed_lem b 0 (bodies l) in_trace ∙ ap (λ e. cond e 0 1) its

    -- It is then not listed.
    pub unlisted_if_good : GoodBlock l b → times_listed b listed ≡ 0
    unlisted_if_good f = times ∙ ap (λ e. cond e 0 1) (good_all l contents b h f)

    -- A block with a bad record is listed exactly once.
    pub listed_once_if_torn : (j : ℕ) → j < (block_at b l).records → is_good (record_at (place_in_block l b j) l) ≡ false → times_listed b listed ≡ 1
    listed_once_if_torn j k bad =
        times ∙ ap (λ e. cond e 0 1) (test (all_good (body_of b l)) (λ t. absurd (false≢true (sym bad ∙ all_good_lem l contents b h t j k))) (λ t. t))

    -- And one that is not listed has none.
    pub good_if_unlisted : times_listed b listed ≡ 0 → GoodBlock l b
    good_if_unlisted z =
        all_good_lem l contents b h (test (all_good (body_of b l)) (λ t. t) (λ t. absurd (let y : ◌≡◌ {A = ℕ} 1 0 = sym (times ∙ ap (λ e. cond e 0 1) t) ∙ z in omega (arith, y))))

  -- Nothing else is listed,
  pub no_other_listed : (b : ℕ) → block_count l ≤ b → times_listed b listed ≡ 0
  no_other_listed b h = ap (times_listed b) in_list ∙ behind_unlisted b 0 (bodies l) (omega (arith, length_bodies l (block_count l) 0))

  -- and nothing else is kept: each block that comes out is one of the trace, all good, at its place in the old order.
  pub no_other_kept : (k : ℕ) → k < block_count came_out → (b : ℕ) × (b < block_count l) × GoodBlock l b × (good_before b (bodies l) ≡ k) × (body_of k came_out ≡ body_of b l)
  no_other_kept k there =
      let f = kept_from (bodies l) k (omega (arith, out_count)) in
      let b = f.block in
      let h : b < block_count l = omega (arith, length_bodies l (block_count l) 0, f.listed) in
      let g = all_good_lem l contents b h (sym (its b h) ∙ f.good) in
      (b, h, g, f.number, sym (ap (λ n. body_of n came_out) f.number) ∙ (kept_if_good b h g).1)
