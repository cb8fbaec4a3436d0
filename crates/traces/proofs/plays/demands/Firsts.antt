-- 02, C-11, after each record: the first k records of a good trace, k from 1 on, are a good trace, and where the whole is played they are played too, in the same buffers, and leave what the whole play has left after record
-- k - 1. So what `played_to` says of a play on its way is what an exported call leaves.
use Rattle.basics.proofs.Prelude.{◌≡◌, refl, sym, ap, subst, ◌∙◌, Bool, true, false, true≢false, ◌&&◌, and-eq-true_iff, List, [], ◌∷◌, ◌++◌, append-nil, ℕ, zero, suc, ◌+◌, ◌-◌, ◌*◌, ◌<◌, ◌≤◌, arith, leb, length, le-leb, leb-true, test, Each, length_part, part}
use Rattle.rules.specs.Device.{some}
use Rattle.images.specs.Form.{Known, unknown, known, form_of}
use Rattle.calls.specs.Calls.{answer_length, answered}
use Rattle.calls.specs.Untouched.{IsDone}
use Rattle.traces.specs.Trace.{record_length, first_place, record_count, contents_good, record_at, nth, is_good, TraceTest, good, wrong_contents, bad_record, trace_test}
use Rattle.traces.specs.Played.{drain_room, records_from, records, played_all, played_through, afresh, played}
use Rattle.traces.specs.plays.Playing.{played_on_to, played_to, drains_in, play_room, PlayTest, refused, plays, trace_left, length_left, play_test, PlayLeft, play_leaves, in_front, playing}
use Rattle.traces.specs.{plays.Firsts.first_records, salvages.Kept.all_good, salvages.Kept.joined}
use Rattle.traces.proofs.{laws.Contents.contents_have, demands.Told.AllGood, demands.Told.Means, demands.Told.test_told}
use Rattle.traces.proofs.salvages.laws.{Built.Fit, Built.length_trace, Built.count_is, Built.bodies_are, Built.contents_good_lem, Chosen.joined_front, Chosen.joined_none}
use Rattle.traces.proofs.salvages.laws.Taken.{part_records, record_in, are_all_good, joined_all}
use Rattle.traces.proofs.{salvages.demands.Blocks.all_good_tested, plays.laws.Rooms.drains_more}
use Rattle.traces.proofs.plays.laws.Ways.{named_by, left_if, by_room, refused_way}
use Rattle.traces.proofs.plays.demands.Ended.{done_played, not_zero}
use Rattle.traces.proofs.plays.laws.Computed as computed

module _ (l : List ℕ) (c : contents_good l ≡ true) (each : (j : ℕ) → j < record_count l → is_good (nth l j) ≡ true) (k : ℕ) (some-are : 1 ≤ k) (h : k ≤ record_count l) where
  -- the one block
  abbrev block : List ℕ
  block = part (first_place l) (record_length * k) l

  abbrev first : List ℕ
  first = first_records l k

  inside : first_place l + record_length * k ≤ length l
  inside = omega (arith, (contents_have l c).ends)

  size : length block ≡ record_length * k
  size = length_part l (first_place l) (record_length * k) inside

  one_block : joined (block ∷ []) ≡ block
  one_block = joined_front block [] ∙ ap (λ xs. block ++ xs) joined_none ∙ append-nil block

  fit : Fit (block ∷ [])
  fit = record {
    whole = (record { records = omega (arith, size, part_records l (first_place l) k inside); some = omega (arith, some-are, part_records l (first_place l) k inside) }, tt);
    few = omega arith;
    most = omega (arith, ap length one_block, size, (contents_have l c).most);
  }

  first_contents : contents_good first ≡ true
  first_contents = contents_good_lem (block ∷ []) fit (omega arith)

  -- it has k records
  pub first_count : record_count first ≡ k
  first_count = omega (arith, (contents_have first first_contents).ends, length_trace (block ∷ []), count_is (block ∷ []) fit, ap length one_block, size)

  -- record j of the block is the trace's
  in_block : (j : ℕ) → j < k → record_at (record_length * j) block ≡ nth l j
  in_block j g = record_in l (first_place l) k j g

  -- and record j of the new trace is the old one's
  pub first_nth : (j : ℕ) → j < k → nth first j ≡ nth l j
  first_nth j g =
      let whole : block ≡ part (first_place first) (record_length * record_count first) first = sym one_block ∙ ap joined (sym (bodies_are (block ∷ []) fit)) ∙ joined_all first first_contents in
      sym (record_in first (first_place first) (record_count first) j (omega (arith, first_count))) ∙ ap (record_at (record_length * j)) (sym whole) ∙ in_block j g

  -- The first k records of a good trace are a good trace,
  pub first_is_good : trace_test first ≡ good (first_place first) (record_count first)
  first_is_good =
      all_good_tested first first_contents
      (subst (Each (λ x. all_good x ≡ true)) (sym (bodies_are (block ∷ []) fit))
      (are_all_good block (λ j g. let b : j < k = omega (arith, part_records l (first_place l) k inside) in ap is_good (in_block j b) ∙ each j (omega (arith, h))), tt))

  same_records : (n a : ℕ) → a + n ≤ k → records_from first n a ≡ records_from l n a
  unfolding records_from
  same_records zero a g = refl
  same_records (suc n) a g = (λ t. first_nth a (omega arith) t ∷ same_records n (suc a) (omega arith) t)

  -- whose records are those,
  pub first_records_lem : records first ≡ records_from l k 0
  first_records_lem = ap (λ n. records_from first n 0) first_count ∙ same_records k 0 (omega arith)

  -- and which leaves, on any image and from a reset, what the whole has left by then.
  pub first_played_on : (i : List ℕ) → played_through first i ≡ played_on_to l k i
  first_played_on i = ap (played_all i) first_records_lem

  pub first_played : (i : List ℕ) → played first i ≡ played_to l k i
  first_played i = first_played_on (afresh i)

-- ---- of exported calls

is_plays : PlayTest → Bool
is_plays (refused n v) = false
is_plays plays = true

-- what was found of a play that is done
record Found (l i bs es a : List ℕ) : Type 0 where
  answer : leb answer_length (length a) ≡ true
  form : (t : PlayTest) → length_left (form_of (length i)) t ≡ t
  trace : AllGood l (first_place l) (record_count l)
  room : play_room l bs es ≡ true

module _ (l i bs es a : List ℕ) (done : IsDone (playing l i bs es a).number) where
  tested : play_test l i bs es ≡ plays
  unfolding playing
  tested = go (play_test l i bs es) refl
    where
      go : (t : PlayTest) → play_test l i bs es ≡ t → play_test l i bs es ≡ plays
      go plays e = e
      go (refused n v) e =
          absurd (refused_way l (afresh i) i bs es a n v (λ z. not_zero l i bs es a done (ap named_by e ∙ z)) (sym (ap (λ t. (left_if l (afresh i) i bs es a t).number) e) ∙ done))

  area : leb answer_length (length a) ≡ true
  unfolding playing
  area =
      test (leb answer_length (length a)) (λ t. t)
      (λ t. absurd (let z : 7 ≡ 0 = sym (ap (λ (p : PlayLeft). p.number) (by_room l (afresh i) i bs es a (play_test l i bs es) t)) ∙ done in omega arith))

  found : Found l i bs es a
  unfolding play_test is_plays
  found = go (form_of (length i)) refl (trace_test l) refl (play_room l bs es) refl tested
    where
      refuses : {x : PlayTest} → x ≡ plays → is_plays x ≡ false → Found l i bs es a
      refuses p q = absurd (true≢false (sym (ap is_plays p) ∙ q))

      go : (k : Known) → form_of (length i) ≡ k → (t : TraceTest) → trace_test l ≡ t → (b : Bool) → play_room l bs es ≡ b → length_left (form_of (length i)) (trace_left (trace_test l) (play_room l bs es)) ≡ plays → Found l i bs es a
      go unknown e t f b g p = refuses (ap (λ x. length_left x (trace_left (trace_test l) (play_room l bs es))) (sym e) ∙ p) refl
      go (known f) e t u b g p = by_trace t u b g (sym (ap (λ x. length_left x (trace_left (trace_test l) (play_room l bs es))) e) ∙ p)
        where
          by_trace : (t : TraceTest) → trace_test l ≡ t → (b : Bool) → play_room l bs es ≡ b → trace_left (trace_test l) (play_room l bs es) ≡ plays → Found l i bs es a
          by_trace wrong_contents u b g p = refuses (ap (λ x. trace_left x (play_room l bs es)) (sym u) ∙ p) refl
          by_trace (bad_record j) u b g p = refuses (ap (λ x. trace_left x (play_room l bs es)) (sym u) ∙ p) refl
          by_trace (good at n) u false g p = refuses ((λ s. trace_left (sym u s) (sym g s)) ∙ p) refl
          by_trace (good at n) u true g p =
              let w : AllGood l at n = subst (Means l) u (test_told l) in
              record {
                answer = area;
                form = λ x. ap (λ y. length_left y x) e;
                trace = record { contents = w.contents; place = refl; count = refl; each = w.each };
                room = g;
              }

-- Where a trace is played, so are its first k records, in the same buffers: what is left is what the whole has left after k records.
pub first_left : (l i bs es a : List ℕ) → IsDone (playing l i bs es a).number → (k : ℕ) → 1 ≤ k → k ≤ record_count l
    → playing (first_records l k) i bs es a
    ≡ play_leaves 0 (played_to l k i).image (in_front (played_to l k i).answers bs) (in_front (played_to l k i).events es) (answered 0 (some k) a)
unfolding play_test
first_left l i bs es a done k some-are h =
    let f = found l i bs es a done in
    let c = f.trace.contents in
    let each = f.trace.each in
    let m = first_records l k in
    let count = first_count l c each k some-are h in
    let left = first_played l c each k some-are h i in
    let room = (and-eq-true_iff (leb (16 * record_count l) (length bs)) (leb (drain_room * drains_in (records l)) (length es))).0 f.room in
    let all : k + (record_count l - k) ≡ record_count l = omega (arith, h) in
    let fewer : drains_in (records_from l k 0) ≤ drains_in (records l) = subst (λ n. drains_in (records_from l k 0) ≤ drains_in (records_from l n 0)) all (drains_more l k (record_count l - k) 0) in
    let drains-same = ap drains_in (first_records_lem l c each k some-are h) in
    let answers-fit = le-leb (16 * record_count m) (length bs) (omega (arith, count, h, leb-true (16 * record_count l) (length bs) room.0)) in
    let events_fit = le-leb (drain_room * drains_in (records m)) (length es) (omega (arith, drains-same, fewer, leb-true (drain_room * drains_in (records l)) (length es) room.1)) in
    let fits : play_room m bs es ≡ true = (λ s. answers-fit s && events_fit s) in
    let passes : play_test m i bs es ≡ plays = f.form (trace_left (trace_test m) (play_room m bs es)) ∙ (λ s. trace_left (first_is_good l c each k some-are h s) (fits s)) in
    done_played m i bs es a f.answer passes ∙ (λ s. play_leaves 0 (left s).image (in_front (left s).answers bs) (in_front (left s).events es) (answered 0 (some (count s)) a))
