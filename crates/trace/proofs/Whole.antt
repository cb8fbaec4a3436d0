-- The first bad record, and the test of a trace by what was found.
use Rattle.basics.proofs.Prelude.{◌≡◌, refl, sym, ap, ◌∙◌, Bool, true, false, cond, not, List, ℕ, suc, ◌+◌, ◌-◌, ◌*◌, ◌<◌, ◌≤◌, arith, length, lt-ltb, le-ltb}
use Rattle.std.specs.Prelude.{Some, None}
use Rattle.trace.specs.declared.contents.Records.{Records}
use Rattle.trace.specs.{contents.Found.contents_if, contents.Found.contents_as, Found.bad_from}
use Rattle.traces.specs.Trace.{most_records, record_length, first_place, record_count, contents_good, Record, record_at, is_good, first_bad, good, wrong_contents, bad_record, found_bad, trace_test}
use Rattle.traces.proofs.laws.{Contents.contents_have, Firsts.first_end, Firsts.first_here, Firsts.first_on}

-- ---- the first bad record

module _ (l : List ℕ) (first n k : ℕ) (e : first_bad (bad_from first l) n 0 ≡ first_bad (bad_from first l) (n - k) k) where
  module _ (h : k < n) {r : Record} {t : Bool} (p : r ≡ record_at (first + record_length * k) l) (q : t ≡ is_good r) where
    left : n - k ≡ suc (n - (k + 1))
    left = omega arith

    judged : bad_from first l k ≡ not t
    judged = ap not (sym (q ∙ ap is_good p))

    pub told_here : not t ≡ true → k ≡ first_bad (bad_from first l) n 0
    told_here f = sym (e ∙ ap (λ m. first_bad (bad_from first l) m k) left ∙ first_here (bad_from first l) (n - (k + 1)) k (judged ∙ f))

    pub told_later : not t ≡ false → first_bad (bad_from first l) n 0 ≡ first_bad (bad_from first l) (n - (k + 1)) (k + 1)
    told_later f =
        let s : suc k ≡ k + 1 = omega arith in
        e ∙ ap (λ m. first_bad (bad_from first l) m k) left ∙ first_on (bad_from first l) (n - (k + 1)) k (judged ∙ f) ∙ ap (first_bad (bad_from first l) (n - (k + 1))) s

  pub told_none : k ≡ n → n ≡ first_bad (bad_from first l) n 0
  told_none f =
      let z : n - k ≡ 0 = omega arith in
      sym (e ∙ ap (λ m. first_bad (bad_from first l) m k) z ∙ first_end (bad_from first l) k ∙ f)

-- ---- a trace

module _ (l : List ℕ) where
  pub told_wrong : None ≡ contents_as l → wrong_contents ≡ trace_test l
  unfolding trace_test
  told_wrong = go (contents_good l)
    where
      go : (t : Bool) → None ≡ contents_if t (first_place l) (record_count l)
          → wrong_contents ≡ cond t (found_bad (first_place l) (record_count l) (first_bad (bad_from (first_place l) l) (record_count l) 0)) wrong_contents
      go true e = absurd (cc)
      go false e = refl

  module _ {r : Records} (w : Some r ≡ contents_as l) where
    -- what good contents say
    pub record Placed : Type 0 where
      pub contents : contents_good l ≡ true
      pub place : first_place l ≡ r.first
      pub count : record_count l ≡ r.count

    pub placed : Placed
    placed = go (contents_good l) refl w
      where
        go : (t : Bool) → contents_good l ≡ t → Some r ≡ contents_if t (first_place l) (record_count l) → Placed
        go true t e = let same : r ≡ record { first = first_place l; count = record_count l } = cc in record { contents = t; place = ap (λ x. x.first) (sym same); count = ap (λ x. x.count) (sym same) }
        go false t e = absurd (cc)

    pub few_placed : r.count ≤ most_records
    few_placed = omega (arith, placed.count, (contents_have l placed.contents).most)

    pub placed_within : r.first + record_length * r.count ≤ length l
    placed_within = omega (arith, placed.count, placed.place, (contents_have l placed.contents).ends)

    tested : trace_test l ≡ found_bad r.first r.count (first_bad (bad_from r.first l) r.count 0)
    unfolding trace_test
    tested =
        ap (λ t. cond t (found_bad (first_place l) (record_count l) (first_bad (bad_from (first_place l) l) (record_count l) 0)) wrong_contents) placed.contents
        ∙ (λ t. found_bad (placed.place t) (placed.count t) (first_bad (bad_from (placed.place t) l) (placed.count t) 0))

    module _ {j : ℕ} (f : j ≡ first_bad (bad_from r.first l) r.count 0) where
      pub told_bad : j < r.count → bad_record j ≡ trace_test l
      told_bad h = sym (tested ∙ ap (found_bad r.first r.count) (sym f) ∙ ap (λ t. cond t (bad_record j) (good r.first r.count)) (lt-ltb j r.count h))

      pub told_good : r.count ≤ j → good r.first r.count ≡ trace_test l
      told_good h = sym (tested ∙ ap (found_bad r.first r.count) (sym f) ∙ ap (λ t. cond t (bad_record j) (good r.first r.count)) (le-ltb j r.count h))
