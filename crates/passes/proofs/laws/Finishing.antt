-- The grid before the first record, and after the last: which number stands where.
use Rattle.basics.proofs.Prelude.{◌<◌, ◌≡◌, ℕ, arith, suc, refl, sym, ap, ◌∙◌, Bool, true, cond, not, List, [], ◌∷◌, ◌++◌, zero, ◌+◌, ◌≤◌, eqb, eqb-true, eqb-false, eq-eqb, ne_eqb, on, from, test, on_not, on_none}
use Rattle.passes.specs.{tallies.Grid.Grid, tallies.Grid.put, Finish.row_from, Finish.rows_from, Finish.all_inputs, Finish.is_on, Finish.shut, Finish.joined, Finish.row_joined, Finish.finished}

pub nearer : (n k : ℕ) → (n ≡ k → ⊥) → n < suc k → n < k
nearer n k d h = omega (arith, d, h)

-- ---- one number put

put_here : (f : Grid) (n c v : ℕ) → put f n c v n c ≡ v
put_here f n c v = rw (eq-eqb c c refl, eq-eqb n n refl)

put_row : (f : Grid) (n c v m b : ℕ) → (m ≡ n → ⊥) → put f n c v m b ≡ f m b
put_row f n c v m b h = test (eqb b c) (λ t. rw (t, ne_eqb m n h)) (λ t. rw t)

put_column : (f : Grid) (n c v m b : ℕ) → (b ≡ c → ⊥) → put f n c v m b ≡ f m b
put_column f n c v m b h = rw (ne_eqb b c h)

-- ---- rows of another grid

module _ (g : Grid) where
  pub row_from_lem : (f : Grid) (n k c : ℕ) → c < k → row_from g f n k n c ≡ g n c
  unfolding row_from
  row_from_lem f n zero c q = omega arith
  row_from_lem f n (suc k) c q =
      test (eqb c k)
      (λ t. let e = eqb-true c k t in ap (λ b. put (row_from g f n k) n k (g n k) n b) e ∙ put_here (row_from g f n k) n k (g n k) ∙ ap (g n) (sym e))
      (λ t. let d = eqb-false c k t in put_column (row_from g f n k) n k (g n k) n c d ∙ row_from_lem f n k c (nearer c k d q))

  pub row_kept : (f : Grid) (n k m c : ℕ) → (m ≡ n → ⊥) → row_from g f n k m c ≡ f m c
  unfolding row_from
  row_kept f n zero m c d = refl
  row_kept f n (suc k) m c d = put_row (row_from g f n k) n k (g n k) m c d ∙ row_kept f n k m c d

  stays : (f : Grid) (ns : List ℕ) (n c : ℕ) → c < 10 → f n c ≡ g n c → rows_from g f ns n c ≡ g n c
  unfolding rows_from
  stays f [] n c q h = h
  stays f (m ∷ ns) n c q h =
      stays (row_from g f m 10) ns n c q
      (test (eqb n m)
      (λ t. let e = eqb-true n m t in ap (λ x. row_from g f m 10 x c) e ∙ row_from_lem f m 10 c q ∙ ap (λ x. g x c) (sym e))
      (λ t. row_kept f m 10 n c (eqb-false n m t) ∙ h))

  from_set : (f : Grid) (s : ℕ → Bool) (j k n c : ℕ) → c < 10 → j ≤ n → n < j + k → s n ≡ true → rows_from g f (from j k s) n c ≡ g n c
  unfolding rows_from from
  from_set f s j zero n c b p q t = absurd (omega arith)
  from_set f s j (suc k) n c b p q t =
      test (eqb j n)
      (λ u. let e = eqb-true j n u in
      rw (ap s e ∙ t) (stays (row_from g f j 10) (from (suc j) k s) n c b (ap (λ m. row_from g f m 10 n c) e ∙ row_from_lem f n 10 c b)))
      (λ u. let h = later j n p (eqb-false j n u) in
      test (s j) (λ v. rw v (from_set (row_from g f j 10) s (suc j) k n c b h (omega arith) t)) (λ v. rw v (from_set f s (suc j) k n c b h (omega arith) t)))
    where
      later : (j n : ℕ) → j ≤ n → (j ≡ n → ⊥) → suc j ≤ n
      later j n h d = omega (arith, h, d)

  pub all_from : (f : Grid) (n c : ℕ) → n < 64 → c < 10 → rows_from g f all_inputs n c ≡ g n c
  all_from f n c p q = from_set f (on 0xffff_ffff_ffff_ffff) 0 64 n c q (omega arith) (omega arith) (all_on n p)
    where
      all_on : (n : ℕ) → n < 64 → on 0xffff_ffff_ffff_ffff n ≡ true
      all_on n p = on_not 64 0 n (omega arith) p ∙ ap not (on_none n)

  pub from_more : (f : Grid) (ns : List ℕ) (n : ℕ) → row_from g (rows_from g f ns) n 10 ≡ rows_from g f (ns ++ (n ∷ []))
  unfolding rows_from
  from_more f [] n = refl
  from_more f (m ∷ ns) n = from_more (row_from g f m 10) ns n

-- ---- a row joined to the total

joined_row : (f : Grid) (n k m c : ℕ) → m < 64 → row_joined f n k m c ≡ f m c
unfolding row_joined
joined_row f n zero m c p = refl
joined_row f n (suc k) m c p = put_row (row_joined f n k) 64 k _ m c (λ e. omega (arith, e)) ∙ joined_row f n k m c p

joined_later : (f : Grid) (n k c : ℕ) → k ≤ c → row_joined f n k 64 c ≡ f 64 c
unfolding row_joined
joined_later f n zero c h = refl
joined_later f n (suc k) c h = put_column (row_joined f n k) 64 k _ 64 c (λ e. omega (arith, e)) ∙ joined_later f n k c (omega arith)

joined_total : (f : Grid) (n k c : ℕ) → n < 64 → c < k → row_joined f n k 64 c ≡ joined c (f 64 c) (f n c)
unfolding row_joined
joined_total f n zero c p h = omega arith
joined_total f n (suc k) c p h =
    test (eqb c k)
    (λ t. let e = eqb-true c k t in
    ap (λ b. put (row_joined f n k) 64 k (joined k (row_joined f n k 64 k) (row_joined f n k n k)) 64 b) e ∙ put_here (row_joined f n k) 64 k _
    ∙ (λ i. joined k (joined_later f n k k (omega arith) i) (joined_row f n k n k p i)) ∙ ap (λ b. joined b (f 64 b) (f n b)) (sym e))
    (λ t. let d = eqb-false c k t in put_column (row_joined f n k) 64 k _ 64 c d ∙ joined_total f n k c p (nearer c k d h))

-- ---- all rows

-- a row once it is shut
abbrev pub shut_row : Grid → ℕ → ℕ → ℕ
shut_row f n c = cond (eqb c 9) (is_on (f n 9)) (f n c)

-- the total of the first k rows
unfoldable pub total_of : Grid → ℕ → ℕ → ℕ
total_of f zero c = 0
total_of f (suc k) c = joined c (total_of f k c) (shut_row f k c)

shut_at : (f : Grid) (n c : ℕ) → shut f n n c ≡ shut_row f n c
shut_at f n c = test (eqb c 9) (λ t. rw (t, eq-eqb n n refl)) (λ t. rw t)

module _ (f : Grid) (none : (c : ℕ) → c < 10 → f 64 c ≡ 0) where
  pub record Finished (k : ℕ) : Type 0 where
    pub before : (n c : ℕ) → n < k → finished f k n c ≡ shut_row f n c
    pub behind : (n c : ℕ) → k ≤ n → n < 64 → finished f k n c ≡ f n c
    pub total : (c : ℕ) → c < 10 → finished f k 64 c ≡ total_of f k c

  pub finishes : (k : ℕ) → k ≤ 64 → Finished k
  unfolding finished total_of
  finishes zero h = record { before = λ n c p. absurd (omega (arith, p)); behind = λ n c p q. refl; total = none }
  finishes (suc k) h =
      let i = finishes k (omega arith) in
      let g = finished f k in
      let other : (n c : ℕ) → n < 64 → (n ≡ k → ⊥) → row_joined (shut g k) k 10 n c ≡ g n c = λ n c p d. joined_row (shut g k) k 10 n c p ∙ put_row g k 9 (is_on (g k 9)) n c d in
      let row : (c : ℕ) → shut g k k c ≡ shut_row f k c = λ c. shut_at g k c ∙ (λ t. cond (eqb c 9) (is_on (i.behind k 9 (omega arith) (omega arith) t)) (i.behind k c (omega arith) (omega arith) t)) in
      record {
        before = λ n c p. test (eqb n k)
            (λ t. let e = eqb-true n k t in ap (λ m. row_joined (shut g k) k 10 m c) e ∙ joined_row (shut g k) k 10 k c (omega arith) ∙ row c ∙ ap (λ m. shut_row f m c) (sym e))
            (λ t. let d = eqb-false n k t in other n c (omega (arith, p)) d ∙ i.before n c (nearer n k d p));
        behind = λ n c p q. other n c q (λ e. omega (arith, e, p)) ∙ i.behind n c (omega (arith, p)) q;
        total = λ c q.
            joined_total (shut g k) k 10 c (omega arith) q
            ∙ (λ t. joined c ((put_row g k 9 (is_on (g k 9)) 64 c (λ e. omega (arith, e)) ∙ i.total c q) t) (row c t));
      }
