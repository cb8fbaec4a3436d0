-- A mark, as the row of one input takes it.
use Rattle.basics.proofs.Prelude.{◌≡◌, refl, sym, ap, ◌∙◌, Bool, true, false, cond, List, [], ◌∷◌, ◌++◌, ℕ, ◌+◌, ◌-◌, ◌<◌, ◌≤◌, ◌&&◌, max, arith, eqb, eqb-true, eqb-false, eq-eqb, ne_eqb, test}
use Rattle.rules.specs.Account.{tally}
use Rattle.plain.specs.Events.{Fate, returned, kept, dropped}
use Rattle.passes.specs.tallies.Grid.{Grid, put, bump}
use Rattle.passes.specs.tallies.Marks.{Mark, raised, lowered, began, taken_back, happened, input_of, kind_column, fate_columns, grown, bumped, settled, withdrawn, waited, marked, all_marked}
use Rattle.passes.specs.Slots.{Slot, settle, take_back, start_at, slot_after, slot_all, Rows}

pub eqb_sym : (a b : ℕ) → eqb a b ≡ eqb b a
eqb_sym a b = test (eqb a b) (λ t. t ∙ sym (eq-eqb b a (sym (eqb-true a b t)))) (λ t. t ∙ sym (ne_eqb b a (λ e. eqb-false a b t (sym e))))

-- ---- the columns that are counted

-- how much a mark adds to column c of row n
abbrev pub added_by : ℕ → ℕ → Mark → ℕ
added_by n c m = cond (eqb (input_of m) n) (tally (eqb c) (grown m)) 0

unfoldable pub added_in : ℕ → ℕ → List Mark → ℕ
added_in n c [] = 0
added_in n c (m ∷ ms) = added_by n c m + added_in n c ms

pub added_append : (n c : ℕ) (ms ns : List Mark) → added_in n c (ms ++ ns) ≡ added_in n c ms + added_in n c ns
unfolding added_in
added_append n c [] ns = omega arith
added_append n c (m ∷ ms) ns = omega (arith, added_append n c ms ns)

bump_at : (f : Grid) (m x n c : ℕ) → bump f m x n c ≡ f n c + cond (eqb m n) (cond (eqb c x) 1 0) 0
bump_at f m x n c =
    test (eqb c x)
    (λ t. test (eqb m n)
    (λ u. rw (t, u, eqb_sym n m ∙ u) (let e = eqb-true m n u in let z = eqb-true c x t in (λ i. f (e i) (sym z i) + 1)))
    (λ u. rw (t, u, eqb_sym n m ∙ u) (omega arith)))
    (λ t. rw t (test (eqb m n) (λ u. rw u (omega arith)) (λ u. rw u (omega arith))))

bumped_at : (f : Grid) (m : ℕ) (xs : List ℕ) (n c : ℕ) → bumped f m xs n c ≡ f n c + cond (eqb m n) (tally (eqb c) xs) 0
unfolding bumped tally
bumped_at f m [] n c = test (eqb m n) (λ u. rw u (omega arith)) (λ u. rw u (omega arith))
bumped_at f m (x ∷ xs) n c =
    let one = bump_at f m x n c in
    let rest = bumped_at (bump f m x) m xs n c in
    test (eqb m n)
    (λ u. let o = (rw u at one) in let r = (rw u at rest) in rw u (r ∙ omega (arith, o)))
    (λ u. let o = (rw u at one) in let r = (rw u at rest) in rw u (r ∙ omega (arith, o)))

-- the waits touch no counted column
waited_at : (f : Grid) (m : Mark) (n c : ℕ) → c < 7 → waited f m n c ≡ f n c
waited_at f (raised m) n c h = refl
waited_at f (lowered m) n c h = refl
waited_at f (began m k) n c h = rw (ne_eqb c 9 (λ e. omega (arith, e)))
waited_at f (taken_back m) n c h = test (eqb (f m 9) 0) (λ t. rw t) (λ t. rw (t, ne_eqb c 9 (λ e. omega (arith, e)), ne_eqb c 8 (λ e. omega (arith, e))))
waited_at f (happened x) n c h =
    test x.asserted
    (λ a. rw a (test (eqb (f x.input 9) 0) (λ t. rw t) (λ t. rw (t, ne_eqb c 9 (λ e. omega (arith, e)), ne_eqb c 7 (λ e. omega (arith, e))))))
    (λ a. rw a)

pub marked_at : (f : Grid) (m : Mark) (n c : ℕ) → c < 7 → marked f m n c ≡ f n c + added_by n c m
marked_at f m n c h = waited_at (bumped f (input_of m) (grown m)) m n c h ∙ bumped_at f (input_of m) (grown m) n c

-- all marks: a counted column has what they add
pub all_marked_at : (f : Grid) (ms : List Mark) (n c : ℕ) → c < 7 → all_marked f ms n c ≡ f n c + added_in n c ms
unfolding all_marked added_in
all_marked_at f [] n c h = omega arith
all_marked_at f (m ∷ ms) n c h = let one = marked_at f m n c h in all_marked_at (marked f m) ms n c h ∙ omega (arith, one)

-- ---- the columns of the waits

-- counting touches no column of the waits
grown_few : (m : Mark) (f : Grid) (n : ℕ) (s : Slot) → Rows f n s → Rows (bumped f (input_of m) (grown m)) n s
unfolding bumped
grown_few (raised m) f n s r = record { greatest = r.greatest; withdrawn = r.withdrawn; since = r.since }
grown_few (lowered m) f n s r = record { greatest = r.greatest; withdrawn = r.withdrawn; since = r.since }
grown_few (began m k) f n s r = r
grown_few (taken_back m) f n s r = r
grown_few (happened x) f n s r = go x.asserted x.fate
  where
    go : (a : Bool) (z : Fate) → Rows (bumped f x.input (kind_column a ∷ fate_columns z)) n s
    go true returned = record { greatest = r.greatest; withdrawn = r.withdrawn; since = r.since }
    go true kept = record { greatest = r.greatest; withdrawn = r.withdrawn; since = r.since }
    go true dropped = record { greatest = r.greatest; withdrawn = r.withdrawn; since = r.since }
    go false returned = record { greatest = r.greatest; withdrawn = r.withdrawn; since = r.since }
    go false kept = record { greatest = r.greatest; withdrawn = r.withdrawn; since = r.since }
    go false dropped = record { greatest = r.greatest; withdrawn = r.withdrawn; since = r.since }

-- ---- the three things that a mark can do to a wait

module _ (f : Grid) (n : ℕ) (s : Slot) (r : Rows f n s) where
  began_other : (m v : ℕ) → eqb n m ≡ false → Rows (put f m 9 v) n s
  began_other m v u = record { greatest = r.greatest; withdrawn = r.withdrawn; since = rw u r.since }

  began_here : (m k : ℕ) → eqb n m ≡ true → Rows (put f m 9 (k + 1)) n (start_at k s)
  began_here m k u = record { greatest = r.greatest; withdrawn = r.withdrawn; since = rw u refl }

  back_other : (m : ℕ) → eqb n m ≡ false → Rows (withdrawn f m) n s
  back_other m u =
      test (eqb (f m 9) 0) (λ t. rw t r)
      (λ t. rw t (record { greatest = r.greatest; withdrawn = rw u r.withdrawn; since = rw u r.since }))

  zero_here : (m : ℕ) → eqb n m ≡ true → eqb (f m 9) 0 ≡ eqb s.since 0
  zero_here m u = let e = eqb-true n m u in ap (λ y. eqb y 0) (ap (λ i. f i 9) (sym e) ∙ r.since)

  back_here : (m : ℕ) → eqb n m ≡ true → Rows (withdrawn f m) n (take_back s)
  back_here m u =
      let z = zero_here m u in
      let w : f m 8 ≡ s.withdrawn = ap (λ i. f i 8) (sym (eqb-true n m u)) ∙ r.withdrawn in
      test (eqb s.since 0) (λ t. rw (z, t) r)
      (λ t. rw (z, t) (record { greatest = r.greatest; withdrawn = rw u (omega (arith, w)); since = rw u refl }))

  settle_other : (m k : ℕ) → eqb n m ≡ false → Rows (settled f m k) n s
  settle_other m k u =
      test (eqb (f m 9) 0) (λ t. rw t r)
      (λ t. rw t (record { greatest = rw u r.greatest; withdrawn = r.withdrawn; since = rw u r.since }))

  settle_here : (m k : ℕ) → eqb n m ≡ true → Rows (settled f m k) n (settle k s)
  settle_here m k u =
      let z = zero_here m u in
      let e = eqb-true n m u in
      let g : f m 7 ≡ s.greatest = ap (λ i. f i 7) (sym e) ∙ r.greatest in
      let c : f m 9 ≡ s.since = ap (λ i. f i 9) (sym e) ∙ r.since in
      let v : max (f m 7) (k + 1 - f m 9) ≡ max s.greatest (k + 1 - s.since) = (λ i. max (g i) (k + 1 - c i)) in
      test (eqb s.since 0) (λ t. rw (z, t) r)
      (λ t. rw (z, t) (record { greatest = rw u v; withdrawn = r.withdrawn; since = rw u refl }))

pub row_marked : (f : Grid) (n : ℕ) (s : Slot) (m : Mark) → Rows f n s → Rows (marked f m) n (slot_after n s m)
row_marked f n s (raised m) r = grown_few (raised m) f n s r
row_marked f n s (lowered m) r = grown_few (lowered m) f n s r
row_marked f n s (began m k) r =
    let q = grown_few (began m k) f n s r in
    test (eqb n m) (λ u. rw u (began_here _ n s q m k u)) (λ u. rw u (began_other _ n s q m (k + 1) u))
row_marked f n s (taken_back m) r =
    let q = grown_few (taken_back m) f n s r in
    test (eqb n m) (λ u. rw u (back_here _ n s q m u)) (λ u. rw u (back_other _ n s q m u))
row_marked f n s (happened x) r = go x.asserted refl
  where
    go : (a : Bool) → x.asserted ≡ a → Rows (marked f (happened x)) n (slot_after n s (happened x))
    go true a =
        let q = grown_few (happened x) f n s r in
        test (eqb n x.input) (λ u. rw (a, u) (rw a at (settle_here _ n s q x.input x.call u))) (λ u. rw (a, u) (rw a at (settle_other _ n s q x.input x.call u)))
    go false a = rw a (rw a at (grown_few (happened x) f n s r))

-- one after another
pub rows_marked : (f : Grid) (n : ℕ) (s : Slot) (ms : List Mark) → Rows f n s → Rows (all_marked f ms) n (slot_all n s ms)
unfolding all_marked slot_all
rows_marked f n s [] r = r
rows_marked f n s (m ∷ ms) r = rows_marked (marked f m) n (slot_after n s m) ms (row_marked f n s m r)

-- ---- how long a wait can take

-- a mark of a record below b
abbrev pub Soon : ℕ → Mark → Type 0
Soon b (raised m) = Unit {0}
Soon b (lowered m) = Unit {0}
Soon b (began m k) = k < b
Soon b (taken_back m) = Unit {0}
Soon b (happened x) = x.call < b

abbrev pub AllSoon : ℕ → List Mark → Type 0
AllSoon b [] = Unit {0}
AllSoon b (m ∷ ms) = Soon b m × AllSoon b ms

-- a slot whose numbers are at most b
pub record Early (b : ℕ) (s : Slot) : Type 0 where
  pub great : s.greatest ≤ b
  pub late : s.since ≤ b

early_after : (b n : ℕ) (s : Slot) (m : Mark) → Soon b m → Early b s → Early b (slot_after n s m)
early_after b n s (raised m) h e = e
early_after b n s (lowered m) h e = e
early_after b n s (began m k) h e = test (eqb n m) (λ u. rw u (record { great = e.great; late = omega (arith, h) })) (λ u. rw u e)
early_after b n s (taken_back m) h e =
    test (eqb n m) (λ u. rw u (test (eqb s.since 0) (λ t. rw t e) (λ t. rw t (record { great = e.great; late = omega arith })))) (λ u. rw u e)
early_after b n s (happened x) h e =
    test (x.asserted && eqb n x.input)
    (λ u. rw u (test (eqb s.since 0) (λ t. rw t e) (λ t. rw t (record { great = omega (arith, h, e.great); late = omega arith }))))
    (λ u. rw u e)

pub early_all : (b n : ℕ) (s : Slot) (ms : List Mark) → AllSoon b ms → Early b s → Early b (slot_all n s ms)
unfolding slot_all
early_all b n s [] h e = e
early_all b n s (m ∷ ms) h e = early_all b n (slot_after n s m) ms h.1 (early_after b n s m h.0 e)
