-- A number read and written, in the bytes that hold the grid.
use Rattle.basics.proofs.Prelude.{◌≡◌, sym, ap, ◌∙◌, Bool, true, false, cond, ◌&&◌, and-eq-true_iff, true≢false, List, ◌++◌, ℕ, ◌+◌, ◌-◌, ◌*◌, ◌/◌, ◌%◌, ◌^◌, ◌<◌, ◌≤◌, zero, suc, ◌∷◌, refl, mod-lt, mul_left_comm, pow-succ', arith, eqb, leb, length, take, drop, drop-drop, drop_at, length-take-le, eqb-true, eqb-false, eq-eqb, leb-true, leb-false, put_mid, bytes_of, number_of, part, test, length_bytes_of, number_of_bytes_of, put_there, put_before, put_behind, length_put}
use Rattle.passes.specs.tallies.Grid.{Grid, cell_bytes, limit, cell_place, grid_length, record_limit, put, Holds, Fits}

-- what stands behind a part that is written over
behind : (l ys : List ℕ) (a k e : ℕ) → a + k ≤ length l → length ys ≡ k → a + k ≤ e → drop e (put_mid a k l ys) ≡ drop e l
behind l ys a k e h z w =
    let s : e ≡ a + k + (e - (a + k)) = omega arith in
    let front : length (take a l) ≡ a = length-take-le a l (omega arith) in
    let from : drop a (put_mid a k l ys) ≡ ys ++ drop k (drop a l) = drop_at (take a l) (ys ++ drop k (drop a l)) a front in
    let rest : drop (a + k) (put_mid a k l ys) ≡ drop (a + k) l = sym (drop-drop k a (put_mid a k l ys)) ∙ ap (drop k) from ∙ drop_at ys (drop k (drop a l)) k z ∙ drop-drop k a l in
    let past : (m : List ℕ) → drop e m ≡ drop (e - (a + k)) (drop (a + k) m) = λ m. ap (λ j. drop j m) s ∙ sym (drop-drop (e - (a + k)) (a + k) m) in
    past (put_mid a k l ys) ∙ ap (drop (e - (a + k))) rest ∙ sym (past l)

-- ---- the low bytes of a number

low_bytes : (k q r v : ℕ) → v ≡ q * 256 ^ k + r → bytes_of k r ≡ bytes_of k v
low_bytes zero q r v e = refl
low_bytes (suc k) q r v e =
    let z : v ≡ q * 256 ^ k * 256 + r = e ∙ ap (λ (y : ℕ). q * y + r) (pow-succ' 256 k) ∙ regroup (256 ^ k) in
    (λ i. first (q * 256 ^ k) z i ∷ low_bytes k q (r / 256) (v / 256) (rest (q * 256 ^ k) z) i)
  where
    regroup : (y : ℕ) → q * (256 * y) + r ≡ q * y * 256 + r
    regroup y = let e = mul_left_comm q 256 y in omega (arith, e)

    first : (y : ℕ) → v ≡ y * 256 + r → r % 256 ≡ v % 256
    first y e = omega (arith, e)

    rest : (y : ℕ) → v ≡ y * 256 + r → v / 256 ≡ y + r / 256
    rest y e = omega (arith, e)

pub bytes_low : (w : Bool) (v : ℕ) → bytes_of (cell_bytes w) (v % limit w) ≡ bytes_of (cell_bytes w) v
bytes_low true v = low_bytes 8 (v / 2 ^ 64) (v % 2 ^ 64) v (omega arith)
bytes_low false v = low_bytes 4 (v / 2 ^ 32) (v % 2 ^ 32) v (omega arith)

pub number_low : (w : Bool) (v : ℕ) → number_of (bytes_of (cell_bytes w) v) ≡ v % limit w
number_low true v = ap number_of (sym (bytes_low true v)) ∙ number_of_bytes_of 8 (v % 2 ^ 64) (mod-lt v (omega arith))
number_low false v = ap number_of (sym (bytes_low false v)) ∙ number_of_bytes_of 4 (v % 2 ^ 32) (mod-lt v (omega arith))

-- numbers that the bytes do not tell apart
pub bytes_same : (w : Bool) (v x : ℕ) → v % limit w ≡ x % limit w → bytes_of (cell_bytes w) x ≡ bytes_of (cell_bytes w) v
bytes_same w v x e = sym (bytes_low w x) ∙ ap (bytes_of (cell_bytes w)) (sym e) ∙ bytes_low w v

-- ---- what the limit leaves

pub small_low : (w : Bool) (v : ℕ) → v < limit w → v % limit w ≡ v
small_low true v h = omega (arith, h)
small_low false v h = omega (arith, h)

pub soon_small : (w : Bool) (k : ℕ) → k < record_limit w → k + 1 < limit w
soon_small true k h = omega (arith, h)
soon_small false k h = omega (arith, h)

pub soon_u64 : (w : Bool) (k : ℕ) → k < record_limit w → k + 1 < 2 ^ 64
soon_u64 true k h = omega (arith, h)
soon_u64 false k h = omega (arith, h)

pub number_u64 : (w : Bool) (b k n : ℕ) → b + n ≤ record_limit w → k < n → b + k < 2 ^ 64
number_u64 true b k n h q = omega (arith, h, q)
number_u64 false b k n h q = omega (arith, h, q)

pub number_soon : (w : Bool) (b k n : ℕ) → b + n ≤ record_limit w → k < n → b + k < record_limit w
number_soon true b k n h q = omega (arith, h, q)
number_soon false b k n h q = omega (arith, h, q)

pub next_low : (w : Bool) (v x y : ℕ) → x ≡ v % limit w → y ≡ (x + 1) % 2 ^ 64 → (v + 1) % limit w ≡ y % limit w
next_low true v x y e f = omega (arith, e, f)
next_low false v x y e f = omega (arith, e, f)

pub sum_low : (w : Bool) (s t x y z : ℕ) → x ≡ s % limit w → y ≡ t % limit w → z ≡ (y + x) % 2 ^ 64 → (t + s) % limit w ≡ z % limit w
sum_low true s t x y z d e f = wide s t ∙ (λ i. (sym e i + sym d i) % 2 ^ 64 % 2 ^ 64) ∙ ap (λ (u : ℕ). u % 2 ^ 64) (sym f)
  where
    wide : (s t : ℕ) → (t + s) % 2 ^ 64 ≡ (t % 2 ^ 64 + s % 2 ^ 64) % 2 ^ 64 % 2 ^ 64
    wide s t = omega arith
sum_low false s t x y z d e f = narrow s t ∙ (λ i. (sym e i + sym d i) % 2 ^ 64 % 2 ^ 32) ∙ ap (λ (u : ℕ). u % 2 ^ 32) (sym f)
  where
    narrow : (s t : ℕ) → (t + s) % 2 ^ 32 ≡ (t % 2 ^ 32 + s % 2 ^ 32) % 2 ^ 64 % 2 ^ 32
    narrow s t = omega arith

-- ---- places

pub inside : (w : Bool) (n c a : ℕ) → n < 65 → c < 10 → grid_length w ≤ a → cell_place w n c + cell_bytes w ≤ a
inside true n c a p q h = omega arith
inside false n c a p q h = omega arith

pub within : (w : Bool) (n c : ℕ) → n < 65 → c < 10 → cell_place w n c + cell_bytes w ≤ 5200
within true n c p q = omega arith
within false n c p q = omega arith

pub cell_few : (w : Bool) → cell_bytes w ≤ 8
cell_few true = omega arith
cell_few false = omega arith

-- two places are one, or lie apart
apart : (w : Bool) (n c m b : ℕ) → c < 10 → b < 10 → (b ≡ c → m ≡ n → ⊥) → cell_place w n c < cell_place w m b + cell_bytes w → cell_place w n c + cell_bytes w ≤ cell_place w m b
apart true n c m b p q e g =
    test (leb (cell_place true n c + 8) (cell_place true m b)) (λ u. leb-true _ _ u)
    (λ u. let k = leb-false (cell_place true n c + 8) (cell_place true m b) u in absurd (e (omega (arith, k)) (omega (arith, k))))
apart false n c m b p q e g =
    test (leb (cell_place false n c + 4) (cell_place false m b)) (λ u. leb-true _ _ u)
    (λ u. let k = leb-false (cell_place false n c + 4) (cell_place false m b) u in absurd (e (omega (arith, k)) (omega (arith, k))))

module _ (w : Bool) {l : List ℕ} {f : Grid} {rest : List ℕ} (h : Holds w l f rest) (n c : ℕ) (p : n < 65) (q : c < 10) where
  -- the number that stands there
  pub cell_read : number_of (part (cell_place w n c) (cell_bytes w) l) ≡ f n c % limit w
  cell_read = ap number_of (h.cells n c p q) ∙ number_low w (f n c)

  pub cell_inside : cell_place w n c + cell_bytes w ≤ length l
  cell_inside = inside w n c (length l) p q h.long

  -- another one written there
  module _ (v : ℕ) (ys : List ℕ) (y : ys ≡ bytes_of (cell_bytes w) v) (fits : Fits w n c v) where
    abbrev wrote : List ℕ
    wrote = put_mid (cell_place w n c) (cell_bytes w) l ys

    sized : length ys ≡ cell_bytes w
    sized = ap length y ∙ length_bytes_of (cell_bytes w) v

    other_cell : (m b : ℕ) → m < 65 → b < 10 → (b ≡ c → m ≡ n → ⊥) → part (cell_place w m b) (cell_bytes w) wrote ≡ part (cell_place w m b) (cell_bytes w) l
    other_cell m b s t e =
        test (leb (cell_place w m b + cell_bytes w) (cell_place w n c))
        (λ g. put_before l ys (cell_place w n c) (cell_bytes w) cell_inside sized (cell_place w m b) (cell_bytes w) (leb-true _ _ g))
        (λ g. put_behind l ys (cell_place w n c) (cell_bytes w) cell_inside sized (cell_place w m b) (cell_bytes w) (apart w n c m b q t e (leb-false _ _ g)))

    its_cell : (m b : ℕ) → m < 65 → b < 10 → part (cell_place w m b) (cell_bytes w) wrote ≡ bytes_of (cell_bytes w) (put f n c v m b)
    its_cell m b s t =
        test (eqb b c && eqb m n)
        (λ g. let both = (and-eq-true_iff (eqb b c) (eqb m n)).0 g in
        ap (λ a. part a (cell_bytes w) wrote) (λ i. cell_place w (eqb-true m n both.1 i) (eqb-true b c both.0 i))
        ∙ put_there l ys (cell_place w n c) (cell_bytes w) cell_inside sized ∙ y ∙ ap (bytes_of (cell_bytes w)) (ap (λ x. cond x v (f m b)) (sym g)))
        (λ g. other_cell m b s t (λ x z. true≢false (sym (both_same x z) ∙ g)) ∙ h.cells m b s t ∙ ap (bytes_of (cell_bytes w)) (ap (λ x. cond x v (f m b)) (sym g)))
      where
        both_same : b ≡ c → m ≡ n → (eqb b c && eqb m n) ≡ true
        both_same x z = rw (eq-eqb b c x, eq-eqb m n z)

    great_put : (m : ℕ) → m < 65 → put f n c v m 7 < limit w
    great_put m s =
        test (eqb 7 c) (λ g. test (eqb m n) (λ z. rw (g, z) (fits.0 (sym (eqb-true 7 c g)))) (λ z. rw (g, z) (h.great m s))) (λ g. rw g (h.great m s))

    late_put : (m : ℕ) → m < 64 → put f n c v m 9 < limit w
    late_put m s =
        test (eqb 9 c)
        (λ g. test (eqb m n) (λ z. rw (g, z) (fits.1 (sym (eqb-true 9 c g)) (below (eqb-true m n z)))) (λ z. rw (g, z) (h.late m s)))
        (λ g. rw g (h.late m s))
      where
        below : m ≡ n → n < 64
        below e = omega (arith, e, s)

    pub cell_put : Holds w wrote (put f n c v) rest
    cell_put = record {
      long = omega (arith, h.long, length_put l ys (cell_place w n c) (cell_bytes w) cell_inside sized);
      cells = its_cell;
      great = great_put;
      late = late_put;
      past = behind l ys (cell_place w n c) (cell_bytes w) (grid_length w) cell_inside sized (inside w n c (grid_length w) p q (omega arith)) ∙ h.past;
    }
