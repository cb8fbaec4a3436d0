-- The rules on pairs, tested eight bytes at a time: a word is zero where its bytes are, and has a bit above the lowest of a flag where one is over 1.
use Rattle.basics.proofs.Prelude.{◌≡◌, refl, sym, ap, ap₂, ◌∙◌, Bool, true, false, false≢true, ◌&&◌, and-true, and-false, and_assoc, and-or_distrib_right, and-eq-true_iff, List, [], ◌∷◌, ◌++◌, ℕ, zero, suc, ◌+◌, ◌-◌, ◌*◌, ◌/◌, ◌%◌, ◌^◌, ◌<◌, ◌≤◌, zero-add, mod-eq_of_lt, zero-div, add-one, arith, bit_and, bit_or, and_block, and_high, and_zero_r, and_le_l, and_le_r, or_add_and, or_lt, eqb, leb, lit<, lit≤, length, take, drop, get_or, length-drop, drop_of_length-le, shr-shr, drop-drop, drop-append-le, get_or-drop, eq-eqb, ne_eqb, eqb-true, le-leb, leb-true, number_of, part, Bytes, on, length_part, part_then, bytes_drop, bytes_part, test, on_and, on_or, on_ext}
use Rattle.rules.specs.Ring.{capacity}
use Rattle.images.{specs.Form.Form, specs.Form.numbers, specs.Form.has, specs.Form.read, specs.Image.register_at, proofs.laws.Tests.Flags, proofs.laws.Tests.Unused}
use Rattle.image.specs.unused.Events.{flags_good, all_zero, pairs_good, numbers_good, bits_of}

-- ---- what the tests say

-- the flags of the first n pairs, each with the place of its pair
abbrev PairFlags : ℕ → List ℕ → Type 0
PairFlags n l = (i : ℕ) → i < n → get_or l (2 * i + 1) 0 ≤ 1

two_on : (i : ℕ) → 2 * suc i + 1 ≡ suc (suc (2 * i + 1))
two_on i = omega arith

flags_good_flags : (n : ℕ) (l : List ℕ) → flags_good n l ≡ true → PairFlags n l
flags_good_flags zero l e i h = absurd (omega arith)
flags_good_flags (suc n) [] e i h = lit≤ tt
flags_good_flags (suc n) (v ∷ []) e i h = rw add-one (lit≤ tt)
flags_good_flags (suc n) (v ∷ f ∷ l) e zero h = leb-true f 1 ((and-eq-true_iff (leb f 1) (flags_good n l)).0 e).0
flags_good_flags (suc n) (v ∷ f ∷ l) e (suc i) h = rw two_on (flags_good_flags n l ((and-eq-true_iff (leb f 1) (flags_good n l)).0 e).1 i (omega arith))

pub flags_flags_good : (n : ℕ) (l : List ℕ) → PairFlags n l → flags_good n l ≡ true
flags_flags_good zero l g = refl
flags_flags_good (suc n) [] g = refl
flags_flags_good (suc n) (v ∷ []) g = refl
flags_flags_good (suc n) (v ∷ f ∷ l) g = rw (le-leb f 1 (g 0 (omega arith)), flags_flags_good n l (λ i k. rw two_on at (g (suc i) (omega arith))))

pub all_zero_zeros : (l : List ℕ) → all_zero l ≡ true → (i : ℕ) → get_or l i 0 ≡ 0
all_zero_zeros [] e i = refl
all_zero_zeros (x ∷ l) e zero = eqb-true x 0 ((and-eq-true_iff (eqb x 0) (all_zero l)).0 e).0
all_zero_zeros (x ∷ l) e (suc i) = all_zero_zeros l ((and-eq-true_iff (eqb x 0) (all_zero l)).0 e).1 i

pub zeros_all_zero : (l : List ℕ) → ((i : ℕ) → get_or l i 0 ≡ 0) → all_zero l ≡ true
zeros_all_zero [] z = refl
zeros_all_zero (x ∷ l) z = rw (eq-eqb x 0 (z 0), zeros_all_zero l (λ i. z (suc i)))

-- zeros behind n things of two bytes
module _ (n : ℕ) (l : List ℕ) where
  zero_unused : all_zero (drop (2 * n) l) ≡ true → Unused n l
  zero_unused e i h =
      let s : 2 * n + (i - 2 * n) ≡ i = omega arith in
      rw s at (sym (get_or-drop (2 * n) l (i - 2 * n) 0) ∙ all_zero_zeros (drop (2 * n) l) e (i - 2 * n))

  unused_zero : Unused n l → all_zero (drop (2 * n) l) ≡ true
  unused_zero z = zeros_all_zero (drop (2 * n) l) (λ i. get_or-drop (2 * n) l i 0 ∙ z (2 * n + i) (omega arith))

-- the two rules on pairs, as the rules have them
module _ (n : ℕ) (l : List ℕ) where
  pub pairs_good_flags : pairs_good n l ≡ true → Flags n l
  pairs_good_flags e i h o =
      let s : 2 * (i / 2) + 1 ≡ i = omega arith in
      let good = ((and-eq-true_iff (flags_good n l) (all_zero (drop (2 * n) l))).0 e).0 in
      rw s at (flags_good_flags n l good (i / 2) (omega arith))

  pub pairs_good_unused : pairs_good n l ≡ true → Unused n l
  pairs_good_unused e = zero_unused n l ((and-eq-true_iff (flags_good n l) (all_zero (drop (2 * n) l))).0 e).1

  pub good_pairs : Flags n l → Unused n l → pairs_good n l ≡ true
  good_pairs g z = rw (flags_flags_good n l (λ i h. g (2 * i + 1) (omega arith) (omega arith)), unused_zero n l z)

-- and that on numbers
module _ (f : Form) (n : ℕ) (l : List ℕ) where
  pub numbers_good_unused : numbers_good f n l ≡ true → has f numbers ≡ true → Unused n (read f l numbers)
  numbers_good_unused e h = zero_unused n (read f l numbers) (rw h at e)

  pub good_numbers : (has f numbers ≡ true → Unused n (read f l numbers)) → numbers_good f n l ≡ true
  good_numbers z = test (has f numbers) (λ h. rw h (unused_zero n (read f l numbers) (z h))) (λ h. rw h)

-- ---- tests of numbers for zero

pub zero_is : (x : ℕ) (t : Bool) → (x ≡ 0 → t ≡ true) → (t ≡ true → x ≡ 0) → eqb x 0 ≡ t
zero_is x true f g = eq-eqb x 0 (g refl)
zero_is x false f g = ne_eqb x 0 (λ e. false≢true (f e))

-- both parts are zero
zero_both : (x a b : ℕ) → (x ≡ 0 → a ≡ 0) → (x ≡ 0 → b ≡ 0) → (a ≡ 0 → b ≡ 0 → x ≡ 0) → eqb x 0 ≡ (eqb a 0 && eqb b 0)
zero_both x a b f g h =
    zero_is x (eqb a 0 && eqb b 0) (λ e. rw (eq-eqb a 0 (f e), eq-eqb b 0 (g e)))
    (λ t. let r = (and-eq-true_iff (eqb a 0) (eqb b 0)).0 t in h (eqb-true a 0 r.0) (eqb-true b 0 r.1))

-- what is gathered by `or`
pub zero_or : (a b : ℕ) → eqb (bit_or a b) 0 ≡ (eqb a 0 && eqb b 0)
zero_or a b =
    zero_both (bit_or a b) a b (λ e. omega (arith, or_add_and a b, and_le_r a b)) (λ e. omega (arith, or_add_and a b, and_le_l a b))
    (λ e f. omega (arith, or_add_and a b))

pub four : (a b c d : ℕ) → eqb (bit_or (bit_or (bit_or a b) c) d) 0 ≡ (((eqb a 0 && eqb b 0) && eqb c 0) && eqb d 0)
four a b c d =
    zero_or (bit_or (bit_or a b) c) d ∙ ap (λ t. t && eqb d 0) (zero_or (bit_or a b) c ∙ ap (λ t. t && eqb c 0) (zero_or a b))

-- a number, by its low byte and the rest
zero_bytes : (b x : ℕ) → eqb (b + 256 * x) 0 ≡ (eqb b 0 && eqb x 0)
zero_bytes b x = zero_both (b + 256 * x) b x (λ e. omega arith) (λ e. omega arith) (λ e f. omega arith)

zero_number : (l : List ℕ) → eqb (number_of l) 0 ≡ all_zero l
zero_number [] = refl
zero_number (b ∷ l) = zero_bytes b (number_of l) ∙ ap (λ t. eqb b 0 && t) (zero_number l)

-- ---- bytes that are zero

pub zero_append : (l m : List ℕ) → all_zero (l ++ m) ≡ (all_zero l && all_zero m)
zero_append [] m = refl
zero_append (x ∷ l) m = ap (λ t. eqb x 0 && t) (zero_append l m) ∙ sym (and_assoc (eqb x 0) (all_zero l) (all_zero m))

-- a shift leaves the bytes above
shifted : (k : ℕ) (l : List ℕ) → Bytes l → number_of l / 2 ^ (8 * k) ≡ number_of (drop k l)
shifted zero l b = omega arith
shifted (suc k) [] b = zero-div (2 ^ (8 * suc k))
shifted (suc k) (x ∷ l) b =
    let s : 8 * suc k ≡ 8 + 8 * k = omega arith in
    let low : (x + 256 * number_of l) / 2 ^ 8 ≡ number_of l = omega (arith, b 0) in
    ap (λ n. (x + 256 * number_of l) / 2 ^ n) s ∙ sym (shr-shr (x + 256 * number_of l) 8 (8 * k)) ∙ ap (λ y. y / 2 ^ (8 * k)) low
    ∙ shifted k l (λ i. b (suc i))

-- the eight bytes from a place on, the first j of them shifted out, and the bytes after them
pub zero_word : (a j : ℕ) (l : List ℕ) → Bytes l → a + 8 ≤ length l → j ≤ 8
    → (eqb (register_at a l / 2 ^ (8 * j)) 0 && all_zero (drop (a + 8) l)) ≡ all_zero (drop (a + j) l)
zero_word a j l b h k =
    let word = part a 8 l in
    let rest = drop (a + 8) l in
    let fits : j ≤ length word = omega (arith, length_part l a 8 h) in
    ap (λ t. t && all_zero rest) (ap (λ x. eqb x 0) (shifted j word (bytes_part l a 8 b)) ∙ zero_number (drop j word))
    ∙ sym (zero_append (drop j word) rest) ∙ ap all_zero (sym (drop-append-le j word rest fits) ∙ ap (drop j) (part_then l a 8) ∙ drop-drop j a l)

-- a word more is looked at: what is gathered so far and what is still to come is the whole
pub zeros_more : (i found x : ℕ) (l : List ℕ) {goal : Bool} → Bytes l → 8 * i + 8 ≤ length l → x ≡ register_at (8 * i) l
    → (eqb found 0 && all_zero (drop (8 * i) l)) ≡ goal → (eqb (bit_or found x) 0 && all_zero (drop (8 * (i + 1)) l)) ≡ goal
zeros_more i found x l b h e inv =
    let end : 8 * (i + 1) ≡ 8 * i + 8 = omega arith in
    let start : 8 * i + 0 ≡ 8 * i = omega arith in
    let whole : x ≡ register_at (8 * i) l / 2 ^ (8 * 0) = omega arith in
    (λ t. zero_or found (whole t) t && all_zero (drop (end t) l))
    ∙ and_assoc (eqb found 0) (eqb (register_at (8 * i) l / 2 ^ (8 * 0)) 0) (all_zero (drop (8 * i + 8) l))
    ∙ ap (λ t. eqb found 0 && t) (zero_word (8 * i) 0 l b h (omega arith) ∙ ap (λ k. all_zero (drop k l)) start) ∙ inv

-- no word is left: what is gathered decides
pub none_more : (i found : ℕ) (l : List ℕ) {goal : Bool} → length l ≤ 8 * i → (eqb found 0 && all_zero (drop (8 * i) l)) ≡ goal → eqb found 0 ≡ goal
none_more i found l h inv = sym (and-true (eqb found 0)) ∙ ap (λ m. eqb found 0 && all_zero m) (sym (drop_of_length-le l h)) ∙ inv

-- ---- flags

-- the bits of k flags above their lowest
abbrev over_one : ℕ → List ℕ
over_one zero = []
over_one (suc k) = 0 ∷ 254 ∷ over_one k

-- `and` goes byte by byte
and_bytes : (b c x y : ℕ) → b < 256 → c < 256 → bit_and (b + 256 * x) (c + 256 * y) ≡ bit_and b c + 256 * bit_and x y
and_bytes b c x y h k =
    let p : b + 256 * x ≡ x * 256 + b = omega arith in
    let q : c + 256 * y ≡ y * 256 + c = omega arith in
    ap₂ bit_and p q ∙ and_block 8 x y b c h k ∙ omega arith

-- a flag without its lowest bit
zero_flag : (f : ℕ) → f < 256 → eqb (bit_and f 254) 0 ≡ leb f 1
zero_flag f h =
    let m : f / 2 % 128 ≡ f / 2 = mod-eq_of_lt (omega arith) in
    let s : bit_and f 254 ≡ f / 2 * 2 = and_high f 7 1 ∙ ap (λ x. x * 2) m in
    zero_is (bit_and f 254) (leb f 1) (λ e. le-leb f 1 (omega arith)) (λ t. omega (arith, leb-true f 1 t))

-- a pair in front of a rest
zero_pair : (v f x y : ℕ) → v < 256 → f < 256 → eqb (bit_and (v + 256 * (f + 256 * x)) (0 + 256 * (254 + 256 * y))) 0 ≡ (leb f 1 && eqb (bit_and x y) 0)
zero_pair v f x y h k =
    ap (λ z. eqb z 0) (and_bytes v 0 (f + 256 * x) (254 + 256 * y) h (lit< tt) ∙ (λ i. and_zero_r v i + 256 * and_bytes f 254 x y k (lit< tt) i))
    ∙ zero_bytes 0 (bit_and f 254 + 256 * bit_and x y) ∙ zero_bytes (bit_and f 254) (bit_and x y) ∙ ap (λ t. t && eqb (bit_and x y) 0) (zero_flag f k)

-- pairs, as one number
zero_flags : (k : ℕ) (l : List ℕ) → Bytes l → 2 * k ≤ length l → eqb (bit_and (number_of (take (2 * k) l)) (number_of (over_one k))) 0 ≡ flags_good k l
zero_flags zero l b h = refl
zero_flags (suc k) [] b h = absurd (omega arith)
zero_flags (suc k) (v ∷ []) b h = absurd (omega arith)
zero_flags (suc k) (v ∷ f ∷ l) b h =
    let s : 2 * suc k ≡ suc (suc (2 * k)) = omega arith in
    ap (λ n. eqb (bit_and (number_of (take n (v ∷ f ∷ l))) (number_of (over_one (suc k)))) 0) s
    ∙ zero_pair v f (number_of (take (2 * k) l)) (number_of (over_one k)) (b 0) (b 1)
    ∙ ap (λ t. leb f 1 && t) (zero_flags k l (λ j. b (suc (suc j))) (omega arith))

-- the flags of n pairs, and of k after them
flags_add : (n k : ℕ) (l : List ℕ) → 2 * n ≤ length l → flags_good (n + k) l ≡ (flags_good n l && flags_good k (drop (2 * n) l))
flags_add zero k l h = ap (λ m. flags_good m l) (zero-add k)
flags_add (suc n) k [] h = absurd (omega arith)
flags_add (suc n) k (v ∷ []) h = absurd (omega arith)
flags_add (suc n) k (v ∷ f ∷ l) h =
    let s : suc n + k ≡ suc (n + k) = omega arith in
    let t : 2 * suc n ≡ suc (suc (2 * n)) = omega arith in
    rw (s, t) (ap (λ g. leb f 1 && g) (flags_add n k l (omega arith)) ∙ sym (and_assoc (leb f 1) (flags_good n l) (flags_good k (drop (2 * n) l))))

-- what is gathered by `or`, without some bits
and_or : (a b c : ℕ) → c < 2 ^ 64 → bit_and (bit_or a b) c ≡ bit_or (bit_and a c) (bit_and b c)
and_or a b c h =
    let small : (x : ℕ) → bit_and x c < 2 ^ 64 = λ x. omega (arith, and_le_r x c) in
    on_ext 64 (bit_and (bit_or a b) c) (bit_or (bit_and a c) (bit_and b c)) (small (bit_or a b)) (or_lt 64 (bit_and a c) (bit_and b c) (small a) (small b))
    (λ i k. simp (on_and, on_or) (and-or_distrib_right (on a i) (on b i) (on c i)))

-- ---- what pairs_good looks at

-- the bits above the lowest of a word's four flags
abbrev pub flag_bits : ℕ
flag_bits = number_of (over_one 4)

-- zeros are good flags
zeros_flags : (k : ℕ) (l : List ℕ) → all_zero l ≡ true → flags_good k l ≡ true
zeros_flags k l e = flags_flags_good k l (λ i h. omega (arith, all_zero_zeros l e (2 * i + 1)))

-- where unused pairs are zero their flags are good too, so that all flags may be tested for those that wait
flags_all : (n k : ℕ) (l : List ℕ) → 2 * n ≤ length l → (flags_good (n + k) l && all_zero (drop (2 * n) l)) ≡ pairs_good n l
flags_all n k l h =
    let rest = drop (2 * n) l in
    ap (λ t. t && all_zero rest) (flags_add n k l h) ∙ and_assoc (flags_good n l) (flags_good k rest) (all_zero rest)
    ∙ ap (λ t. flags_good n l && t) (test (all_zero rest) (λ e. rw (e, zeros_flags k rest e)) (λ e. rw e (and-false (flags_good k rest))))

module _ (l : List ℕ) (b : Bytes l) where
  -- the first k words have no bit, and the bytes after them are zero, where all bytes are
  pub zero_bits : (k : ℕ) → 8 * k ≤ length l → (eqb (bits_of k l) 0 && all_zero (drop (8 * k) l)) ≡ all_zero l
  zero_bits zero h = refl
  zero_bits (suc k) h =
      ap (λ n. eqb (bits_of (suc k) l) 0 && all_zero (drop (8 * n) l)) (sym (add-one k))
      ∙ zeros_more k (bits_of k l) (register_at (8 * k) l) l b (omega arith) refl (zero_bits k (omega arith))

  -- they have none of the flags' bits where their flags are good
  flag_bits_lem : (k : ℕ) → 8 * k ≤ length l → eqb (bit_and (bits_of k l) flag_bits) 0 ≡ flags_good (4 * k) l
  flag_bits_lem zero h = refl
  flag_bits_lem (suc k) h =
      let x = bits_of k l in
      let y = register_at (8 * k) l in
      let s : 4 * k + 4 ≡ 4 * suc k = omega arith in
      let t : 2 * (4 * k) ≡ 8 * k = omega arith in
      let room : 8 ≤ length (drop (8 * k) l) = simp length-drop (omega arith) in
      ap (λ z. eqb z 0) (and_or x y flag_bits (lit< tt)) ∙ zero_or (bit_and x flag_bits) (bit_and y flag_bits)
      ∙ (λ i. flag_bits_lem k (omega arith) i && zero_flags 4 (drop (8 * k) l) (bytes_drop l (8 * k) b) room i)
      ∙ sym (rw t at (flags_add (4 * k) 4 l (omega arith))) ∙ ap (λ n. flags_good n l) s

  -- what the gathered bits x tell of n waiting pairs and the unused ones
  module _ (n : ℕ) (h : length l ≡ 2 * capacity) (k : n ≤ capacity) {x : ℕ} (e : x ≡ bits_of 4 l) where
    -- with no bit at all every pair is zero
    pub pairs_empty : x ≡ 0 → true ≡ pairs_good n l
    pairs_empty z =
        let all : all_zero l ≡ true = sym (none_more 4 (bits_of 4 l) l (omega arith) (zero_bits 4 (omega arith))) ∙ eq-eqb (bits_of 4 l) 0 (sym e ∙ z) in
        let unused = zeros_all_zero (drop (2 * n) l) (λ i. rw get_or-drop (all_zero_zeros l all (2 * n + i))) in
        λ i. sym (zeros_flags n l all) i && sym unused i

    -- the flags decide, and then the unused pairs
    decided : {t : Bool} → eqb (bit_and x flag_bits) 0 ≡ t → (t && all_zero (drop (2 * n) l)) ≡ pairs_good n l
    decided q =
        let s : 16 ≡ n + (16 - n) = omega arith in
        let flags = sym q ∙ ap (λ y. eqb (bit_and y flag_bits) 0) e ∙ flag_bits_lem 4 (omega arith) ∙ ap (λ m. flags_good m l) s in
        ap (λ t. t && all_zero (drop (2 * n) l)) flags ∙ flags_all n (16 - n) l (omega arith)

    pub pairs_flagged : (bit_and x flag_bits ≡ 0 → ⊥) → false ≡ pairs_good n l
    pairs_flagged z = decided (ne_eqb (bit_and x flag_bits) 0 z)

    pub pairs_unused : bit_and x flag_bits ≡ 0 → all_zero (drop (2 * n) l) ≡ pairs_good n l
    pairs_unused z = decided (eq-eqb (bit_and x flag_bits) 0 z)
