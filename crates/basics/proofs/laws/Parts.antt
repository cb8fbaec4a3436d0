-- Parts of a list that are lent and written one after the other, from the front. A proof starts at `start`, goes on by one `put` for each part in order,
-- and ends at `filled`: the list is what the parts were filled with.
use mathlib.Core.{Path.◌≡◌, Path.refl, Path.sym, Path.ap, Path.◌∙◌, Path.subst, List.List, List.[], List.◌++◌, List.append_assoc, List.append-nil}
use Prim.Native.Nat.{ℕ, ◌+◌, ◌-◌, ◌≤◌}
use native.Mathlib.{Nat.zero-add, Omega.arith}
use lib.ListN.{length, take, drop, length-append, length-drop, drop_of_length-le}
use lib.Seq.{take_at, drop_at, drop-drop, length-take-le, take-append-le, drop-append-le}
use borrow.Rule.Slice.PartMut.{put_mid}
use Rattle.basics.specs.Numbers.{bytes_of, part}
use Rattle.basics.proofs.laws.{Lists.length_part, Lists.part_part, Bytes.length_bytes_of}

-- l was l₀ and has been written up to place a: there stands `front`, and from there on what stood there
pub record Filled (l l₀ front : List ℕ) (a : ℕ) : Type 0 where
  pub is : l ≡ front ++ drop a l₀
  pub len : length front ≡ a

pub start : (l : List ℕ) → Filled l l [] 0
start l = record { is = refl; len = refl }

module _ {l l₀ front : List ℕ} {a : ℕ} (f : Filled l l₀ front a) where
  -- what is still to be written is as it was
  rest_stays : drop a l ≡ drop a l₀
  rest_stays = ap (drop a) f.is ∙ drop_at front (drop a l₀) a f.len

  -- the next part has the length that it is lent with
  pub length_next : (k : ℕ) → a + k ≤ length l₀ → length (part a k l) ≡ k
  length_next k h = ap (λ m. length (take k m)) rest_stays ∙ length_part l₀ a k h

  -- the next k places, written with ys
  pub put : (k : ℕ) (ys : List ℕ) → length ys ≡ k → Filled (put_mid a k l ys) l₀ (front ++ ys) (a + k)
  put k ys h = record {
    is =
        let t : take a l ≡ front = ap (take a) f.is ∙ take_at front (drop a l₀) a f.len in
        (λ i. t i ++ (ys ++ drop k (rest_stays i))) ∙ (λ i. front ++ (ys ++ drop-drop k a l₀ i)) ∙ sym (append_assoc front ys (drop (a + k) l₀));
    len = length-append front ys ∙ (λ i. f.len i + h i);
  }

  -- the same where it is known what ys is
  pub put_this : (k : ℕ) (zs ys : List ℕ) → length zs ≡ k → ys ≡ zs → Filled (put_mid a k l ys) l₀ (front ++ zs) (a + k)
  put_this k zs ys h e = subst (λ m. Filled (put_mid a k l ys) l₀ (front ++ m) (a + k)) e (put k ys (ap length e ∙ h))

  -- the bytes of a number, as many as the part has places
  pub put_bytes : (k x : ℕ) (ys : List ℕ) → a + k ≤ length l₀ → ys ≡ bytes_of (length (part a k l)) x
      → Filled (put_mid a k l ys) l₀ (front ++ bytes_of k x) (a + k)
  put_bytes k x ys h e = put_this k (bytes_of k x) ys (length_bytes_of k x) (e ∙ ap (λ n. bytes_of n x) (length_next k h))

  -- zs, and then what stood in the part past them: nothing
  pub put_front : (k : ℕ) (zs ys : List ℕ) → length zs ≡ k → a + k ≤ length l₀ → ys ≡ zs ++ drop k (part a k l)
      → Filled (put_mid a k l ys) l₀ (front ++ zs) (a + k)
  put_front k zs ys h g e =
      let b : length (part a k l) ≤ k = omega (arith, length_next k g) in
      put_this k zs ys h (e ∙ ap (λ m. zs ++ m) (drop_of_length-le (part a k l) b) ∙ append-nil zs)

  -- every place is written
  pub filled : length l₀ ≡ a → l ≡ front
  filled h =
      let b : length l₀ ≤ a = omega arith in
      f.is ∙ ap (λ m. front ++ m) (drop_of_length-le l₀ b) ∙ append-nil front

-- ---- a part of any list written over

-- k places from a on are written with ys; a part that ends before them, or begins behind them, is as it was
module _ (l ys : List ℕ) (a k : ℕ) (h : a + k ≤ length l) (e : length ys ≡ k) where
  from_there : drop a (put_mid a k l ys) ≡ ys ++ drop k (drop a l)
  from_there = drop_at (take a l) (ys ++ drop k (drop a l)) a (length-take-le a l (omega arith))

  pub put_there : part a k (put_mid a k l ys) ≡ ys
  put_there = ap (take k) from_there ∙ take_at ys (drop k (drop a l)) k e

  pub put_before : (b n : ℕ) → b + n ≤ a → part b n (put_mid a k l ys) ≡ part b n l
  put_before b n w =
      let front : length (take a l) ≡ a = length-take-le a l (omega arith) in
      let room : n ≤ length (drop b (take a l)) = simp length-drop (omega arith) in
      ap (take n) (drop-append-le b (take a l) (ys ++ drop k (drop a l)) (omega arith)) ∙ take-append-le n (drop b (take a l)) (ys ++ drop k (drop a l)) room
      ∙ (rw zero-add at (part_part l 0 a b n w))

  pub put_behind : (b n : ℕ) → a + k ≤ b → part b n (put_mid a k l ys) ≡ part b n l
  put_behind b n w =
      let s : b ≡ a + k + (b - (a + k)) = omega arith in
      let rest : drop (a + k) (put_mid a k l ys) ≡ drop (a + k) l =
      sym (drop-drop k a (put_mid a k l ys)) ∙ ap (drop k) from_there ∙ drop_at ys (drop k (drop a l)) k e ∙ drop-drop k a l
      in
      let past : (m : List ℕ) → drop b m ≡ drop (b - (a + k)) (drop (a + k) m) = λ m. ap (λ j. drop j m) s ∙ sym (drop-drop (b - (a + k)) (a + k) m) in
      ap (take n) (past (put_mid a k l ys) ∙ ap (drop (b - (a + k))) rest ∙ sym (past l))

  pub length_put : length (put_mid a k l ys) ≡ length l
  length_put =
      let front : length (take a l) ≡ a = length-take-le a l (omega arith) in
      simp (length-append, length-drop) (omega arith)
