-- Lists that a loop fills from the front, parts of a list, and two lists tested for sameness.
-- A filling loop keeps `take i out ++ rest ≡ goal`: what is written and then what is still to come is the whole. `turn` is one round, `done` the end.
use mathlib.Core.{Path.◌≡◌, Path.refl, Path.sym, Path.ap, Path.◌∙◌, Bool.Bool, Bool.true, Bool.false, Bool.false≢true, Bool.and-eq-true_iff}
use mathlib.Core.List.{List, [], ◌∷◌, ◌++◌, append_assoc, append-nil}
use Prim.Native.Nat.{ℕ, zero, suc, ◌+◌, ◌-◌, ◌/◌, ◌%◌, ◌<◌, ◌≤◌}
use native.Mathlib.{Numerals.add-one, Omega.arith}
use lib.{Dec.eqb, ListN.length, ListN.take, ListN.drop, ListN.get_or, ListN.set, ListN.length-drop, ListN.drop_of_length-le, ListN.take-append-drop}
use lib.Seq.{length-take-le, take-suc-set, take_all, take-take, take-add, drop-cons, drop-drop}
use borrow.Author.Tests.{eq-eqb, eqb-true}
use Rattle.basics.specs.Numbers.{bytes_of, part, same}

-- ---- a list filled from the front

module _ {A : Type 0} where
  -- the first of what is to come is stored
  pub turn : (out rest : List A) {goal more : List A} (i : ℕ) (v : A) → i < length out → take i out ++ rest ≡ goal → rest ≡ v ∷ more
      → take (i + 1) (set out i v) ++ more ≡ goal
  turn out rest i v h e f = rw (add-one, take-suc-set, append_assoc) (rw f at e)

  -- all is written and nothing is to come
  pub done : (out rest : List A) {goal : List A} (i : ℕ) → length out ≤ i → rest ≡ [] → take i out ++ rest ≡ goal → out ≡ goal
  done out rest i h f e = sym (take_all i out h) ∙ sym (append-nil (take i out)) ∙ (rw f at e)

  -- the next of a list that is read in step
  pub next : (l : List A) (i : ℕ) (d : A) → i < length l → drop i l ≡ get_or l i d ∷ drop (i + 1) l
  next l i d h = rw (add-one, ← drop-cons l i d)

  -- a copy: what is to come is the rest of the source
  pub copied : (out src : List A) (i : ℕ) (d : A) → i < length out → i < length src → take i out ++ drop i src ≡ src
      → take (i + 1) (set out i (get_or src i d)) ++ drop (i + 1) src ≡ src
  copied out src i d h k e = turn out (drop i src) i (get_or src i d) h e (next src i d k)

  pub copied_all : (out src : List A) (i : ℕ) → length out ≤ i → length src ≤ i → take i out ++ drop i src ≡ src → out ≡ src
  copied_all out src i h k e = done out (drop i src) i h (drop_of_length-le src k) e

-- the bytes of a number: what is to come are the bytes of y, what is left of it
pub digits : (out : List ℕ) {goal : List ℕ} (n i y : ℕ) → length out ≡ n → i < n → take i out ++ bytes_of (n - i) y ≡ goal
    → take (i + 1) (set out i (y % 256)) ++ bytes_of (n - (i + 1)) (y / 256) ≡ goal
digits out n i y l h e =
    let s : n - i ≡ suc (n - (i + 1)) = omega arith in
    turn out (bytes_of (n - i) y) i (y % 256) (omega arith) e (ap (λ k. bytes_of k y) s)

pub digits_all : (out : List ℕ) {goal : List ℕ} (n i y : ℕ) → length out ≡ n → n ≤ i → take i out ++ bytes_of (n - i) y ≡ goal → out ≡ goal
digits_all out n i y l h e =
    let z : n - i ≡ 0 = omega arith in
    done out (bytes_of (n - i) y) i (omega arith) (ap (λ k. bytes_of k y) z) e

-- ---- parts

pub length_part : (l : List ℕ) (a n : ℕ) → a + n ≤ length l → length (part a n l) ≡ n
length_part l a n h = length-take-le n (drop a l) (simp length-drop (omega arith))

-- a part and what follows it
pub part_then : (l : List ℕ) (a n : ℕ) → part a n l ++ drop (a + n) l ≡ drop a l
part_then l a n = ap (λ m. part a n l ++ m) (sym (drop-drop n a l)) ∙ take-append-drop n (drop a l)

-- two parts that meet
pub part_add : (l : List ℕ) (a n m : ℕ) → part a n l ++ part (a + n) m l ≡ part a (n + m) l
part_add l a n m = ap (λ k. part a n l ++ take m k) (sym (drop-drop n a l)) ∙ sym (take-add n m (drop a l))

-- a part of a part
pub part_part : (l : List ℕ) (a n b m : ℕ) → b + m ≤ n → part b m (part a n l) ≡ part (a + b) m l
part_part l a n b m h = go (drop a l) b n h ∙ ap (take m) (drop-drop b a l)
  where
    go : (l : List ℕ) (b n : ℕ) → b + m ≤ n → part b m (take n l) ≡ part b m l
    go l zero n h = take-take m n l (omega arith)
    go l (suc b) zero h = absurd (omega arith)
    go [] (suc b) (suc n) h = refl
    go (x ∷ l) (suc b) (suc n) h = go l b n (omega arith)

-- ---- two lists tested for sameness

pub same_self : (l : List ℕ) → same l l ≡ true
same_self [] = refl
same_self (x ∷ l) = rw (eq-eqb x x refl, same_self l)

pub equal_same : (l m : List ℕ) → l ≡ m → same l m ≡ true
equal_same l m e = ap (same l) (sym e) ∙ same_self l

pub same_equal : (l m : List ℕ) → same l m ≡ true → l ≡ m
same_equal [] [] e = refl
same_equal [] (y ∷ m) e = absurd (false≢true e)
same_equal (x ∷ l) [] e = absurd (false≢true e)
same_equal (x ∷ l) (y ∷ m) e =
    let r = (and-eq-true_iff (eqb x y) (same l m)).0 e in
    (λ i. eqb-true x y r.0 i ∷ same_equal l m r.1 i)

pub differ_same : (l m : List ℕ) → (l ≡ m → ⊥) → same l m ≡ false
differ_same l m h = go (same l m) refl
  where
    go : (t : Bool) → same l m ≡ t → same l m ≡ false
    go true e = absurd (h (same_equal l m e))
    go false e = e
