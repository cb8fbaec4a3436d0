-- Bytes written to the front of a buffer, one after another (Filled, of the laws of parts), and what that says.
use Rattle.basics.proofs.Prelude.{◌≡◌, refl, sym, ap, ◌∙◌, List, [], ◌∷◌, ◌++◌, append_assoc, ℕ, ◌+◌, ◌*◌, ◌<◌, ◌≤◌, add-one, arith, length, take, drop, get_or, set, length-append, length-drop, take-append-drop, length-take-le, take_at, drop_at, drop-append-le, drop-drop, set_at, put_mid, Filled, put_front, next}
use Rattle.sessions.specs.Session.{digits}
use Rattle.session.specs.reply.Says.{Says, pair_said, pairs_said}
use Rattle.session.proofs.hex.Digits.{length_digits}

module _ {l l₀ front : List ℕ} {a : ℕ} (f : Filled l l₀ front a) where
  -- a byte behind what is written
  pub put_byte : (v : ℕ) → a < length l₀ → Filled (set l a v) l₀ (front ++ (v ∷ [])) (a + 1)
  put_byte v h =
      record {
        is =
            ap (λ (m : List ℕ). set m a v) (f.is ∙ ap (λ (m : List ℕ). front ++ m) (next l₀ a 0 h)) ∙ set_at front _ (drop (a + 1) l₀) v a f.len
            ∙ sym (append_assoc front (v ∷ []) (drop (a + 1) l₀));
        len = length-append front (v ∷ []) ∙ ap (λ (n : ℕ). n + 1) f.len;
      }

  -- digits behind what is written
  pub put_number : (n x : ℕ) (ys : List ℕ) → a + n ≤ length l₀ → ys ≡ digits n x ++ drop n (take n (drop a l)) → Filled (put_mid a n l ys) l₀ (front ++ digits n x) (a + n)
  put_number n x ys h e = put_front f n (digits n x) ys (length_digits n x) h e

  pub says : Says a l₀ l front
  says = record { len = sym f.len; out = f.is }

-- a buffer keeps its length
pub size : {n : ℕ} {entry exit said : List ℕ} → Says n entry exit said → n ≤ length entry → length exit ≡ length entry
size {n} {entry} {exit} {said} s h = ap length s.out ∙ length-append said (drop n entry) ∙ (simp length-drop (omega (arith, s.len)))

-- what is written has room
pub fits : {n : ℕ} {entry exit said : List ℕ} → Says n entry exit said → length exit ≡ length entry → n ≤ length entry
fits {n} {entry} {exit} {said} s h = omega (arith, s.len, simp (length-append, length-drop) at (ap length s.out))

pub filled : {n : ℕ} {entry exit said : List ℕ} → Says n entry exit said → Filled exit entry said n
filled s = record { is = s.out; len = sym s.len }

-- what a front of a list says, the whole says
from_front : (k n : ℕ) (l said : List ℕ) → k ≤ length l → n ≤ k → (said ++ drop n (take k l)) ++ drop k l ≡ said ++ drop n l
from_front k n l said h j =
    let b : n ≤ length (take k l) = rw (length-take-le k l h) j in
    append_assoc said (drop n (take k l)) (drop k l)
    ∙ ap (λ (m : List ℕ). said ++ m) (sym (drop-append-le n (take k l) (drop k l) b) ∙ ap (drop n) (take-append-drop k l))

-- k places are lent, and n of them are written
pub put_part : {l l₀ front : List ℕ} {a : ℕ} (f : Filled l l₀ front a) (k n : ℕ) (ys said : List ℕ) → a + k ≤ length l₀ → n ≤ k → Says n (take k (drop a l)) ys said
    → Filled (put_mid a k l ys) l₀ (front ++ said) (a + n)
put_part {l} {l₀} {front} {a} f k n ys said h j s =
    let t : take a l ≡ front = ap (take a) f.is ∙ take_at front (drop a l₀) a f.len in
    let r : drop a l ≡ drop a l₀ = ap (drop a) f.is ∙ drop_at front (drop a l₀) a f.len in
    let b : k ≤ length (drop a l₀) = simp length-drop (omega arith) in
    record {
      is =
          (λ i. t i ++ (s.out i ++ drop k (drop a l))) ∙ (λ i. front ++ ((said ++ drop n (take k (r i))) ++ drop k (r i)))
          ∙ ap (λ (m : List ℕ). front ++ m) (from_front k n (drop a l₀) said b j ∙ ap (λ (m : List ℕ). said ++ m) (drop-drop n a l₀))
          ∙ sym (append_assoc front said (drop (a + n) l₀));
      len = length-append front said ∙ (λ i. f.len i + sym s.len i);
    }

-- the same at the front
pub in_front_lem : (k n : ℕ) (l ys said : List ℕ) → k ≤ length l → n ≤ k → Says n (take k l) ys said → Says n l (ys ++ drop k l) said
in_front_lem k n l ys said h j s = record { len = s.len; out = ap (λ (m : List ℕ). m ++ drop k l) s.out ∙ from_front k n l said h j }

-- one pair more, said in the next four places
pub pair_said_lem : (out out₀ l ys : List ℕ) (i k : ℕ) → Filled out out₀ (pairs_said i l) (4 * i) → k ≡ 4 → 4 * i + 4 ≤ length out₀
    → Says 4 (take k (drop (4 * i) out)) ys (pair_said (get_or l (2 * i) 0) (get_or l (2 * i + 1) 0))
    → Filled (put_mid (4 * i) k out ys) out₀ (pairs_said (i + 1) l) (4 * (i + 1))
unfolding pairs_said
pair_said_lem out out₀ l ys i k f e h s =
    let n : 4 * i + 4 ≡ 4 * (i + 1) = omega arith in
    rw (e, ← n, add-one i) (put_front f 4 _ ys refl h (rw e at s.out))
