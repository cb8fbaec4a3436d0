-- Bytes written from the front of a buffer, one part after another: what is written and what is still to come are the whole.
use Rattle.basics.proofs.Prelude.{◌≡◌, refl, sym, ap, subst, ◌∙◌, List, [], ◌++◌, append_assoc, append-nil, ℕ, ◌+◌, ◌-◌, ◌≤◌, arith, length, take, drop, length-append, length-drop, drop-drop, drop-append-add, put_mid}
use Rattle.traces.{specs.plays.Playing.in_front, proofs.plays.laws.InFront.front_length, proofs.plays.laws.InFront.front_next}
use Rattle.bits.specs.bytes.Put.{with_bytes}

-- up to a place the goal is written, and the rest of it is to come
pub record Written (goal l₀ l rest : List ℕ) (at : ℕ) : Type 0 where
  pub front : List ℕ
  pub is : l ≡ in_front front l₀
  pub len : length front ≡ at
  pub whole : front ++ rest ≡ goal

pub start : (goal l : List ℕ) → Written goal l l goal 0
start goal l = record { front = []; is = refl; len = refl; whole = refl }

module _ {goal l₀ l rest : List ℕ} {at : ℕ} (w : Written goal l₀ l rest at) where
  -- the place and what is to come
  pub still : at + length rest ≡ length goal
  still = omega (arith, w.len, length-append w.front rest, ap length w.whole)

  pub long : length goal ≤ length l₀ → length l ≡ length l₀
  long h = ap length w.is ∙ front_length w.front l₀ (omega (arith, w.len, still))

  -- the next part lent and filled
  pub part_next : (ys more : List ℕ) → rest ≡ ys ++ more → {n : ℕ} → n ≡ length ys → {zs : List ℕ} → zs ≡ ys → Written goal l₀ (put_mid at n l zs) more (at + n)
  part_next ys more e {n} size {zs} f = record {
    front = w.front ++ ys;
    is = (λ t. put_mid (sym w.len t) (size t) (w.is t) (f t)) ∙ front_next w.front l₀ ys;
    len = omega (arith, length-append w.front ys, w.len, size);
    whole = append_assoc w.front ys more ∙ ap (λ k. w.front ++ k) (sym e) ∙ w.whole;
  }

  -- the next part stored where it stands
  pub put_next : (ys more : List ℕ) → rest ≡ ys ++ more → (n : ℕ) → n ≡ length ys → {m : List ℕ} → m ≡ take at l ++ (ys ++ drop (at + n) l) → Written goal l₀ m more (at + n)
  put_next ys more e n size {m} f =
      subst (λ k. Written goal l₀ k more (at + n)) ((λ t. take at l ++ (ys ++ drop-drop n at l t)) ∙ sym f) (part_next ys more e size refl)

  -- nothing to come where what is to come changes its form
  pub to_come : {other : List ℕ} → rest ≡ other → Written goal l₀ l other at
  to_come e = subst (λ k. Written goal l₀ l k at) e w

  pub all_written : rest ≡ [] → l ≡ in_front goal l₀
  all_written e = w.is ∙ ap (λ k. in_front k l₀) (sym (append-nil w.front) ∙ ap (λ k. w.front ++ k) (sym e) ∙ w.whole)

-- a number of two bytes stored in front
pub put_long : (x : ℕ) (l : List ℕ) → 2 ≤ length l → {m : List ℕ} → m ≡ with_bytes 0 2 x l → length m ≡ length l
put_long x l h e = ap length e ∙ simp length-drop (omega (arith, h))

-- bytes put in front of what others were put in front of
pub front_again : (xs ys l : List ℕ) → length xs ≤ length ys → in_front ys (in_front xs l) ≡ in_front ys l
front_again xs ys l h =
    let d = length ys - length xs in
    let z : length ys ≡ length xs + d = omega arith in
    ap (λ k. ys ++ k) (ap (λ n. drop n (in_front xs l)) z ∙ drop-append-add xs (drop (length xs) l) d ∙ drop-drop d (length xs) l ∙ ap (λ n. drop n l) (sym z))
