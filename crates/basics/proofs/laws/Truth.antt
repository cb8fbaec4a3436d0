-- Tables of Booleans. A test that computes to true both ways holds either way, so that a law of Booleans is the table of its two sides and one `refl`.
use mathlib.Core.{Path.◌≡◌, Path.refl, Path.sym, Path.ap, Bool.Bool, Bool.true, Bool.false, Bool.not, Bool.◌&&◌, Bool.◌||◌, Bool.true≢false, Bool.and-eq-true_iff}
use borrow.Author.Tests.{not-true}

abbrev pub both_ways : (Bool → Bool) → Bool
both_ways p = p true && p false

pub either_way : (p : Bool → Bool) → both_ways p ≡ true → (b : Bool) → p b ≡ true
either_way p e true = ((and-eq-true_iff (p true) (p false)).0 e).0
either_way p e false = ((and-eq-true_iff (p true) (p false)).0 e).1

-- two Booleans are the same
abbrev pub agree : Bool → Bool → Bool
agree true b = b
agree false b = not b

pub agreed : (a b : Bool) → agree a b ≡ true → a ≡ b
agreed true b e = sym e
agreed false b e = sym (not-true b e)

-- a law of one to four Booleans is the table of its two sides, compared by a test that tells what is the same
module _ {A : Type 0} (same : A → A → Bool) (sound : (x y : A) → same x y ≡ true → x ≡ y) where
  pub table₁ : (f g : Bool → A) → both_ways (λ a. same (f a) (g a)) ≡ true → (a : Bool) → f a ≡ g a
  table₁ f g e a = sound (f a) (g a) (either_way (λ x. same (f x) (g x)) e a)

  pub table₂ : (f g : Bool → Bool → A) → both_ways (λ a. both_ways (λ b. same (f a b) (g a b))) ≡ true → (a b : Bool) → f a b ≡ g a b
  table₂ f g e a = table₁ (f a) (g a) (either_way (λ x. both_ways (λ b. same (f x b) (g x b))) e a)

  pub table₃ : (f g : Bool → Bool → Bool → A) → both_ways (λ a. both_ways (λ b. both_ways (λ c. same (f a b c) (g a b c)))) ≡ true
      → (a b c : Bool) → f a b c ≡ g a b c
  table₃ f g e a = table₂ (f a) (g a) (either_way (λ x. both_ways (λ b. both_ways (λ c. same (f x b c) (g x b c)))) e a)

  pub table₄ : (f g : Bool → Bool → Bool → Bool → A) → both_ways (λ a. both_ways (λ b. both_ways (λ c. both_ways (λ d. same (f a b c d) (g a b c d))))) ≡ true
      → (a b c d : Bool) → f a b c d ≡ g a b c d
  table₄ f g e a = table₃ (f a) (g a) (either_way (λ x. both_ways (λ b. both_ways (λ c. both_ways (λ d. same (f x b c d) (g x b c d))))) e a)

-- laws that several rooms cite
pub neither : (a b : Bool) → (a || b) ≡ false → (a ≡ false) × (b ≡ false)
neither true b e = absurd (true≢false e)
neither false b e = (refl, e)

pub apart : (a b : Bool) → (a && b) ≡ false → a ≡ (a && not b)
apart true b e = ap not (sym e)
apart false b e = refl

pub twice : (a : Bool) → (a && a) ≡ (a && true)
twice = table₁ agree agreed _ _ refl

pub swap : (a b c : Bool) → ((a && b) && c) ≡ ((a && c) && b)
swap = table₃ agree agreed _ _ refl
