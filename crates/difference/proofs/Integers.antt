-- An integer by how far it is over 0 and how far under, one of which is 0: so that sums, products and orders of integers become facts of naturals.
use mathlib.Core.{Path.◌≡◌, Path.refl, Path.ap, Bool.Bool, Bool.true, Bool.false, Bool.cond}
use Rattle.std.proofs.Common.{ℕ, zero, suc, ◌+◌, ◌*◌, ◌<◌, ◌≤◌, arith, ltb-false, ltb-true}
use lib.{Dec.ltb, Dec.leb→le, Dec.le→leb, Dec.ltb→lt, Dec.lt→ltb, IntN.ℤ, IntN.pos, IntN.negsuc, IntN.neg_ℤ, IntN.sub_ℕ, IntN.◌+ℤ◌, IntN.◌-ℤ◌, IntN.◌*ℤ◌, Signed.mag, Signed.◌≤ℤ◌, Signed.◌<ℤ◌}

abbrev pub over : ℤ → ℕ
over (pos n) = n
over (negsuc n) = 0

abbrev pub under : ℤ → ℕ
under (pos n) = 0
under (negsuc n) = suc n

-- an equation of integers
pub same : (x y : ℤ) → over x + under y ≡ over y + under x → x ≡ y
same (pos a) (pos b) e = let d : a ≡ b = omega arith in ap pos d
same (pos a) (negsuc b) e = absurd (omega arith)
same (negsuc a) (pos b) e = absurd (omega arith)
same (negsuc a) (negsuc b) e = let d : a ≡ b = omega arith in ap negsuc d

-- what two integers have, the one that is chosen has
pub choice : (t : Bool) {x y : ℤ} (P : ℤ → Type 0) → (t ≡ true → P x) → (t ≡ false → P y) → P (cond t x y)
choice true P f g = f refl
choice false P f g = g refl

-- the difference of two naturals
less : (a b : ℕ) → over (sub_ℕ a b) + b ≡ under (sub_ℕ a b) + a
less a b =
    choice (ltb a b) (λ z. over z + b ≡ under z + a) (λ e. let h = ltb-true a b e in omega arith) (λ e. let h = ltb-false a b e in omega arith)

pub sum : (x y : ℤ) → over (x +ℤ y) + under x + under y ≡ under (x +ℤ y) + over x + over y
sum (pos a) (pos b) = omega arith
sum (pos a) (negsuc b) = let h = less a (suc b) in omega arith
sum (negsuc a) (pos b) = let h = less b (suc a) in omega arith
sum (negsuc a) (negsuc b) = omega arith

pub negated : (x : ℤ) → (over (neg_ℤ x) ≡ under x) × (under (neg_ℤ x) ≡ over x)
negated (pos zero) = (refl, refl)
negated (pos (suc n)) = (refl, refl)
negated (negsuc n) = (refl, refl)

pub minus : (x y : ℤ) → over (x -ℤ y) + under x + over y ≡ under (x -ℤ y) + over x + under y
minus x y = let h = sum x (neg_ℤ y) in omega (arith, (negated y).0, (negated y).1)

pub times : (x : ℤ) (n : ℕ) → (over (x *ℤ pos n) ≡ over x * n) × (under (x *ℤ pos n) ≡ under x * n)
times (pos a) n = (refl, omega arith)
times (negsuc a) n = let h = negated (pos (suc a * n)) in (omega (arith, h.0), h.1)

-- orders of integers
pub of_≤ℤ : {x y : ℤ} → x ≤ℤ y → over x + under y ≤ over y + under x
of_≤ℤ {x = pos a} {y = pos b} h = let l = leb→le a b h.le in omega arith
of_≤ℤ {x = pos a} {y = negsuc b} h = absurd h.le
of_≤ℤ {x = negsuc a} {y = pos b} h = omega arith
of_≤ℤ {x = negsuc a} {y = negsuc b} h = let l = leb→le b a h.le in omega arith

pub to_≤ℤ : (x y : ℤ) → over x + under y ≤ over y + under x → x ≤ℤ y
to_≤ℤ (pos a) (pos b) h = record { le = le→leb a b (omega arith) }
to_≤ℤ (pos a) (negsuc b) h = absurd (omega arith)
to_≤ℤ (negsuc a) (pos b) h = record { le = tt }
to_≤ℤ (negsuc a) (negsuc b) h = record { le = le→leb b a (omega arith) }

pub of_<ℤ : {x y : ℤ} → x <ℤ y → over x + under y < over y + under x
of_<ℤ {x = pos a} {y = pos b} h = let l = ltb→lt a b h.lt in omega arith
of_<ℤ {x = pos a} {y = negsuc b} h = absurd h.lt
of_<ℤ {x = negsuc a} {y = pos b} h = omega arith
of_<ℤ {x = negsuc a} {y = negsuc b} h = let l = ltb→lt b a h.lt in omega arith

pub to_<ℤ : (x y : ℤ) → over x + under y < over y + under x → x <ℤ y
to_<ℤ (pos a) (pos b) h = record { lt = lt→ltb a b (omega arith) }
to_<ℤ (pos a) (negsuc b) h = absurd (omega arith)
to_<ℤ (negsuc a) (pos b) h = record { lt = tt }
to_<ℤ (negsuc a) (negsuc b) h = record { lt = lt→ltb b a (omega arith) }

-- from -n to n - 1: what a signed number of so many bits holds, n being half their power
pub mag_below : (x : ℤ) (n : ℕ) → over x < under x + n → under x ≤ over x + n → mag x < n
mag_below (pos a) n h k = omega arith
mag_below (negsuc a) n h k = omega arith
