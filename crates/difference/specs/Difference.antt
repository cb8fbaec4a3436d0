-- The difference of two numbers of events: numbers have 16 bits, and after 65,535 comes 0 (02, C-19).
use Rattle.std.specs.Prelude.{◌≡◌, ℕ, ◌+◌, ◌-◌, ◌%◌, Bool, cond, ℤ, pos, ◌+ℤ◌, ◌-ℤ◌, ◌*ℤ◌, neg_ℤ, ◌≤ℤ◌, nat_lt}

-- the number of the event that is made at place p in the order of making (02, C-19: 'after 65,535 comes 0')
abbrev pub numbered : ℕ → ℕ
numbered p = p % 65536

-- how many numbers one counts on from earlier to come to later (02, C-19: 'later minus earlier modulo 65,536')
abbrev pub ahead : ℕ → ℕ → ℕ
ahead later earlier = (later + 65536 - earlier) % 65536

-- fewer than 32,768 ahead is ahead, and all that is left of the way round is behind (02, C-19: 'So 32,768 ahead reads as -32,768')
abbrev pub is_ahead : ℕ → ℕ → Bool
is_ahead later earlier = nat_lt (ahead later earlier) 32768

-- later minus earlier as a signed result: how many ahead, less 65,536 where that is read as behind (02, C-19: 'a difference of two numbers as a signed result')
abbrev pub difference_of : ℕ → ℕ → ℤ
difference_of later earlier = cond (is_ahead later earlier) (pos (ahead later earlier)) (pos (ahead later earlier) -ℤ pos 65536)

-- z is w and some whole number of times 65,536, which may be negative (02, C-19: 'congruent .. modulo 65,536')
abbrev pub Congruent : ℤ → ℤ → Type 0
Congruent z w = (k : ℤ) × (z ≡ w +ℤ k *ℤ pos 65536)

-- what is asked of a difference z, whatever the rule that gives it (02, C-19: 'from -32,768 to 32,767 .. congruent to later minus earlier')
pub record IsDifference (later earlier : ℕ) (z : ℤ) : Type 0 where
  pub least : neg_ℤ (pos 32768) ≤ℤ z
  pub most : z ≤ℤ pos 32767
  pub congruent : Congruent z (pos later -ℤ pos earlier)
