-- A board (02, C-20): for each of the 256 vectors how many inputs in service carry it. Counted afresh, and kept beside the state by what a call touches.
use Rattle.std.specs.Prelude.{◌≡◌, Bool, true, cond, not, ◌&&◌, ◌||◌, List, [], ◌∷◌, map, ℕ, ◌+◌, ◌-◌, ◌<◌, ◌≤◌, eqb, length, take, get_or}
use Rattle.basics.specs.Inputs.{on}
use Rattle.rules.specs.Core.{Core}
use Rattle.rules.specs.Device.{up_from}
use Rattle.rules.specs.Account.{served_with, carries, carrying}
use Rattle.images.specs.Image.{decode}
use Rattle.histories.specs.exported.Exported.{Exported, left_by, is_done, is_load, Underway, carried_on}

-- a board has a count for each of the 256 vectors (02, C-20)
abbrev pub board_length : ℕ
board_length = 256

-- the count that f gives for each vector
unfoldable pub counts_by : (ℕ → ℕ) → List ℕ
counts_by f = map f (up_from 0 board_length)

-- a fresh recount: of each vector the in-service inputs, masked or not, that carry it (02, C-20)
abbrev pub recount : Core → List ℕ
recount c = counts_by (λ v. carrying v c)

-- a board that has all its counts; and one that is right for a core
abbrev pub WholeBoard : List ℕ → Type 0
WholeBoard b = board_length ≤ length b

abbrev pub RightFor : Core → List ℕ → Type 0
RightFor c b = take board_length b ≡ recount c

-- ---- kept beside the state

-- the ISR bit of n, or its vector byte, is another in d than in c (02, C-20)
abbrev pub touched : Core → Core → ℕ → Bool
touched c d n = cond (on c.lines.isr n) (not (on d.lines.isr n)) (on d.lines.isr n) || not (eqb (get_or c.vectors n 0) (get_or d.vectors n 0))

-- of those in service in the core e that carry v, how many have f
abbrev pub carrying_with : (ℕ → Bool) → ℕ → Core → ℕ
carrying_with f v e = served_with (λ n. f n && carries v e.vectors n) e.lines

-- the count k of v, after a call that made d of c: what the touched inputs carried is taken away, and what they carry now is added (02, C-20)
abbrev pub brought_count : Core → Core → ℕ → ℕ → ℕ
brought_count c d v k = k - carrying_with (touched c d) v c + carrying_with (touched c d) v d

-- the whole board
abbrev pub brought_by : Core → Core → List ℕ → List ℕ
brought_by c d b = counts_by (λ v. brought_count c d v (get_or b v 0))

-- one exported call more: refused, the board stays; a load counts anew; any other call takes away and adds (02, C-20)
unfoldable pub kept_on : Underway → Exported → List ℕ → List ℕ
kept_on h x b =
    let after = (decode (left_by x).image).core in
    cond (is_done x) (cond (is_load h.left x) (recount after) (brought_by (decode x.given).core after b)) b

-- exported calls, one after another
unfoldable pub kept_through : Underway → List ℕ → List Exported → List ℕ
kept_through h b [] = b
kept_through h b (x ∷ xs) = kept_through (carried_on h x) (kept_on h x b) xs

-- ---- what a call may change

-- some input with a changed ISR bit or vector byte carried v in c, or carries it in d (02, C-20)
pub record Touching (v : ℕ) (c d : Core) : Type 0 where
  pub input : ℕ
  pub below : input < 64
  pub changed : touched c d input ≡ true
  pub carried : (carries v c.vectors input || carries v d.vectors input) ≡ true
