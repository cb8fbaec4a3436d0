-- The hoist profile (02, C-22): which calls of the full device it lets through, in each of its two phases.
use Rattle.std.specs.Prelude.{Bool, true, false, cond, not, ◌&&◌, ◌||◌, List, [], ◌∷◌, ℕ, ◌%◌, ◌≤◌, eqb, length, get_or, set}
use Rattle.basics.specs.Inputs.{inputs}
use Rattle.rules.specs.Map.{in_vectors}
use Rattle.rules.specs.Access.{Width, byte, word, dword, qword}
use Rattle.rules.specs.Device.{Device, Call, level, poll, read, write, drain, step}
use Rattle.histories.specs.Premises.{is_isr}
use Rattle.histories.specs.Demands.{in_service}

-- ---- the phase: a byte beside the image, 0 in start-up and any other after it

abbrev pub running : List ℕ → Bool
running p = not (eqb (get_or p 0 0) 0)

-- a byte for the phase is lent
abbrev pub PhaseLent : List ℕ → Type 0
PhaseLent p = 1 ≤ length p

-- a reset starts the first phase, and the end of start-up the second; bytes past the first stay
abbrev pub in_start_up : List ℕ → List ℕ
in_start_up p = set p 0 0

abbrev pub after_start_up : List ℕ → List ℕ
after_start_up p = set p 0 1

-- ---- what is tested

-- some input has f
abbrev pub is_some : List ℕ → Bool
is_some [] = false
is_some (n ∷ ns) = true

abbrev pub some_input : (ℕ → Bool) → Bool
some_input f = is_some (inputs f)

-- some input is in service, masked or not (02, C-22)
abbrev pub any_served : Device → Bool
any_served d = some_input (λ n. in_service n d.core.lines)

-- a Dword at an offset that 4 divides (02, C-22)
abbrev pub aligned_dword : Width → ℕ → Bool
aligned_dword byte o = false
aligned_dword word o = false
aligned_dword dword o = eqb (o % 4) 0
aligned_dword qword o = false

-- a call changes the vector byte of the input n
abbrev pub changes_vector : Device → Call → ℕ → Bool
changes_vector d c n = not (eqb (get_or (step d c).after.core.vectors n 0) (get_or d.core.vectors n 0))

-- a call changes a vector byte whose input is in service (02, C-22)
unfoldable pub changes_served : Device → Call → Bool
changes_served d c = some_input (λ n. in_service n d.core.lines && changes_vector d c n)

-- ---- what the profile says

-- it lets a call through, refuses it as no aligned Dword, or refuses it as a write that is not for this guest
pub data Verdict : Type 0 where
  passes unaligned unfit : Verdict

-- an aligned write that is refused: to ISR, whatever its value; after start-up to the vectors; in either phase where it would change a byte whose input is in service (02, C-22)
unfoldable pub forbidden : (running : Bool) → Device → ℕ → ℕ → Bool
forbidden r d o v = is_isr o || ((r && in_vectors o) || changes_served d (write dword o v))

-- 14 before 15; calls on inputs and drains are the full device's (02, C-22)
unfoldable pub verdict : (running : Bool) → Device → Call → Verdict
verdict r d (level n b) = passes
verdict r d (poll n) = passes
verdict r d (read w o) = cond (aligned_dword w o) passes unaligned
verdict r d (write w o v) = cond (aligned_dword w o) (cond (forbidden r d o v) unfit passes) unaligned
verdict r d (drain k) = passes
