-- A sweep (02, C-24): calls that poll each of the 64 inputs, with others between them that neither lower an input nor write MASK, CLEAR or ISR. And what it does.
use Rattle.std.specs.Prelude.{Bool, true, false, cond, not, ◌&&◌, ◌||◌, List, [], ◌∷◌, ◌++◌, ◌≡◌, ℕ, ◌<◌, eqb}
use Rattle.basics.specs.Inputs.{on, only}
use Rattle.rules.specs.Lines.{Lines, Made, event}
use Rattle.rules.specs.Core.{Act, poll, raise, lower, clear, set_mask, move, set_isr, store, set_vector}
use Rattle.rules.specs.Device.{Device, Call, step}
use Rattle.rules.specs.Device as call
use Rattle.rules.specs.History.{history}
use Rattle.rules.specs.Account.{tally}
use Rattle.histories.specs.Premises.{reaches, is_isr, is_mask}
use Rattle.histories.specs.Demands.{in_service, Eligible, polls_or_raises, asserts_of}

-- ---- which calls are a sweep

-- CLEAR (01, Window and register map)
abbrev pub is_clear : ℕ → Bool
is_clear o = eqb o 0x080 || eqb o 0x084

-- the registers that no call of a sweep writes (02, C-24)
abbrev pub moves_lines : ℕ → Bool
moves_lines o = is_mask o || is_clear o || is_isr o

-- a call that a sweep admits: a raise, a poll, a read, a drain, a write that reaches neither MASK, CLEAR nor ISR, whatever its value (02, C-24)
abbrev pub sweeping : Call → Bool
sweeping (call.level n true) = true
sweeping (call.level n false) = false
sweeping (call.poll n) = true
sweeping (call.read w o) = true
sweeping (call.write w o v) = not (reaches moves_lines w o)
sweeping (call.drain k) = true

-- what such a call does not do: an act that lowers an input, or writes MASK, CLEAR or ISR (01, Inputs; 01, Window and register map)
abbrev pub unsettles : Act → Bool
unsettles (move (poll n)) = false
unsettles (move (raise n)) = false
unsettles (move (lower n)) = true
unsettles (move (clear b)) = true
unsettles (move (set_mask h v)) = true
unsettles (set_isr h v) = true
unsettles (store s) = false
unsettles (set_vector n v) = false

-- a call is a poll of n
abbrev pub is_poll : ℕ → Call → Bool
is_poll n (call.level m b) = false
is_poll n (call.poll m) = only n m
is_poll n (call.read w o) = false
is_poll n (call.write w o v) = false
is_poll n (call.drain k) = false

-- every call of a list has t, and some call has
abbrev pub every_call : (Call → Bool) → List Call → Bool
every_call t [] = true
every_call t (c ∷ cs) = t c && every_call t cs

abbrev pub some_call : (Call → Bool) → List Call → Bool
some_call t [] = false
some_call t (c ∷ cs) = t c || some_call t cs

-- calls that poll each input at least once, in any order, with only such calls before, between and after (02, C-24)
pub record Sweep (cs : List Call) : Type 0 where
  pub admitted : every_call sweeping cs ≡ true
  pub polled : (n : ℕ) → n < 64 → some_call (is_poll n) cs ≡ true

-- ---- what it does

-- how many deasserts there are among events, of whatever input
abbrev pub deasserts_in : List Made → ℕ
deasserts_in ms = tally (λ m. not m.asserted) ms

-- the input n was not in service at the start, and is latched and unmasked at the end (02, C-24)
abbrev pub wakes : ℕ → (start end : Lines) → Bool
wakes n start end = not (in_service n start) && (on end.irr n && not (on end.mask n))

-- from d to e, with these events: every latched and unmasked input is in service, no deassert is made, and each input is asserted as often as it wakes,
-- once or not at all (02, C-24)
pub record WakesAll (d : Device) (made : List Made) (e : Device) : Type 0 where
  pub served : (n : ℕ) → n < 64 → Eligible n e.core.lines → in_service n e.core.lines ≡ true
  pub no_deassert : deasserts_in made ≡ 0
  pub asserted : (n : ℕ) → n < 64 → asserts_of n made ≡ cond (wakes n d.core.lines e.core.lines) 1 0

-- ---- which vector an assert carries

-- the assert of n as a call makes it that meets d: returned, with the vector byte that n then has (01, Inputs)
abbrev pub assert_from : Device → ℕ → Made
assert_from d n = event d.core.vectors false true n

-- a call makes no event, or it polls or raises an input and makes that input's assert
pub data Announced (d : Device) (c : Call) : Type 0 where
  nothing : (step d c).made ≡ [] → Announced d c
  one : (n : ℕ) → polls_or_raises n c ≡ true → (step d c).made ≡ assert_from d n ∷ [] → Announced d c

-- one of the calls is the poll or raise of n that makes its assert; met is the device that this call meets
pub record AssertedBy (n : ℕ) (d : Device) (cs : List Call) : Type 0 where
  pub before : List Call
  pub call : Call
  pub later : List Call
  pub met : Device
  pub whole : cs ≡ before ++ (call ∷ later)
  pub meets : met ≡ (history d before).after
  pub asks : polls_or_raises n call ≡ true
  pub made : (step met call).made ≡ assert_from met n ∷ []
