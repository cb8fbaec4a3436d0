-- A sweep of those who wait: 02, C-24 with 'polls each input that waited at the start' in place of 'polls each input'. Which these are is told by the exported call
-- `waiting` of the image at the start. And the polls that are saved by it.
use Rattle.std.specs.Prelude.{Bool, true, false, cond, not, List, [], ◌∷◌, ◌++◌, ◌≡◌, ℕ, ◌<◌}
use Rattle.basics.specs.Inputs.{on, inputs}
use Rattle.rules.specs.Device.{Call}
use Rattle.rules.specs.Device as call
use Rattle.calls.specs.Calls.{value_in}
use Rattle.calls.specs.Calls as request
use Rattle.calls.specs.Waiting.{waiting}
use Rattle.histories.specs.exported.Exported.{Exported, left_by, left_after, returned_by, drained_by}
use Rattle.sweep.specs.Sweeps.{sweeping, is_poll, every_call, some_call}

-- calls that poll each input of the set w at least once, in any order, with only calls that a sweep admits before, between and after
pub record SweepOf (w : ℕ) (cs : List Call) : Type 0 where
  pub admitted : every_call sweeping cs ≡ true
  pub polled : (n : ℕ) → n < 64 → on w n ≡ true → some_call (is_poll n) cs ≡ true

-- ---- the polls that are saved

-- a call is a poll of an input outside the set w
abbrev pub polls_outside : ℕ → Call → Bool
polls_outside w (call.level n b) = false
polls_outside w (call.poll n) = not (on w n)
polls_outside w (call.read x o) = false
polls_outside w (call.write x o v) = false
polls_outside w (call.drain k) = false

-- calls without such polls, in their order
unfoldable pub polling_only : ℕ → List Call → List Call
polling_only w [] = []
polling_only w (c ∷ cs) = cond (polls_outside w c) [] (c ∷ []) ++ polling_only w cs

-- exported calls from the image i on come to the same as others: they leave the same image, and return and drain the same events, in order
pub record ComeToTheSame (i : List ℕ) (xs ys : List Exported) : Type 0 where
  pub left : left_after i xs ≡ left_after i ys
  pub returned : returned_by xs ≡ returned_by ys
  pub drained : drained_by xs ≡ drained_by ys

-- ---- what hosts do

-- the set that a host reads, once it has asked who waits
abbrev pub told_waiting : (image answer : List ℕ) → ℕ
told_waiting i a = value_in (waiting i a).answer

-- polls of listed inputs, each given the image and the answer area that the one before it left
unfoldable pub polls_of : List ℕ → (image answer : List ℕ) → List Exported
polls_of [] i a = []
polls_of (n ∷ ns) i a =
    let x : Exported = record { given = i; asked = request.poll n; answer = a } in
    x ∷ polls_of ns (left_by x).image (left_by x).answer

-- polls of those that wait, lowest first, once a host has asked who they are, all with one answer area
abbrev pub polls_waiting : (image answer : List ℕ) → List Exported
polls_waiting i a = polls_of (inputs (on (told_waiting i a))) i (waiting i a).answer
