-- A sweep of exported calls (02, C-24): what a host reads of it, and the sweep that hosts do, 64 polls one after another.
use Rattle.std.specs.Prelude.{Bool, true, false, cond, not, ◌&&◌, List, [], ◌∷◌, ◌++◌, ◌≡◌, ℕ, zero, suc, ◌+◌, ◌<◌, eqb}
use Rattle.basics.specs.Inputs.{only}
use Rattle.rules.specs.Ring.{Event, dropped}
use Rattle.rules.specs.Device.{Device}
use Rattle.calls.specs.Calls.{Request, present_in}
use Rattle.calls.specs.Calls as request
use Rattle.rules.specs.Account.{tally}
use Rattle.histories.specs.Demands.{in_service, Eligible, ring_acts}
use Rattle.histories.specs.exported.Exported.{Exported, left_by, is_done, done_calls, returned_by, drained_by}
use Rattle.sweep.specs.Sweeps.{wakes}

-- ---- what a host reads

-- a request to poll or raise n; any level but 0 raises (01, The boundary)
abbrev pub asks_for : ℕ → Request → Bool
asks_for n request.reset = false
asks_for n (request.read base size address width) = false
asks_for n (request.write base size address width v) = false
asks_for n (request.level m v) = only n m && not (eqb v 0)
asks_for n (request.poll m) = only n m
asks_for n (request.drain events place) = false

-- a host reads an assert of n: a poll or raise of it is done, and there is a vector in its answer area
abbrev pub reads_assert : ℕ → Exported → Bool
reads_assert n x = is_done x && (asks_for n x.asked && present_in (left_by x).answer)

-- in how many of exported calls it does; a refused call counts as none
unfoldable pub asserts_read : ℕ → List Exported → ℕ
asserts_read n [] = 0
asserts_read n (x ∷ xs) = cond (reads_assert n x) 1 0 + asserts_read n xs

-- from the device d in the first image to the device e in the last: every latched and unmasked input is in service; no deassert is returned; what
-- was drained and what waits is what waited at first; no event is dropped and no drop counted, also where the count stands at its stop; and of each input the asserts read are
-- one if it wakes, and else none (02, C-24)
pub record WakesAllRead (d : Device) (xs : List Exported) (e : Device) : Type 0 where
  pub served : (n : ℕ) → n < 64 → Eligible n e.core.lines → in_service n e.core.lines ≡ true
  pub no_deassert : tally (λ (y : Event). not y.asserted) (returned_by xs) ≡ 0
  pub none_offered : drained_by xs ++ e.ring.waiting ≡ d.ring.waiting
  pub none_dropped : e.ring.drops ≡ d.ring.drops
  pub none_lost : dropped d.ring (ring_acts d (done_calls xs)) ≡ []
  pub asserted : (n : ℕ) → n < 64 → asserts_read n xs ≡ cond (wakes n d.core.lines e.core.lines) 1 0

-- ---- the sweep that hosts do

-- polls of the k inputs from n on, lowest first, each given the image and the answer area that the one before it left
unfoldable pub polls_from : ℕ → ℕ → (image answer : List ℕ) → List Exported
polls_from n zero i a = []
polls_from n (suc k) i a =
    let x : Exported = record { given = i; asked = request.poll n; answer = a } in
    x ∷ polls_from (suc n) k (left_by x).image (left_by x).answer

-- the 64 of them
abbrev pub polls_all : (image answer : List ℕ) → List Exported
polls_all i a = polls_from 0 64 i a
