-- Calls under the profile with the phase handed on beside the image (02, C-22: 'the phase kept beside the state'): each is given the image and the phase that the one before it left.
use Rattle.std.specs.Prelude.{Bool, true, false, ◌&&◌, List, ◌≡◌, ℕ}
use Rattle.basics.specs.{Numbers.Bytes, Lists.Each}
use Rattle.histories.specs.Chains.{ChainOn, last_left, made_from}
use Rattle.hoists.specs.HoistCalls.{hoist_reset, end_startup}
use Rattle.hoists.specs.Hoisted.{Asks, resets, reads, writes, ends, levels, polls, drains, Hoisted, left_by, is_done, is_reset}

-- the phase that a call leaves: a reset and the end of start-up may store one, all else leaves it
abbrev pub phase_under : (image phase answer : List ℕ) → Asks → List ℕ
phase_under i p a resets = (hoist_reset i p a).phase
phase_under i p a (reads base size address width) = p
phase_under i p a (writes base size address width v) = p
phase_under i p a ends = (end_startup i p a).phase
phase_under i p a (levels n v) = p
phase_under i p a (polls n) = p
phase_under i p a (drains events place) = p

abbrev pub phase_left : Hoisted → List ℕ
phase_left x = phase_under x.given x.phase x.answer x.asks

-- a reset that is done; a refused one counts as no call (01, Saved image)
abbrev pub starts_over : Hoisted → Bool
starts_over x = is_done x && is_reset x.asks

-- what is handed on: the image, and the phase beside it
abbrev pub Pair : Type 0
Pair = List ℕ × List ℕ

abbrev pub pair_left : Hoisted → Pair
pair_left x = ((left_by x).image, phase_left x)

-- each is given the image and the phase that the one before it left, done or refused, and none is a done reset
unfoldable pub PhasedOn : (image phase : List ℕ) → List Hoisted → Type 0
PhasedOn i p = ChainOn (λ (x : Hoisted). (x.given, x.phase)) pair_left (λ x. starts_over x ≡ false) (i, p)

-- the phase left at last
unfoldable pub phase_after : List ℕ → List Hoisted → List ℕ
phase_after = last_left phase_left

-- what a host asks, and the answer area that it lends
pub record Posed : Type 0 where
  pub asks : Asks
  pub answer : List ℕ

abbrev pub posed_on : Pair → Posed → Hoisted
posed_on k q = record { given = k.0; phase = k.1; asks = q.asks; answer = q.answer }

abbrev pub posed_by : Hoisted → Posed
posed_by x = record { asks = x.asks; answer = x.answer }

-- made one after another on an image and a phase
unfoldable pub phased_on : (image phase : List ℕ) → List Posed → List Hoisted
phased_on i p = made_from posed_on pair_left (i, p)

-- no reset among them is done
unfoldable pub NoneStartsOver : List Hoisted → Type 0
NoneStartsOver = Each (λ (x : Hoisted). starts_over x ≡ false)

-- a guest: a reset that is done, and calls after it, each given the image and the phase that the one before it left, and none a done reset
pub record Guest (r : Hoisted) (xs : List Hoisted) : Type 0 where
  pub asked : r.asks ≡ resets
  pub begun : is_done r ≡ true
  pub handed_on : PhasedOn (left_by r).image (phase_left r) xs

-- the end of start-up, done, on bytes; and calls after it, each given the image and the phase that the one before it left, and none a done reset
pub record Started (e : Hoisted) (xs : List Hoisted) : Type 0 where
  pub asked : e.asks ≡ ends
  pub ended : is_done e ≡ true
  pub bytes : Bytes e.given
  pub handed_on : PhasedOn (left_by e).image (phase_left e) xs
