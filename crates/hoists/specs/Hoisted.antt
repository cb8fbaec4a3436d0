-- Calls under the hoist profile, one after another (02, C-22): which exported calls of the full device they are, and what a host reads of them.
use Rattle.std.specs.Prelude.{Bool, true, false, cond, List, [], ◌∷◌, ◌++◌, map, ◌≡◌, ℕ, ◌+◌, eqb}
use Rattle.rules.specs.Ring.{Event}
use Rattle.rules.specs.Device.{Device}
use Rattle.rules.specs.Account.{carrying, asserts_among, deasserts_among}
use Rattle.calls.specs.Calls.{Request, Outcome, leaves, outcome}
use Rattle.calls.specs.Calls as request
use Rattle.histories.specs.exported.Exported.{Exported, returned_to, drained_to}
use Rattle.hoists.specs.HoistCalls.{hoist_read, hoist_write, PhaseLeft, hoist_reset, end_startup}

-- what a host asks under the profile: its four calls, and the plain ones on inputs and the ring
pub data Asks : Type 0 where
  resets : Asks
  reads : (base size address width : ℕ) → Asks
  writes : (base size address width value : ℕ) → Asks
  ends : Asks
  levels : (input level : ℕ) → Asks
  polls : (input : ℕ) → Asks
  drains : (events : List ℕ) (place : ℕ) → Asks

-- a call as a host makes it: the image and the phase given, whatever bytes they are, what is asked, the answer area
pub record Hoisted : Type 0 where
  pub given : List ℕ
  pub phase : List ℕ
  pub asks : Asks
  pub answer : List ℕ

-- what it leaves, but for the phase
abbrev pub unphased : PhaseLeft → Outcome
unphased x = leaves x.number x.image x.answer []

abbrev pub left_under : (image phase answer : List ℕ) → Asks → Outcome
left_under i p a resets = unphased (hoist_reset i p a)
left_under i p a (reads base size address width) = hoist_read base size address width i a
left_under i p a (writes base size address width v) = hoist_write base size address width v i p a
left_under i p a ends = unphased (end_startup i p a)
left_under i p a (levels n v) = outcome (request.level n v) i a
left_under i p a (polls n) = outcome (request.poll n) i a
left_under i p a (drains events place) = outcome (request.drain events place) i a

abbrev pub left_by : Hoisted → Outcome
left_by x = left_under x.given x.phase x.answer x.asks

abbrev pub is_done : Hoisted → Bool
is_done x = eqb (left_by x).number 0

-- ---- the full device's calls

-- the request of the full device that is asked; the end of start-up asks nothing of it
abbrev pub request_of : Asks → List Request
request_of resets = request.reset ∷ []
request_of (reads base size address width) = request.read base size address width ∷ []
request_of (writes base size address width v) = request.write base size address width v ∷ []
request_of ends = []
request_of (levels n v) = request.level n v ∷ []
request_of (polls n) = request.poll n ∷ []
request_of (drains events place) = request.drain events place ∷ []

abbrev pub exported_as : Hoisted → Request → Exported
exported_as x q = record { given = x.given; asked = q; answer = x.answer }

-- the exported call that a done call is; a refused call counts as no call (01, Saved image)
abbrev pub plain_call : Hoisted → List Exported
plain_call x = cond (is_done x) (map (exported_as x) (request_of x.asks)) []

unfoldable pub plain_calls : List Hoisted → List Exported
plain_calls [] = []
plain_calls (x ∷ xs) = plain_call x ++ plain_calls xs

-- ---- what a host reads

-- all that the done calls handed back, in order: in answer areas, and in event buffers
abbrev pub returned_of : Hoisted → List Request → List Event
returned_of x [] = []
returned_of x (q ∷ qs) = returned_to q (left_by x).answer

abbrev pub drained_of : Hoisted → List Request → List Event
drained_of x [] = []
drained_of x (q ∷ qs) = drained_to q (left_by x).answer (left_by x).events

unfoldable pub returned_under : List Hoisted → List Event
returned_under [] = []
returned_under (x ∷ xs) = cond (is_done x) (returned_of x (request_of x.asks)) [] ++ returned_under xs

unfoldable pub drained_under : List Hoisted → List Event
drained_under [] = []
drained_under (x ∷ xs) = cond (is_done x) (drained_of x (request_of x.asks)) [] ++ drained_under xs

-- what a host reads of calls under the profile balances, between the device d and the device e, as `Balances` has it of exported calls (00, demand 3)
abbrev pub BalancesUnder : ℕ → Device → List Hoisted → (lost : List Event) → Device → Type 0
BalancesUnder v d xs lost e =
    asserts_among v (returned_under xs) + asserts_among v (drained_under xs) + asserts_among v e.ring.waiting + asserts_among v lost
    + deasserts_among v d.ring.waiting + carrying v d.core
    ≡ deasserts_among v (returned_under xs) + deasserts_among v (drained_under xs) + deasserts_among v e.ring.waiting + deasserts_among v lost
    + asserts_among v d.ring.waiting + carrying v e.core

-- ---- handed on

-- a call that starts afresh
abbrev pub is_reset : Asks → Bool
is_reset resets = true
is_reset (reads base size address width) = false
is_reset (writes base size address width v) = false
is_reset ends = false
is_reset (levels n v) = false
is_reset (polls n) = false
is_reset (drains events place) = false

-- each is given the image that the one before it left, done or refused, and none is a reset: so none is a load (01, Saved image)
unfoldable pub HandedOn : List ℕ → List Hoisted → Type 0
HandedOn left [] = Unit {0}
HandedOn left (x ∷ xs) = (x.given ≡ left) × (is_reset x.asks ≡ false) × HandedOn (left_by x).image xs

-- what a host asks, and the phase and the answer area that it lends
pub record Lent : Type 0 where
  pub phase : List ℕ
  pub asks : Asks
  pub answer : List ℕ

abbrev pub asked_of : List ℕ → Lent → Hoisted
asked_of i q = record { given = i; phase = q.phase; asks = q.asks; answer = q.answer }

abbrev pub lent_by : Hoisted → Lent
lent_by x = record { phase = x.phase; asks = x.asks; answer = x.answer }

-- made one after another on an image: each is given the image that the one before it left, done or refused
unfoldable pub made_on : List ℕ → List Lent → List Hoisted
made_on i [] = []
made_on i (q ∷ qs) = asked_of i q ∷ made_on (left_by (asked_of i q)).image qs

-- none of them is a reset
unfoldable pub NoResets : List Lent → Type 0
NoResets [] = Unit {0}
NoResets (q ∷ qs) = (is_reset q.asks ≡ false) × NoResets qs

-- the image left at last
unfoldable pub left_after : List ℕ → List Hoisted → List ℕ
left_after i [] = i
left_after i (x ∷ xs) = left_after (left_by x).image xs
