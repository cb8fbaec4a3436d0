-- The order in which a second board hears events (02, C-20): that of making, which the numbers of events restore.
use Rattle.std.specs.Prelude.{◌≡◌, cond, List, [], ◌∷◌, map, ℕ, leb, replicate}
use Rattle.rules.specs.Ring.{Event, flag}
use Rattle.rules.specs.Device.{Call, reset}
use Rattle.rules.specs.Numbering.{Numbered}
use Rattle.rules.specs.History.{from_reset}
use Rattle.histories.specs.Premises.{Along, Admitted}
use Rattle.histories.specs.Demands.{as_event}
use Rattle.histories.specs.exported.Exported.{Exported, Underway, carried_through, NoLoads, done_calls, in_image}
use Rattle.boards.specs.Board.{board_length}
use Rattle.boards.specs.Boarding.{hearing}

-- a second board begins as 256 zeros
abbrev pub blank : List ℕ
blank = replicate board_length 0

-- a board that hears events one after another, by an exported call for each, with the answer area a
unfoldable pub heard_through : (answer board : List ℕ) → List Event → List ℕ
heard_through a b [] = b
heard_through a b (e ∷ es) = heard_through a (hearing b e.vector (flag e.asserted) a).board es

-- the events that calls make from reset, in the order of making
abbrev pub in_order_of_making : List Call → List Event
in_order_of_making cs = map as_event (from_reset cs).made

-- exported calls after a done reset, which left the history u: no load, demand 3's premises met, everything drained and nothing dropped (02, C-20)
pub record Complete (u : Underway) (xs : List Exported) : Type 0 where
  pub no_loads : NoLoads u xs
  pub admitted : Along Admitted reset (done_calls xs)
  pub all_drained : (in_image (carried_through u xs)).ring.waiting ≡ []
  pub none_dropped : (in_image (carried_through u xs)).ring.drops ≡ 0

-- so many events from a reset have a number each: after 65,535 comes 0 (02, C-19, C-20)
abbrev pub most_in_order : ℕ
most_in_order = 65536

-- a list has the elements of two others and no more, each list's in its own order
pub data Interleaves {A : Type 0} : (one two both : List A) → Type 0 where
  neither : Interleaves [] [] []
  first : {x : A} {xs ys zs : List A} → Interleaves xs ys zs → Interleaves (x ∷ xs) ys (x ∷ zs)
  second : {x : A} {xs ys zs : List A} → Interleaves xs ys zs → Interleaves xs (x ∷ ys) (x ∷ zs)

-- numbered events by rising number, unsigned (02, C-20: the numbers give the order)
unfoldable pub inserted : Numbered → List Numbered → List Numbered
inserted x [] = x ∷ []
inserted x (y ∷ ys) = cond (leb x.number y.number) (x ∷ y ∷ ys) (y ∷ inserted x ys)

unfoldable pub by_number : List Numbered → List Numbered
by_number [] = []
by_number (x ∷ xs) = inserted x (by_number xs)
