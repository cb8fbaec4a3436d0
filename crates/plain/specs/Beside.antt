-- The plain engine beside exported calls on bytes: refused calls, loads and resets anywhere among them (01, Saved image).
use Rattle.std.specs.Prelude.{Bool, true, false, cond, List, [], ◌∷◌, ◌++◌, ◌≡◌}
use Rattle.rules.specs.Device as device
use Rattle.images.specs.Image.{encode_like, decode, numbers_in}
use Rattle.calls.specs.Calls.{pass, refuse, Asked, afresh, calls, asked_by, answered, buffer_of, place_of, written}
use Rattle.histories.specs.exported.Exported.{Exported, left_by, is_done, answer_without, events_without, unnumbered, is_reset, is_load, Underway, carried_on}
use Rattle.plain.specs.Plain.{Engine, counted, Gave, idle, gives}
use Rattle.plain.specs.Sequence.{load_of, shown, Item}
use Rattle.plain.specs.Sequence as item

-- what is asked of the engine: a reset starts it afresh and is no call of what it starts; a call is made
abbrev pub answers : Engine → Asked → Gave
answers e afresh = idle e
answers e (calls (pass c)) = gives e c
answers e (calls (refuse r)) = idle (counted e)

-- the engine that a load starts: with what a reset holds, or with what the image given holds
abbrev pub started_by : Engine → Asked → Exported → Engine
started_by e k x = load_of e (cond (is_reset k) device.reset (decode x.given))

-- what the plain engine gives where a host makes an exported call: a load starts it afresh, and its own call is number 0; a refused call only counts
abbrev pub gives_to : (done load : Bool) → Asked → Engine → Exported → Gave
gives_to done load k e x = cond done (answers (cond load (started_by e k x) e) k) (idle (counted e))

unfoldable pub meets : Engine → Underway → Exported → Gave
meets e h x = gives_to (is_done x) (is_load h.left x) (asked_by x.asked) e x

-- the bytes of a done call are what the plain engine gives: the image is of what it shows, in the form that it was given, the answer area has its value, the
-- event buffer the events that it drained (01, The boundary; 01, The ring; 02, C-17). The plain engine has no numbers of events, and is compared without them: those
-- of the image, if its form has them, are whatever they are (02, C-19)
pub record Agrees (g : Gave) (x : Exported) : Type 0 where
  pub image : (left_by x).image ≡ encode_like x.given (shown g.after) (numbers_in (left_by x).image)
  pub answer : answer_without x ≡ answered 0 g.value x.answer
  pub events : events_without x ≡ written (buffer_of x.asked) (place_of x.asked) (unnumbered g.drained)

-- each of the exported calls that is done
unfoldable pub AllAgree : Engine → Underway → List Exported → Type 0
AllAgree e h [] = Unit {0}
AllAgree e h (x ∷ xs) = (is_done x ≡ true → Agrees (meets e h x) x) × AllAgree (meets e h x).after (carried_on h x) xs

-- the engine after all of them
unfoldable pub after_calls : Engine → Underway → List Exported → Engine
after_calls e h [] = e
after_calls e h (x ∷ xs) = after_calls (meets e h x).after (carried_on h x) xs

-- ---- as happenings

-- what is asked, as it happens to an engine
abbrev pub asked_items : Asked → List Item
asked_items afresh = []
asked_items (calls (pass c)) = item.call c ∷ []
asked_items (calls (refuse r)) = item.refused ∷ []

-- an exported call: a done one is a call, and a load before it where it is one; a refused one is refused
abbrev pub items_by : (done load : Bool) → Asked → Exported → List Item
items_by true true k x = item.load (cond (is_reset k) device.reset (decode x.given)) ∷ asked_items k
items_by true false k x = asked_items k
items_by false l k x = item.refused ∷ []

abbrev pub items_in : Underway → Exported → List Item
items_in h x = items_by (is_done x) (is_load h.left x) (asked_by x.asked) x

-- one after another
unfoldable pub items_of : Underway → List Exported → List Item
items_of h [] = []
items_of h (x ∷ xs) = items_in h x ++ items_of (carried_on h x) xs
