-- Requests made one after another on an image, and what it is that two images answer them alike (02, C-17).
use Rattle.std.specs.Prelude.{false, List, [], ◌∷◌, ◌≡◌, ℕ, length}
use Rattle.images.specs.Form.{numbered, form_length}
use Rattle.images.specs.Image.{decode, numbers_in}
use Rattle.calls.specs.Calls.{Request, asked_by}
use Rattle.histories.specs.exported.Exported.{Exported, left_by, is_reset, answer_without, events_without, done_calls, returned_by, drained_by, losses_read}

-- what a host asks, and the answer area that it lends
pub record Asking : Type 0 where
  pub asked : Request
  pub answer : List ℕ

abbrev pub asked_of : List ℕ → Asking → Exported
asked_of i q = record { given = i; asked = q.asked; answer = q.answer }

-- made one after another on an image: each is given the image that the one before it left, done or refused
unfoldable pub made_on : List ℕ → List Asking → List Exported
made_on i [] = []
made_on i (q ∷ qs) = asked_of i q ∷ made_on (left_by (asked_of i q)).image qs

-- none of them is a reset
unfoldable pub NoResets : List Asking → Type 0
NoResets [] = Unit {0}
NoResets (q ∷ qs) = (is_reset (asked_by q.asked) ≡ false) × NoResets qs

-- what an exported call asks
abbrev pub asking_of : Exported → Asking
asking_of x = record { asked = x.asked; answer = x.answer }

-- the images that two exported calls leave hold the same device, each in the form that it was given
pub record SameDevice (x y : Exported) : Type 0 where
  pub holds : decode (left_by x).image ≡ decode (left_by y).image
  pub first_form : length (left_by x).image ≡ length x.given
  pub second_form : length (left_by y).image ≡ length y.given

-- they hand back the same number, answer area and event buffer, and leave such images
pub record Alike (x y : Exported) : Type 0 where
  pub number : (left_by x).number ≡ (left_by y).number
  pub answer : (left_by x).answer ≡ (left_by y).answer
  pub events : (left_by x).events ≡ (left_by y).events
  pub images : SameDevice x y

-- the same but for the numbers of events; and these too where the images given load with the same (02, C-19)
pub record AlikeBut (x y : Exported) : Type 0 where
  pub number : (left_by x).number ≡ (left_by y).number
  pub answer : answer_without x ≡ answer_without y
  pub events : events_without x ≡ events_without y
  pub images : SameDevice x y
  pub whole : numbers_in x.given ≡ numbers_in y.given → Alike x y

-- an image without the fifth body loads with numbers from 0, whatever was told before (02, C-19)
abbrev pub NoFifth : List ℕ → Type 0
NoFifth i = length i ≡ form_length numbered → ⊥

-- so do exported calls, each beside the other's
unfoldable pub AllAlike : List Exported → List Exported → Type 0
AllAlike [] [] = Unit {0}
AllAlike [] (y ∷ ys) = ⊥
AllAlike (x ∷ xs) [] = ⊥
AllAlike (x ∷ xs) (y ∷ ys) = Alike x y × AllAlike xs ys

unfoldable pub AllAlikeBut : List Exported → List Exported → Type 0
AllAlikeBut [] [] = Unit {0}
AllAlikeBut [] (y ∷ ys) = ⊥
AllAlikeBut (x ∷ xs) [] = ⊥
AllAlikeBut (x ∷ xs) (y ∷ ys) = AlikeBut x y × AllAlikeBut xs ys

-- they are the same calls of the device, and a host reads the same of them: events are read without their numbers
pub record ReadAlike (xs ys : List Exported) : Type 0 where
  pub calls : done_calls xs ≡ done_calls ys
  pub returned : returned_by xs ≡ returned_by ys
  pub drained : drained_by xs ≡ drained_by ys
  pub lost : losses_read xs ≡ losses_read ys
