-- What a refused call leaves (00, demand 1), in one shape for every exported call: 'A refused call changes no state and no lent byte but the answer area, and refusal 7 not even
-- that.' A front says what it was lent to write, and what of that it leaves.
use Rattle.std.specs.Prelude.{List, [], ◌∷◌, ◌≡◌, ℕ, drop}
use Rattle.calls.specs.Calls.{refusal_number, no_room, answer_length, Outcome}

-- what any call leaves: the number handed back, every lent buffer that is spoken of, but the answer area, in their order, and the answer area
pub record Left : Type 0 where
  pub number : ℕ
  pub lent : List (List ℕ)
  pub answer : List ℕ

-- a call is done where it hands back 0 (01, Numbers handed back)
abbrev pub IsDone : ℕ → Type 0
IsDone n = n ≡ 0

abbrev pub left : ℕ → List (List ℕ) → List ℕ → Left
left n bs a = record { number = n; lent = bs; answer = a }

-- image and event buffer are lent to the six calls; to a conversion its target; to the call that tells who waits the image
abbrev pub left_of : Outcome → Left
left_of o = left o.number (o.image ∷ o.events ∷ []) o.answer

-- every lent byte is as it was, but the answer area's first 16; and with refusal 7 these too
pub record Untouched (lent : List (List ℕ)) (answer : List ℕ) (x : Left) : Type 0 where
  pub kept : x.lent ≡ lent
  pub past : drop answer_length x.answer ≡ drop answer_length answer
  pub seven : x.number ≡ refusal_number no_room → x.answer ≡ answer
