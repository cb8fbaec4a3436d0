-- What theorems on the forms of an image ask of it (02, C-17, C-19).
use Rattle.std.specs.Prelude.{List, ◌≡◌, ℕ, length}
use Rattle.images.specs.Form.{one, numbered, form_length}

-- an image that holds the copy of IRR: that of form 1 (02, C-17)
abbrev pub HoldsCopy : List ℕ → Type 0
HoldsCopy i = length i ≡ form_length one

-- one that holds numbers: that of 290 bytes, with the fifth body (02, C-19)
abbrev pub HoldsNumbers : List ℕ → Type 0
HoldsNumbers i = length i ≡ form_length numbered

-- what an image has of numbers finds room in the target that it is moved to (02, C-19)
abbrev pub RoomForNumbers : (image target : List ℕ) → Type 0
RoomForNumbers i t = HoldsNumbers i → HoldsNumbers t
