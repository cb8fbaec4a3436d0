-- What can be wrong with an image, in the words of 01 and 02 (C-16, C-17, C-19): its length, its contents, or the first rule that its bodies break, at its place.
use Rattle.std.specs.Prelude.{true, List, ◌⊎◌, ◌≡◌, ℕ, ◌+◌, ◌*◌, ◌<◌, ◌≤◌, length, get_or}
use Rattle.basics.specs.Numbers.{part}
use Rattle.rules.specs.Ring.{capacity}
use Rattle.images.specs.Form.{Form, Field, word, copy, irr, count, pairs, numbers, has, size, place, form_length, contents_length, contents_of}
use Rattle.images.specs.Image.{word_in, count_in, Fault, copy_differs, many_wait, bad_flag, unused_set}
use Rattle.calls.specs.Reasons.{OfImage, bad_length, bad_head, bad_body, NoneOf}

-- 4: a length that is none of the three
abbrev pub NoForm : List ℕ → Type 0
NoForm l = (length l ≡ 259 → ⊥) × (length l ≡ 251 → ⊥) × (length l ≡ 290 → ⊥)

-- 5: a length of the three, and other contents than those of that length
abbrev pub OtherContents : List ℕ → Type 0
OtherContents l = (f : Form) × (length l ≡ form_length f) × (part 0 (contents_length f) l ≡ contents_of f → ⊥)

-- ---- 8 to 11, in their order

-- the flag of pair m, and the first byte behind the two bytes that a field has for each waiting event
abbrev pub flag_at : Form → ℕ → ℕ
flag_at f m = place f pairs + (2 * m + 1)

abbrev pub behind_at : Form → List ℕ → Field → ℕ
behind_at f l p = place f p + 2 * count_in f l

-- the copy of IRR is right, where the form has one
abbrev pub Copied : Form → List ℕ → Type 0
Copied f l = has f (word copy) ≡ true → word_in f l copy ≡ word_in f l irr

-- 8: `last_intirr` differs from IRR
pub record CopyDiffers (f : Form) (l : List ℕ) (a : ℕ) : Type 0 where
  pub has : has f (word copy) ≡ true
  pub place : a ≡ place f (word copy)
  pub differs : word_in f l copy ≡ word_in f l irr → ⊥

-- 9: the copy is right, and more than 16 wait
pub record ManyWait (f : Form) (l : List ℕ) (a : ℕ) : Type 0 where
  pub copied : has f (word copy) ≡ true → word_in f l copy ≡ word_in f l irr
  pub place : a ≡ place f count
  pub many : capacity < get_or l a 0

-- 10: copy and count are right, and a waiting pair's flag is neither 0 nor 1, the first such
pub record BadFlag (f : Form) (l : List ℕ) (a : ℕ) : Type 0 where
  pub copied : has f (word copy) ≡ true → word_in f l copy ≡ word_in f l irr
  pub counted : count_in f l ≤ capacity
  pub pair : ℕ
  pub waits : pair < count_in f l
  pub place : a ≡ flag_at f pair
  pub over : 1 < get_or l a 0
  pub first : (m : ℕ) → m < pair → get_or l (flag_at f m) 0 ≤ 1

-- behind the waiting events' part of a field a byte is not zero, the first such; or none is
pub record SetBehind (f : Form) (l : List ℕ) (p : Field) (a : ℕ) : Type 0 where
  pub has : has f p ≡ true
  pub behind : behind_at f l p ≤ a
  pub inside : a < place f p + size p
  pub set : 0 < get_or l a 0
  pub first : (b : ℕ) → behind_at f l p ≤ b → b < a → get_or l b 0 ≡ 0

abbrev pub NoneBehind : Form → List ℕ → Field → Type 0
NoneBehind f l p = (b : ℕ) → behind_at f l p ≤ b → b < place f p + size p → get_or l b 0 ≡ 0

-- 11: copy, count and flags are right, and an unused pair is not zero; or all of them are, and an unused number is not (02, C-19)
pub record UnusedSet (f : Form) (l : List ℕ) (a : ℕ) : Type 0 where
  pub copied : has f (word copy) ≡ true → word_in f l copy ≡ word_in f l irr
  pub counted : count_in f l ≤ capacity
  pub flagged : (m : ℕ) → m < count_in f l → get_or l (flag_at f m) 0 ≤ 1
  pub found : SetBehind f l pairs a ⊎ (NoneBehind f l pairs × SetBehind f l numbers a)

abbrev pub Why : Form → Fault → List ℕ → ℕ → Type 0
Why f copy_differs l a = CopyDiffers f l a
Why f many_wait l a = ManyWait f l a
Why f bad_flag l a = BadFlag f l a
Why f unused_set l a = UnusedSet f l a

-- its length and its contents are right too: those of its form
pub record Broken (l : List ℕ) (k : Fault) (a : ℕ) : Type 0 where
  pub form : Form
  pub sized : length l ≡ form_length form
  pub headed : part 0 (contents_length form) l ≡ contents_of form
  pub why : Why form k l a

-- what is found wrong
abbrev pub Found : List ℕ → OfImage → Type 0
Found l bad_length = NoForm l
Found l bad_head = OtherContents l
Found l (bad_body k p) = Broken l k p

-- an image that is accepted: nothing is
abbrev pub IsImage : List ℕ → Type 0
IsImage l = NoneOf (Found l)
