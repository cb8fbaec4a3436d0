-- The form of the saved image, declared: which fields stand in which bodies, in their order. Every place, every length and the contents are computed from that.
-- A further form is a constructor of `Form` with its first byte, its words and its bodies, and a place in `forms`.
use Rattle.std.specs.Prelude.{Bool, true, false, cond, ◌||◌, List, [], ◌∷◌, ◌++◌, map, ℕ, ◌+◌, ◌*◌, eqb, length}
use Rattle.basics.specs.Numbers.{bytes_of, part}
use Rattle.rules.specs.Ring.{capacity}
use Rattle.rules.specs.Core.{Plain, htmsi_en, edge, pol, auto0, auto1, Plain-discrete}

-- ---- what is declared (01, Saved image)

-- a word of body 1: a register of the lines, `last_intirr`, a register that is only stored
pub data Word : Type 0 where
  mask irr isr copy : Word
  stored : Plain → Word
  deriving Discrete as Word-discrete

-- a field of an image
pub data Field : Type 0 where
  word : Word → Field
  routes vectors count drops pairs next numbers : Field
  deriving Discrete as Field-discrete

-- how many bytes it has
abbrev pub size : Field → ℕ
size (word w) = 8
size routes = 64
size vectors = 64
size count = 1
size drops = 4
size pairs = 2 * capacity
size next = 2
size numbers = 2 * capacity

-- a body: its kind, and its fields in their order
pub record Body : Type 0 where
  pub kind : ℕ
  pub fields : List Field

-- form 1 as 01 has it; form 2, which has no copy of IRR (02, C-17); and form 2 with a fifth body, the numbers of events (02, C-19)
pub data Form : Type 0 where
  one two numbered : Form

-- the first byte of the contents
abbrev pub first_byte : Form → ℕ
first_byte one = 1
first_byte two = 2
first_byte numbered = 2

-- the words of body 1, with the copy of IRR and without (01, Saved image; 02, C-17)
abbrev pub nine_words : List Word
nine_words = mask ∷ stored htmsi_en ∷ stored edge ∷ copy ∷ irr ∷ isr ∷ stored pol ∷ stored auto0 ∷ stored auto1 ∷ []

abbrev pub eight_words : List Word
eight_words = mask ∷ stored htmsi_en ∷ stored edge ∷ irr ∷ isr ∷ stored pol ∷ stored auto0 ∷ stored auto1 ∷ []

-- the fields of body 4: the waiting count, the drop count, sixteen pairs
abbrev pub ring_fields : List Field
ring_fields = count ∷ drops ∷ pairs ∷ []

-- and of body 5: the next number, sixteen numbers (02, C-19)
abbrev pub number_fields : List Field
number_fields = next ∷ numbers ∷ []

-- the bodies: the registers, the route bytes, the vector bytes, the ring, and others behind them
abbrev pub four_bodies : List Word → List Body → List Body
four_bodies ws others =
    record { kind = 1; fields = map word ws }
    ∷ record { kind = 2; fields = routes ∷ [] }
    ∷ record { kind = 3; fields = vectors ∷ [] }
    ∷ record { kind = 4; fields = ring_fields }
    ∷ others

abbrev pub bodies : Form → List Body
bodies one = four_bodies nine_words []
bodies two = four_bodies eight_words []
bodies numbered = four_bodies eight_words (record { kind = 5; fields = number_fields } ∷ [])

-- all forms
abbrev pub forms : List Form
forms = one ∷ two ∷ numbered ∷ []

-- ---- fields in a list

-- two fields are the same; a field is listed
abbrev pub decided : {A : Type 0} → Dec A → Bool
decided (yes a) = true
decided (no n) = false

abbrev pub is : Field → Field → Bool
is p q = decided (Field-discrete (Word-discrete Plain-discrete) p q)

abbrev pub listed : Field → List Field → Bool
listed p [] = false
listed p (q ∷ ps) = is p q || listed p ps

-- the fields that stand before p, and those from p on
abbrev pub before : Field → List Field → List Field
before p [] = []
before p (q ∷ ps) = cond (is p q) [] (q ∷ before p ps)

abbrev pub from : Field → List Field → List Field
from p [] = []
from p (q ∷ ps) = cond (is p q) (q ∷ ps) (from p ps)

-- the bytes that fields take together
abbrev pub total : List Field → ℕ
total [] = 0
total (p ∷ ps) = size p + total ps

-- fields one after another, each with the bytes that b gives it
abbrev pub laid : (Field → List ℕ) → List Field → List ℕ
laid b [] = []
laid b (p ∷ []) = b p
laid b (p ∷ q ∷ ps) = b p ++ laid b (q ∷ ps)

-- ---- what is computed (01, Saved image)

-- all fields of some bodies, and of a form
abbrev pub fields_of : List Body → List Field
fields_of [] = []
fields_of (b ∷ bs) = b.fields ++ fields_of bs

abbrev pub fields : Form → List Field
fields f = fields_of (bodies f)

abbrev pub has : Form → Field → Bool
has f p = listed p (fields f)

-- the contents have two bytes, and five for each body; then the fields stand one after another
abbrev pub contents_length : Form → ℕ
contents_length f = 2 + 5 * length (bodies f)

abbrev pub place : Form → Field → ℕ
place f p = contents_length f + total (before p (fields f))

abbrev pub form_length : Form → ℕ
form_length f = contents_length f + total (fields f)

-- the form is known by the length
pub data Known : Type 0 where
  unknown : Known
  known : Form → Known

abbrev pub form_among : List Form → ℕ → Known
form_among [] n = unknown
form_among (f ∷ fs) n = cond (eqb n (form_length f)) (known f) (form_among fs n)

abbrev pub form_of : ℕ → Known
form_of n = form_among forms n

-- of each body its kind, place and length; the first stands at the place given
abbrev pub listing : ℕ → List Body → List ℕ
listing at [] = []
listing at (b ∷ bs) = b.kind ∷ (bytes_of 2 at ++ (bytes_of 2 (total b.fields) ++ listing (at + total b.fields) bs))

abbrev pub contents_of : Form → List ℕ
contents_of f = first_byte f ∷ length (bodies f) ∷ listing (contents_length f) (bodies f)

-- the bytes of a field as an image has them
abbrev pub read : Form → List ℕ → Field → List ℕ
read f l p = part (place f p) (size p) l

-- the image that fields make
unfoldable pub image : Form → (Field → List ℕ) → List ℕ
image f b = contents_of f ++ laid b (fields f)
