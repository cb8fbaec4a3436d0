-- The saved image, over its form: the bytes of each field of a device and of the numbers beside it, the device and the numbers that an image holds, and which bytes
-- are accepted: an ordered list of rules, each with the place that it finds wrong. Last, an image of the form that its length tells, as the calls have it.
use Rattle.std.specs.Prelude.{Bool, true, cond, not, ◌&&◌, ◌||◌, List, [], ◌∷◌, ◌++◌, ℕ, suc, ◌-◌, ◌*◌, ◌%◌, eqb, leb, ltb, length, get_or, replicate}
use Rattle.basics.specs.Numbers.{number_of, bytes_of, part, same, Twos, written, spelled}
use Rattle.rules.specs.Ring.{Event, capacity, event_twos}
use Rattle.rules.specs.Core.{Core, plain, htmsi_en, edge, pol, auto0, auto1}
use Rattle.rules.specs.Device.{Device, reset}
use Rattle.rules.specs.Numbering.{Numbers, from_zero, number_twos}
use Rattle.images.specs.Form.{Word, mask, irr, isr, copy, stored, Field, word, routes, vectors, count, drops, pairs, next, numbers}
use Rattle.images.specs.Form.{Form, one, ring_fields, number_fields, size, total, laid, has, place, form_length, contents_length, contents_of, read, image, Known, unknown, known, form_of}

-- ---- from a device to bytes (01, Saved image)

-- a word of body 1; `last_intirr` is written as IRR
abbrev pub word_of : Core → Word → ℕ
word_of c mask = c.lines.mask
word_of c irr = c.lines.irr
word_of c isr = c.lines.isr
word_of c copy = c.lines.irr
word_of c (stored p) = plain c.stored p

-- things of two bytes in sixteen places; unused ones are zero
abbrev pub sixteen : {A : Type 0} → Twos A → List A → List ℕ
sixteen t xs = written t xs ++ replicate (2 * capacity - 2 * length xs) 0

-- the bytes of each field, of a device and the numbers beside it (01, Saved image; 02, C-19)
abbrev pub field_of : Device → Numbers → Field → List ℕ
field_of d s (word w) = bytes_of 8 (word_of d.core w)
field_of d s routes = d.core.stored.routes
field_of d s vectors = d.core.vectors
field_of d s count = length d.ring.waiting ∷ []
field_of d s drops = bytes_of 4 d.ring.drops
field_of d s pairs = sixteen event_twos d.ring.waiting
field_of d s next = bytes_of 2 s.next
field_of d s numbers = sixteen number_twos s.waiting

-- the image of both; a form without the fifth body has the device alone
abbrev pub encode_as : Form → Device → Numbers → List ℕ
encode_as f d s = image f (field_of d s)

-- ---- from bytes to a device (01, Saved image)

-- the number of eight bytes, a word of body 1, and the waiting count
abbrev pub register_at : ℕ → List ℕ → ℕ
register_at at l = number_of (part at 8 l)

abbrev pub word_in : Form → List ℕ → Word → ℕ
word_in f l w = register_at (place f (word w)) l

abbrev pub count_in : Form → List ℕ → ℕ
count_in f l = get_or l (place f count) 0

-- the first n pairs as events
abbrev pub events_of : ℕ → List ℕ → List Event
events_of n l = spelled event_twos n l

-- the device that an accepted image holds
abbrev pub decode_as : Form → List ℕ → Device
decode_as f l =
    record {
      core = record {
        lines = record { mask = word_in f l mask; irr = word_in f l irr; isr = word_in f l isr };
        vectors = read f l vectors;
        stored = record {
          htmsi_en = word_in f l (stored htmsi_en);
          edge = word_in f l (stored edge);
          pol = word_in f l (stored pol);
          auto0 = word_in f l (stored auto0);
          auto1 = word_in f l (stored auto1);
          routes = read f l routes;
        };
      };
      ring = record { waiting = events_of (count_in f l) (read f l pairs); drops = number_of (read f l drops) };
    }

-- the numbers that it holds; an image without the fifth body loads with waiting events numbered from 0 and the next number after them (02, C-19)
abbrev pub numbers_as : Form → List ℕ → Numbers
numbers_as f l =
    cond (has f numbers) (record { next = number_of (read f l next); waiting = spelled number_twos (count_in f l) (read f l numbers) })
    (from_zero (count_in f l))

-- ---- which bytes are accepted (01, Saved image: rules)

-- what can be wrong with the bodies
pub data Fault : Type 0 where
  copy_differs many_wait bad_flag unused_set : Fault

-- what a rule finds: nothing, or what is wrong and at which place
pub data Finding : Type 0 where
  clear : Finding
  found : Fault → ℕ → Finding

-- a rule says which bytes of a field are bad, each judged with its index in the field
pub record Rule : Type 0 where
  pub fault : Fault
  pub field : Field
  pub bad : ℕ → ℕ → Bool

-- `last_intirr` equals IRR, of which the first byte is told
abbrev pub copy_rule : ℕ → ℕ → Rule
copy_rule x y = record { fault = copy_differs; field = word copy; bad = λ i b. eqb i 0 && not (eqb x y) }

-- at most 16 wait
abbrev pub count_rule : Rule
count_rule = record { fault = many_wait; field = count; bad = λ i b. ltb capacity b }

-- of n waiting pairs each flag is 0 or 1
abbrev pub flag_rule : ℕ → Rule
flag_rule n = record { fault = bad_flag; field = pairs; bad = λ i b. eqb (i % 2) 1 && (ltb i (2 * n) && ltb 1 b) }

-- behind n things of two bytes all is zero
abbrev pub unused_rule : Field → ℕ → Rule
unused_rule p n = record { fault = unused_set; field = p; bad = λ i b. leb (2 * n) i && ltb 0 b }

-- the rules in their order (01, Saved image; 02, C-19: unused numbers after unused pairs)
abbrev pub rules : Form → List ℕ → List Rule
rules f l =
    copy_rule (word_in f l copy) (word_in f l irr)
    ∷ count_rule
    ∷ flag_rule (count_in f l)
    ∷ unused_rule pairs (count_in f l)
    ∷ unused_rule numbers (count_in f l)
    ∷ []

-- the first bad byte, among bytes that stand from place a on
abbrev pub search : Fault → (ℕ → ℕ → Bool) → ℕ → List ℕ → Finding
search k bad a [] = clear
search k bad a (x ∷ l) = cond (bad 0 x) (found k a) (search k (λ i. bad (suc i)) (suc a) l)

-- what a rule finds in an image; a form that lacks the field lacks the rule
abbrev pub finding : Form → List ℕ → Rule → Finding
finding f l r = cond (has f r.field) (search r.fault r.bad (place f r.field) (read f l r.field)) clear

-- the first rule that finds something decides
abbrev pub or_else : Finding → Finding → Finding
or_else clear t = t
or_else (found k a) t = found k a

abbrev pub first_fault : Form → List ℕ → List Rule → Finding
first_fault f l [] = clear
first_fault f l (r ∷ rs) = or_else (finding f l r) (first_fault f l rs)

-- what testing an image finds: the first thing that is wrong, if anything; of a broken rule what and where (01, Numbers handed back: 4, 5; 02, C-16: 8 to 11)
pub data ImageTest : Type 0 where
  accepted wrong_length wrong_contents : ImageTest
  broken : Fault → ℕ → ImageTest

abbrev pub body_test : Finding → ImageTest
body_test clear = accepted
body_test (found k a) = broken k a

-- an image tested as one of a form: its length, its contents, its bodies
abbrev pub test_as : Form → List ℕ → ImageTest
test_as f l =
    cond (eqb (length l) (form_length f))
    (cond (same (part 0 (contents_length f) l) (contents_of f)) (body_test (first_fault f l (rules f l))) wrong_contents)
    wrong_length

-- an image tested as one of the form that its length tells
abbrev pub test_known : Known → List ℕ → ImageTest
test_known unknown l = wrong_length
test_known (known f) l = test_as f l

unfoldable pub image_test : List ℕ → ImageTest
image_test l = test_known (form_of (length l)) l

-- ---- which bytes were accepted before the rules told a place (01, Saved image: rules); 02, C-16 keeps the set

-- every byte, with its index, passes a test
abbrev pub every_byte : (ℕ → ℕ → Bool) → List ℕ → Bool
every_byte good [] = true
every_byte good (x ∷ l) = good 0 x && every_byte (λ i. good (suc i)) l

-- of n waiting pairs a flag is 0 or 1, and a byte behind them is 0
abbrev pub pair_byte : ℕ → ℕ → ℕ → Bool
pair_byte n i b = cond (ltb i (2 * n)) (eqb (i % 2) 0 || leb b 1) (eqb b 0)

-- form 1: 259 bytes, its contents, `last_intirr` as IRR, at most 16 waiting, and the pairs
unfoldable pub accepted_before : List ℕ → Bool
accepted_before l =
    eqb (length l) (form_length one)
    && (same (part 0 (contents_length one) l) (contents_of one)
    && (eqb (word_in one l copy) (word_in one l irr)
    && (leb (count_in one l) capacity
    && every_byte (pair_byte (count_in one l)) (read one l pairs))))

-- ---- as the calls have it: the form is the one that the length tells (02, C-17)

-- the device that an image holds; bytes of another length hold none, and no call asks for theirs
abbrev pub decode_known : Known → List ℕ → Device
decode_known unknown l = reset
decode_known (known f) l = decode_as f l

unfoldable pub decode : List ℕ → Device
decode l = decode_known (form_of (length l)) l

-- and the numbers
abbrev pub numbers_known : Known → List ℕ → Numbers
numbers_known unknown l = from_zero 0
numbers_known (known f) l = numbers_as f l

unfoldable pub numbers_in : List ℕ → Numbers
numbers_in l = numbers_known (form_of (length l)) l

-- the image of a device, with its numbers, in the form of the image i
abbrev pub encode_known : Known → Device → Numbers → List ℕ
encode_known unknown d s = []
encode_known (known f) d s = encode_as f d s

unfoldable pub encode_like : List ℕ → Device → Numbers → List ℕ
encode_like i d s = encode_known (form_of (length i)) d s

-- ---- in every form that has them

-- body 4 as bytes, and body 5
unfoldable pub ring_body : Device → List ℕ
ring_body d = laid (field_of d (from_zero 0)) ring_fields

unfoldable pub number_body : Numbers → List ℕ
number_body s = laid (field_of reset s) number_fields

-- how long bodies and fields are
abbrev pub bytes_length : ℕ
bytes_length = size vectors

abbrev pub ring_length : ℕ
ring_length = total ring_fields

abbrev pub pairs_length : ℕ
pairs_length = size pairs

abbrev pub number_body_length : ℕ
number_body_length = total number_fields
