-- The session program: a line of bytes and its answer, and the end's line.
use Rattle.std.specs.Prelude.{Bool, true, false, cond, ◌&&◌, List, [], ◌∷◌, ◌++◌, ℕ, zero, suc, ◌+◌, ◌-◌, ◌*◌, ◌/◌, ◌%◌, eqb, leb, ltb, length, take, drop, get_or}
use Rattle.rules.specs.Ring.{Event, capacity}
use Rattle.rules.specs.Map.{within}
use Rattle.rules.specs.Access.{read_at}
use Rattle.rules.specs.Device.{Device, Call, level, poll, read, write, drain, Value, none, some, step, value, reset}
use Rattle.calls.specs.Calls.{Tested, pass, refuse, refusal_number, input_call, access_call}

-- ---- hex

-- what a byte is worth as a lower-case hex digit, if it is one (01, The session program)
abbrev pub digit_of : ℕ → Value
digit_of b = cond (within 0x30 0x3a b) (some (b - 0x30)) (cond (within 0x61 0x67 b) (some (b - 0x57)) none)

-- the digit of a number below 16
abbrev pub digit : ℕ → ℕ
digit x = cond (ltb x 10) (0x30 + x) (0x57 + x)

-- the n low digits of x, the high one first
abbrev pub digits : ℕ → ℕ → List ℕ
digits zero x = []
digits (suc n) x = digits n (x / 16) ++ (digit (x % 16) ∷ [])

-- a number, if both are numbers
abbrev pub if_some : Value → (ℕ → Value) → Value
if_some none f = none
if_some (some x) f = f x

-- x and then the digits l, as a number, if they are digits
unfoldable pub digits_spell : ℕ → List ℕ → Value
digits_spell x [] = some x
digits_spell x (b ∷ l) = if_some (digit_of b) (λ d. digits_spell (16 * x + d) l)

-- ---- lines

-- the bytes of the marks and letters
abbrev pub newline : ℕ
newline = 10

abbrev pub space : ℕ
space = 0x20

abbrev pub plus : ℕ
plus = 0x2b

abbrev pub minus : ℕ
minus = 0x2d

abbrev pub equals : ℕ
equals = 0x3d

abbrev pub question : ℕ
question = 0x3f

abbrev pub letter_d : ℕ
letter_d = 0x64

abbrev pub letter_e : ℕ
letter_e = 0x65

abbrev pub letter_k : ℕ
letter_k = 0x6b

abbrev pub letter_l : ℕ
letter_l = 0x6c

abbrev pub letter_o : ℕ
letter_o = 0x6f

abbrev pub letter_p : ℕ
letter_p = 0x70

abbrev pub letter_r : ℕ
letter_r = 0x72

abbrev pub letter_s : ℕ
letter_s = 0x73

abbrev pub letter_v : ℕ
letter_v = 0x76

abbrev pub letter_w : ℕ
letter_w = 0x77

-- the numbers of a line's fields, or a line that is not of that shape
pub data Fields : Type 0 where
  wrong : Fields
  right : List ℕ → Fields

-- a field in front of the others
abbrev pub joined : Value → Fields → Fields
joined none fs = wrong
joined (some x) wrong = wrong
joined (some x) (right xs) = right (x ∷ xs)

-- for each count a space and so many digits, and nothing after them (01, The session program)
unfoldable pub fields : List ℕ → List ℕ → Fields
fields [] [] = right []
fields [] (b ∷ l) = wrong
fields (n ∷ ns) [] = wrong
fields (n ∷ ns) (b ∷ l) = cond (eqb b space && leb n (length l)) (joined (digits_spell 0 (take n l)) (fields ns (drop n l))) wrong

-- a line asks for a call, which may be refused, or is of no form in 01
pub data Line : Type 0 where
  asks : Tested Call → Line
  unknown : Line

-- what the fields of a line ask for, if it has its shape
abbrev pub if_right : Fields → (List ℕ → Line) → Line
if_right wrong f = unknown
if_right (right xs) f = f xs

-- the session's window (01, The session program)
abbrev pub session_base : ℕ
session_base = 0

abbrev pub session_size : ℕ
session_size = 0x400

-- l II V, with V 0 or 1 (01, The session program)
abbrev pub level_line : List ℕ → Line
level_line xs =
    let n = get_or xs 0 0 in
    cond (leb (get_or xs 1 0) 1) (asks (input_call n (level n (eqb (get_or xs 1 0) 1)))) unknown

-- p II
abbrev pub poll_line : List ℕ → Line
poll_line xs = let n = get_or xs 0 0 in asks (input_call n (poll n))

-- r W AAAA
abbrev pub read_line : List ℕ → Line
read_line xs = asks (access_call session_base session_size (get_or xs 1 0) (get_or xs 0 0) read)

-- w W AAAA and 16 digits
abbrev pub write_line : List ℕ → Line
write_line xs = asks (access_call session_base session_size (get_or xs 1 0) (get_or xs 0 0) (λ w o. write w o (get_or xs 2 0)))

-- d drains all
abbrev pub drain_line : List ℕ → Line
drain_line xs = asks (pass (drain capacity))

-- what a line asks for, by its letter (01, The session program)
unfoldable pub line_of : List ℕ → Line
line_of [] = unknown
line_of (c ∷ l) =
    cond (eqb c letter_l) (if_right (fields (2 ∷ 1 ∷ []) l) level_line)
    (cond (eqb c letter_p) (if_right (fields (2 ∷ []) l) poll_line)
    (cond (eqb c letter_r) (if_right (fields (1 ∷ 4 ∷ []) l) read_line)
    (cond (eqb c letter_w) (if_right (fields (1 ∷ 4 ∷ 16 ∷ []) l) write_line)
    (cond (eqb c letter_d) (if_right (fields [] l) drain_line) unknown))))

-- ---- answers

-- v and the vector, or - (01, The session program)
abbrev pub vector_said : Value → List ℕ
vector_said none = minus ∷ []
vector_said (some v) = letter_v ∷ space ∷ digits 2 v

-- for each event a space, + or -, and the vector (01, The session program)
abbrev pub events_said : List Event → List ℕ
events_said [] = []
events_said (e ∷ es) = space ∷ cond e.asserted plus minus ∷ (digits 2 e.vector ++ events_said es)

-- what a call that was done prints (01, The session program)
unfoldable pub said : Device → Call → List ℕ
said d (level n b) = vector_said (value d (level n b))
said d (poll n) = vector_said (value d (poll n))
said d (read w o) = equals ∷ space ∷ digits 16 (read_at d.core w o)
said d (write w o v) = letter_o ∷ letter_k ∷ []
said d (drain k) = letter_d ∷ events_said (step d (drain k)).drained

-- the device after a line, and the line's answer without its ending
pub record Played : Type 0 where
  pub after : Device
  pub answer : List ℕ

-- a refusal prints e and its number, any other line ? (01, The session program)
abbrev pub played_line : Device → Line → Played
played_line d (asks (pass c)) = record { after = (step d c).after; answer = said d c }
played_line d (asks (refuse r)) = record { after = d; answer = letter_e ∷ digit (refusal_number r) ∷ [] }
played_line d unknown = record { after = d; answer = question ∷ [] }

-- a line played (01, The session program)
unfoldable pub played : Device → List ℕ → Played
played d l = played_line d (line_of l)

-- the end prints drops and 8 digits (01, The session program)
abbrev pub ending : Device → List ℕ
ending d = letter_d ∷ letter_r ∷ letter_o ∷ letter_p ∷ letter_s ∷ space ∷ digits 8 d.ring.drops

-- ---- the whole

-- one byte more in front of lines: an ending closes a line, any other byte begins the first
abbrev pub in_front : Bool → ℕ → List (List ℕ) → List (List ℕ)
in_front true b ls = [] ∷ ls
in_front false b [] = (b ∷ []) ∷ []
in_front false b (l ∷ ls) = (b ∷ l) ∷ ls

-- the lines of an input; a non-empty last line needs no ending (01, The session program)
unfoldable pub lines_of : List ℕ → List (List ℕ)
lines_of [] = []
lines_of (b ∷ bs) = in_front (eqb b newline) b (lines_of bs)

-- the answers to lines, one line each, and the end's
unfoldable pub answers : Device → List (List ℕ) → List ℕ
answers d [] = ending d ++ (newline ∷ [])
answers d (l ∷ ls) =
    let one = played d l in
    one.answer ++ (newline ∷ answers one.after ls)

-- what the program writes for an input (01, The session program)
unfoldable pub session : List ℕ → List ℕ
session input = answers reset (lines_of input)
