-- An input split into lines: what an ending does, what any other byte does, and why the front of a long line is enough.
use Rattle.basics.proofs.Prelude.{◌≡◌, refl, sym, ap, ◌∙◌, Bool, true, false, cond, List, [], ◌∷◌, ◌++◌, append-nil, ℕ, ◌+◌, ◌<◌, ◌≤◌, arith, eqb, length, drop, length-append, length-drop}
use Rattle.rules.specs.Device.{Device, Value, none, some}
use Rattle.sessions.specs.Session.{newline, letter_l, letter_p, letter_r, letter_w, letter_d, wrong, joined, fields, Line, unknown, if_right, level_line, poll_line, read_line, write_line, drain_line, line_of, played_line, played, in_front, lines_of, answers}
use Rattle.session.specs.{hex.Reads.field_of, Feeds.Unended}
use Rattle.session.proofs.request.Fields.{first_field, goes_on}

-- ---- a line that goes on

pub unended_more : (l : List ℕ) (b : ℕ) → Unended l → eqb b newline ≡ false → Unended (l ++ (b ∷ []))
unended_more [] b h e = (e, tt)
unended_more (x ∷ l) b h e = (h.0, unended_more l b h.1 e)

-- an ending closes it
pub lines_ended : (l rest : List ℕ) → Unended l → lines_of (l ++ (newline ∷ rest)) ≡ l ∷ lines_of rest
unfolding lines_of
lines_ended [] rest h = refl
lines_ended (b ∷ l) rest h = (λ i. in_front (h.0 i) b (lines_ended l rest h.1 i))

-- ---- what follows it

-- the rest of the first line, and the other lines
abbrev head_of : List ℕ → List ℕ
head_of [] = []
head_of (b ∷ l) = cond (eqb b newline) [] (b ∷ head_of l)

abbrev tail_of : List ℕ → List (List ℕ)
tail_of [] = []
tail_of (b ∷ l) = cond (eqb b newline) (lines_of l) (tail_of l)

in_front_lem : (b : ℕ) (rest : List ℕ) → in_front false b (lines_of rest) ≡ (b ∷ head_of rest) ∷ tail_of rest
unfolding lines_of
in_front_lem b [] = refl
in_front_lem b (c ∷ rest) = go (eqb c newline) (in_front_lem c rest)
  where
    go : (t : Bool) → in_front false c (lines_of rest) ≡ (c ∷ head_of rest) ∷ tail_of rest
        → in_front false b (in_front t c (lines_of rest)) ≡ (b ∷ cond t [] (c ∷ head_of rest)) ∷ cond t (lines_of rest) (tail_of rest)
    go true e = refl
    go false e = ap (in_front false b) e

head_on : (l rest : List ℕ) → Unended l → head_of (l ++ rest) ≡ l ++ head_of rest
head_on [] rest h = refl
head_on (b ∷ l) rest h = (λ i. cond (h.0 i) [] (b ∷ head_on l rest h.1 i))

tail_on : (l rest : List ℕ) → Unended l → tail_of (l ++ rest) ≡ tail_of rest
tail_on [] rest h = refl
tail_on (b ∷ l) rest h = (λ i. cond (h.0 i) (lines_of (l ++ rest)) (tail_on l rest h.1 i))

lines_on : (l rest : List ℕ) → Unended l → 0 < length l → lines_of (l ++ rest) ≡ (l ++ head_of rest) ∷ tail_of rest
unfolding lines_of
lines_on [] rest h k = absurd (omega arith)
lines_on (b ∷ l) rest h k = (λ i. in_front (h.0 i) b (lines_of (l ++ rest))) ∙ in_front_lem b (l ++ rest) ∙ (λ i. (b ∷ head_on l rest h.1 i) ∷ tail_on l rest h.1 i)

-- the input ends there
pub lines_last : (l : List ℕ) → Unended l → 0 < length l → lines_of l ≡ l ∷ []
lines_last l h k = ap lines_of (sym (append-nil l)) ∙ lines_on l [] h k ∙ ap (λ (m : List ℕ). m ∷ []) (append-nil l)

-- ---- a long line

abbrev total : List ℕ → ℕ
total [] = 0
total (n ∷ ns) = 1 + n + total ns

-- more bytes than the fields take
fields_long : (ns l : List ℕ) → total ns < length l → fields ns l ≡ wrong
fields_long [] l h = goes_on l 0 h
fields_long (n ∷ ns) l h =
    first_field n ns l ∙ ap (joined (field_of n l)) (fields_long ns (drop (1 + n) l) (simp length-drop (omega arith))) ∙ lost (field_of n l)
  where
    lost : (v : Value) → joined v wrong ≡ wrong
    lost none = refl
    lost (some x) = refl

-- the longest line that asks for something has 25 bytes
line_long : (l : List ℕ) → 25 < length l → line_of l ≡ unknown
unfolding line_of
line_long [] h = absurd (omega arith)
line_long (c ∷ l) h =
    (λ i.
    cond (eqb c letter_l) (if_right (fields_long (2 ∷ 1 ∷ []) l (omega arith) i) level_line)
    (cond (eqb c letter_p) (if_right (fields_long (2 ∷ []) l (omega arith) i) poll_line)
    (cond (eqb c letter_r) (if_right (fields_long (1 ∷ 4 ∷ []) l (omega arith) i) read_line)
    (cond (eqb c letter_w) (if_right (fields_long (1 ∷ 4 ∷ 16 ∷ []) l (omega arith) i) write_line)
    (cond (eqb c letter_d) (if_right (fields_long [] l (omega arith) i) drain_line) unknown)))))
    ∙ same (eqb c letter_l) (same (eqb c letter_p) (same (eqb c letter_r) (same (eqb c letter_w) (same (eqb c letter_d) refl))))
  where
    same : (t : Bool) {x : Line} → x ≡ unknown → cond t unknown x ≡ unknown
    same true e = refl
    same false e = e

-- lines that ask for the same are answered alike
answers_alike : (d : Device) (x y : List ℕ) (ls : List (List ℕ)) → line_of x ≡ line_of y → answers d (x ∷ ls) ≡ answers d (y ∷ ls)
unfolding answers played
answers_alike d x y ls e = ap (λ (t : Line). (played_line d t).answer ++ (newline ∷ answers (played_line d t).after ls)) e

-- a byte behind a line that is long already changes no answer
pub byte_lost : (d : Device) (l rest : List ℕ) (b : ℕ) → Unended l → 32 ≤ length l → eqb b newline ≡ false
    → answers d (lines_of (l ++ (b ∷ rest))) ≡ answers d (lines_of (l ++ rest))
byte_lost d l rest b h k e =
    ap (answers d) (lines_on l (b ∷ rest) h (omega arith) ∙ (λ i. (l ++ cond (e i) [] (b ∷ head_of rest)) ∷ cond (e i) (lines_of rest) (tail_of rest)))
    ∙ answers_alike d (l ++ (b ∷ head_of rest)) (l ++ head_of rest) (tail_of rest) (line_long _ (simp length-append (omega arith)) ∙ sym (line_long _ (simp length-append (omega arith))))
    ∙ ap (answers d) (sym (lines_on l rest h (omega arith)))
