-- The fields of a line by their places, and the line's letter before them.
use Rattle.basics.proofs.Prelude.{◌≡◌, refl, sym, ap, ◌∙◌, Bool, true, false, cond, ◌&&◌, List, [], ◌∷◌, ℕ, suc, ◌+◌, ◌<◌, ◌≤◌, arith, eqb, leb, length, take, drop, get_or, drop_of_length-le, drop-drop, next}
use Rattle.rules.specs.Device.{none}
use Rattle.sessions.specs.Session.{space, letter_l, letter_p, letter_r, letter_w, letter_d, digits_spell, Fields, wrong, right, joined, fields, Line, unknown, if_right, level_line, poll_line, read_line, write_line, drain_line, line_of}
use Rattle.session.specs.{hex.Reads.field_of, request.Requests.request_view, declared.request.Request.Request}
use Rattle.std.specs.Prelude.{Option, None}

-- ---- a run of fields

-- the fields from a place on, each behind the one before
abbrev pub fields_at : List ℕ → ℕ → List ℕ → Fields
fields_at line at [] = fields [] (drop at line)
fields_at line at (n ∷ ns) = joined (field_of n (drop at line)) (fields_at line (at + 1 + n) ns)

pub first_field : (n : ℕ) (ns l : List ℕ) → fields (n ∷ ns) l ≡ joined (field_of n l) (fields ns (drop (1 + n) l))
unfolding fields
first_field n ns [] = refl
first_field n ns (b ∷ l) =
    let s : 1 + n ≡ suc n = omega arith in
    rw s (go (eqb b space && leb n (length l)))
  where
    go : (t : Bool) → cond t (joined (digits_spell 0 (take n l)) (fields ns (drop n l))) wrong ≡ joined (cond t (digits_spell 0 (take n l)) none) (fields ns (drop n l))
    go true = refl
    go false = refl

pub fields_at_lem : (line : List ℕ) (at : ℕ) (ns : List ℕ) → fields ns (drop at line) ≡ fields_at line at ns
fields_at_lem line at [] = refl
fields_at_lem line at (n ∷ ns) =
    let s : at + (1 + n) ≡ at + 1 + n = omega arith in
    first_field n ns (drop at line)
    ∙ ap (joined (field_of n (drop at line))) (ap (fields ns) (drop-drop (1 + n) at line ∙ ap (λ k. drop k line) s) ∙ fields_at_lem line (at + 1 + n) ns)

-- nothing, or something, stands behind the last
module _ (line : List ℕ) (at : ℕ) where
  pub ends : length line ≤ at → fields [] (drop at line) ≡ right []
  unfolding fields
  ends h = ap (fields []) (drop_of_length-le line h)

  pub goes_on : at < length line → fields [] (drop at line) ≡ wrong
  unfolding fields
  goes_on h = ap (fields []) (next line at 0 h)

-- what a line's fields ask for
pub asked : (line ns : List ℕ) (f : List ℕ → Line) {fs : Fields} → fields_at line 1 ns ≡ fs → if_right fs f ≡ if_right (fields ns (drop 1 line)) f
asked line ns f e = ap (λ (fs : Fields). if_right fs f) (sym e ∙ sym (fields_at_lem line 1 ns))

-- a line that asks for nothing
pub none_asked : (line ns : List ℕ) (f : List ℕ → Line) {q : Option Request} → q ≡ None → fields_at line 1 ns ≡ wrong → request_view q ≡ if_right (fields ns (drop 1 line)) f
none_asked line ns f e h = ap request_view e ∙ asked line ns f h

-- ---- the letter

-- what a line asks for, by its letter and what stands behind it
abbrev by_letter : ℕ → List ℕ → Line
by_letter c l =
    cond (eqb c letter_l) (if_right (fields (2 ∷ 1 ∷ []) l) level_line)
    (cond (eqb c letter_p) (if_right (fields (2 ∷ []) l) poll_line)
    (cond (eqb c letter_r) (if_right (fields (1 ∷ 4 ∷ []) l) read_line)
    (cond (eqb c letter_w) (if_right (fields (1 ∷ 4 ∷ 16 ∷ []) l) write_line)
    (cond (eqb c letter_d) (if_right (fields [] l) drain_line) unknown))))

line_letter : (l : List ℕ) → 0 < length l → line_of l ≡ by_letter (get_or l 0 0) (drop 1 l)
unfolding line_of
line_letter [] h = absurd (omega arith)
line_letter (c ∷ l) h = refl

pub by_letter_lem : (l : List ℕ) (c : ℕ) → 0 < length l → get_or l 0 0 ≡ c → by_letter c (drop 1 l) ≡ line_of l
by_letter_lem l c h e = ap (λ (x : ℕ). by_letter x (drop 1 l)) (sym e) ∙ sym (line_letter l h)

pub line_empty : (l : List ℕ) → length l ≡ 0 → line_of l ≡ unknown
unfolding line_of
line_empty [] h = refl
line_empty (c ∷ l) h = absurd (omega arith)
