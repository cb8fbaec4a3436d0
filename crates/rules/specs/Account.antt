-- The account of demand 3: what is counted of the events made, of the events read, and of the inputs in service.
use Rattle.std.specs.Prelude.{Bool, cond, not, ◌&&◌, List, [], ◌∷◌, ℕ, ◌+◌, eqb, length, get_or}
use Rattle.basics.specs.Inputs.{inputs}
use Rattle.rules.specs.Lines.{Lines, Made, served_in}
use Rattle.rules.specs.Ring.{Event}
use Rattle.rules.specs.Core.{Core}

-- how many of a list have q
unfoldable pub tally : {A : Type 0} → (A → Bool) → List A → ℕ
tally q [] = 0
tally q (x ∷ xs) = cond (q x) 1 0 + tally q xs

-- how many asserts, and how many deasserts, there are among the events that have q
abbrev pub asserts_with : (Made → Bool) → List Made → ℕ
asserts_with q ms = tally (λ m. m.asserted && q m) ms

abbrev pub deasserts_with : (Made → Bool) → List Made → ℕ
deasserts_with q ms = tally (λ m. not m.asserted && q m) ms

-- how many of the inputs that have p are in service, masked or not
abbrev pub served_with : (ℕ → Bool) → Lines → ℕ
served_with p l = length (inputs (served_in p l))

-- an event of the vector v; an input that carries v in the vector bytes vs
abbrev pub has_vector : ℕ → Made → Bool
has_vector v m = eqb m.vector v

abbrev pub carries : ℕ → List ℕ → ℕ → Bool
carries v vs n = eqb (get_or vs n 0) v

-- asserts made of the vector v, and deasserts: returned and offered alike, kept or dropped (00, demand 3)
abbrev pub asserts : ℕ → List Made → ℕ
asserts v = asserts_with (has_vector v)

abbrev pub deasserts : ℕ → List Made → ℕ
deasserts v = deasserts_with (has_vector v)

-- the number of in-service inputs that now carry v (00, demand 3)
abbrev pub carrying : ℕ → Core → ℕ
carrying v c = served_with (carries v c.vectors) c.lines

-- how many asserts of the vector v there are among these events, and how many deasserts
abbrev pub asserts_among : ℕ → List Event → ℕ
asserts_among v es = tally (λ e. e.asserted && eqb e.vector v) es

abbrev pub deasserts_among : ℕ → List Event → ℕ
deasserts_among v es = tally (λ e. not e.asserted && eqb e.vector v) es
