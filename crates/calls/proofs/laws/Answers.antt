-- What a host reads where a call has written: of an answer area whether there is a value, and the value; of an event buffer the events drained.
use Rattle.basics.proofs.Prelude.{◌≡◌, refl, ap, ◌∙◌, true, false, List, [], ◌∷◌, ◌++◌, ℕ, suc, ◌+◌, ◌*◌, ◌^◌, ◌<◌, ◌≤◌, arith, length, take, drop, length-take-le, drop_at, number_of_bytes_of, Each}
use Rattle.rules.specs.{Ring.Event, Device.none, Device.some, Numbering.Numbered, Numbering.with_numbers, Numbering.drained_length, Numbering.quads_of, Numbering.quads_in, Numbering.events_in}
use Rattle.calls.specs.Calls.{answered, present_in, value_in, written}
use Rattle.images.proofs.laws.Twos.{flag_of}

module _ (number : ℕ) (a : List ℕ) where
  pub none_read : present_in (answered number none a) ≡ false
  unfolding answered
  none_read = refl

  pub some_read : (v : ℕ) → present_in (answered number (some v) a) ≡ true
  unfolding answered
  some_read v = refl

  pub value_read : (v : ℕ) → v < 2 ^ 64 → value_in (answered number (some v) a) ≡ v
  unfolding answered
  value_read v h = number_of_bytes_of 8 v h

-- ---- drained events

-- with their numbers they are as many, and without them the same
pub length_with : (es : List Event) (ns : List ℕ) → length es ≡ length ns → length (with_numbers es ns) ≡ length es
length_with [] ns h = refl
length_with (e ∷ es) [] h = absurd (omega arith)
length_with (e ∷ es) (n ∷ ns) h = ap suc (length_with es ns (omega arith))

pub events_with : (es : List Event) (ns : List ℕ) → length es ≡ length ns → events_in (with_numbers es ns) ≡ es
events_with [] ns h = refl
events_with (e ∷ es) [] h = absurd (omega arith)
events_with (e ∷ es) (n ∷ ns) h = ap (λ l. e ∷ l) (events_with es ns (omega arith))

pub length_quads_of : (xs : List Numbered) → length (quads_of xs) ≡ drained_length * length xs
length_quads_of [] = refl
length_quads_of (x ∷ xs) = omega (arith, length_quads_of xs)

-- what four bytes each spell: the events themselves, and the numbers where these have 16 bits
quads_back : (xs : List Numbered) (rest : List ℕ) → Each (λ x. x.number < 2 ^ 16) xs → quads_in (length xs) (quads_of xs ++ rest) ≡ xs
quads_back [] rest h = refl
quads_back (x ∷ xs) rest h =
    let same = number_of_bytes_of 2 x.number h.0 in
    (λ i. record { event = record { vector = x.event.vector; asserted = flag_of x.event.asserted i }; number = same i } ∷ quads_back xs rest h.1 i)

events_back : (xs : List Numbered) (rest : List ℕ) → events_in (quads_in (length xs) (quads_of xs ++ rest)) ≡ events_in xs
events_back [] rest = refl
events_back (x ∷ xs) rest = (λ i. record { vector = x.event.vector; asserted = flag_of x.event.asserted i } ∷ events_back xs rest i)

-- a drain writes its events from its place on
module _ (xs : List Numbered) (buffer : List ℕ) (place : ℕ) (h : place ≤ length buffer) where
  from_place : drop place (written buffer place xs) ≡ quads_of xs ++ drop (place + drained_length * length xs) buffer
  unfolding written
  from_place = drop_at (take place buffer) (quads_of xs ++ drop (place + drained_length * length xs) buffer) place (length-take-le place buffer h)

  pub quads_read : Each (λ x. x.number < 2 ^ 16) xs → quads_in (length xs) (drop place (written buffer place xs)) ≡ xs
  quads_read s = ap (quads_in (length xs)) from_place ∙ quads_back xs (drop (place + drained_length * length xs) buffer) s

  pub events_read : events_in (quads_in (length xs) (drop place (written buffer place xs))) ≡ events_in xs
  events_read = ap (λ l. events_in (quads_in (length xs) l)) from_place ∙ events_back xs (drop (place + drained_length * length xs) buffer)
