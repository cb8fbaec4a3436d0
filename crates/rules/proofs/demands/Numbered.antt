-- What a single event does to the numbers (02, C-19): it takes the next number, whether it is returned, kept or dropped, and one that is kept waits with its
-- number behind the others. A returned vector has its number in bits 16 to 31 of the value.
use Rattle.basics.proofs.Prelude.{◌≡◌, refl, sym, ap, ◌∙◌, true, false, List, [], ◌∷◌, ◌++◌, map, ℕ, ◌+◌, ◌*◌, ◌/◌, ◌%◌, ◌^◌, ◌<◌, ◌≤◌, min, arith, length, take, drop, length-take, lt-ltb, le-ltb}
use Rattle.rules.specs.{Lines.Made, Ring.Event, Ring.drawn, Core.turns, Device.Device, Device.drain, Device.some, Device.acts_of, Device.step}
use Rattle.rules.specs.Numbering.{Numbers, WellNumbered, following, takes, takes_all, returned_with, with_numbers, quads_of, numbers_after, drained_with}
use Rattle.rules.proofs.laws.Steps.{drain_drained}

-- ---- numbers

-- after each number comes the one that is one higher, and after 65,535 comes 0
pub one_higher : (n : ℕ) → n < 65535 → following n ≡ n + 1
one_higher n h = omega arith

pub after_65535_comes_0 : following 65535 ≡ 0
after_65535_comes_0 = refl

-- ---- one event

-- returned, it takes a number, and none waits with it
pub returned_takes_a_number : (s : Numbers) → takes s false ≡ record { next = following s.next; waiting = s.waiting }
returned_takes_a_number s = refl

-- offered where fewer than 16 wait, it takes a number and waits with it behind the others
pub kept_waits_with_its_number : (s : Numbers) → length s.waiting < 16 → takes s true ≡ record { next = following s.next; waiting = s.waiting ++ (s.next ∷ []) }
kept_waits_with_its_number s h = rw (lt-ltb (length s.waiting) 16 h)

-- offered where 16 wait, it takes a number and is gone with it
pub dropped_takes_a_number : (s : Numbers) → 16 ≤ length s.waiting → takes s true ≡ record { next = following s.next; waiting = s.waiting }
dropped_takes_a_number s h = rw (le-ltb (length s.waiting) 16 h)

-- ---- in a value

-- a returned event's value is its vector and, at bit 16, the number that it takes
pub number_in_the_value : (s : Numbers) (m : Made) (ms : List Made) → m.offered ≡ false → returned_with s (m ∷ ms) ≡ some (m.vector + 65536 * s.next)
number_in_the_value s m ms o = rw o

-- so that a host has both: the vector, a byte, and the number of 16 bits
pub vector_and_number : (vector number : ℕ) → vector < 256 → number < 65536
    → let v = vector + 65536 * number in
    (v % 256 ≡ vector) × (v / 2 ^ 16 % 2 ^ 16 ≡ number) × (v < 2 ^ 32)
vector_and_number vector number h k = (omega arith, omega arith, omega arith)

-- ---- a drain

pub numbers_with : (es : List Event) (ns : List ℕ) → length es ≡ length ns → map (λ x. x.number) (with_numbers es ns) ≡ ns
numbers_with [] [] h = refl
numbers_with [] (n ∷ ns) h = absurd (omega arith)
numbers_with (e ∷ es) [] h = absurd (omega arith)
numbers_with (e ∷ es) (n ∷ ns) h = ap (λ l. n ∷ l) (numbers_with es ns (omega arith))

drawn_many : (d : Device) (k : ℕ) → length (drawn d.ring k).drained ≡ length (take k d.ring.waiting)
unfolding drawn
drawn_many d k = refl

-- it hands out the oldest numbers, one with each event that it drains, and the others wait on; the next number stays
pub drain_takes_the_oldest : (d : Device) (s : Numbers) → WellNumbered d s → (k : ℕ)
    → (map (λ x. x.number) (drained_with d s (drain k)) ≡ take k s.waiting) × (numbers_after d s (drain k) ≡ record { next = s.next; waiting = drop k s.waiting })
unfolding drained_with numbers_after takes_all step acts_of turns
drain_takes_the_oldest d s v k =
    let many = ap length (drain_drained d k) ∙ drawn_many d k ∙ length-take k d.ring.waiting ∙ ap (min k) (sym v.waiting) ∙ sym (length-take k s.waiting) in
    (numbers_with (step d (drain k)).drained (take k s.waiting) many, refl)

-- ---- the bytes, as 02 has them

-- vector 5, asserted, number 258: vector, flag, number with the little end first
pub drained_bytes : quads_of (record { event = record { vector = 5; asserted = true }; number = 258 } ∷ []) ≡ 5 ∷ 1 ∷ 2 ∷ 1 ∷ []
drained_bytes = refl
