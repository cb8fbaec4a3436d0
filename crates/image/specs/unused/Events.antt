-- What the tests of a ring's events look at: pairs, numbers, and the bits that any of them has.
use Rattle.std.specs.Prelude.{ℕ, zero, suc, ◌*◌, Bool, true, cond, ◌&&◌, List, [], ◌∷◌, drop, ◌==◌, bit_or, nat_le}
use Rattle.images.specs.Form.{Form, numbers, has, read}
use Rattle.images.specs.Image.{register_at}

-- the flags of the first n pairs are 0 or 1; all bytes are zero; of pairs the first n of which wait both rules hold
abbrev pub flags_good : ℕ → List ℕ → Bool
flags_good zero l = true
flags_good (suc n) [] = true
flags_good (suc n) (v ∷ []) = true
flags_good (suc n) (v ∷ f ∷ l) = nat_le f 1 && flags_good n l

abbrev pub all_zero : List ℕ → Bool
all_zero [] = true
all_zero (x ∷ l) = x == 0 && all_zero l

abbrev pub pairs_good : ℕ → List ℕ → Bool
pairs_good n l = flags_good n l && all_zero (drop (2 * n) l)

-- of numbers the first n of which wait the others are zero, if the form has numbers
abbrev pub numbers_good : Form → ℕ → List ℕ → Bool
numbers_good f n l = cond (has f numbers) (all_zero (drop (2 * n) (read f l numbers))) true

-- the bits that any of the first k words has
abbrev pub bits_of : ℕ → List ℕ → ℕ
bits_of zero l = 0
bits_of (suc k) l = bit_or (bits_of k l) (register_at (8 * k) l)

-- where the last word of sixteen things of two bytes begins
abbrev pub last_word : ℕ
last_word = 24
