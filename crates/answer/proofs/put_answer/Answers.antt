-- `put_answer`: eight zeros, of which the lowest two bytes become the refusal and the presence; the next eight are the value's.
use Rattle.std.proofs.Common.{Option, Some, None, is_some, unwrap_or}
use Rattle.std.specs.Int.{from_bool}
use Rattle.basics.proofs.Prelude.{◌≡◌, refl, ap, ◌∙◌, List, [], ◌∷◌, ◌++◌, ℕ, ◌≤◌, arith, length, drop, set, replicate, put_mid, bytes_of, part, Filled, start, put_this, length_next}
use Rattle.rules.specs.Device.{amount}
use Rattle.calls.specs.Calls.{answer_length, present, answered}
use Rattle.bits.proofs.bytes.Putting.{word_put}
use Rattle.answer.specs.Given.{value_view}
use Rattle.answer.proofs.put_answer.Goals as goal

-- the first two of eight zeros are written over
head_put : (l ys : List ℕ) (n p : ℕ) → answer_length ≤ length l → ys ≡ replicate (length (part 0 8 l)) 0 → Filled (set (set (put_mid 0 8 l ys) 0 n) 1 p) l (n ∷ p ∷ 0 ∷ 0 ∷ 0 ∷ 0 ∷ 0 ∷ 0 ∷ []) 8
head_put l ys n p h e =
    let zeros : ys ≡ replicate 8 0 = e ∙ ap (λ k. replicate k 0) (length_next (start l) 8 (omega arith)) in
    let eight = put_this (start l) 8 (replicate 8 0) ys refl zeros in
    record { is = ap (λ m. set (set m 0 n) 1 p) eight.is; len = refl }

presence : (v : Option ℕ) → from_bool (is_some v) ≡ present (value_view v)
presence None = refl
presence (Some x) = refl

amount_of : (v : Option ℕ) → unwrap_or v 0 ≡ amount (value_view v)
amount_of None = refl
amount_of (Some x) = refl

pub returns : goal.returns
unfolding answered
returns c = let a = c.args in
    let eight = head_put a.answer.now c.put_zeros.new.dst a.number c.from.result c.requires c.put_zeros.ensures in
    let here = c.from.ensures ∙ ap from_bool c.is_some.ensures ∙ presence a.value in
    let value = c.unwrap_or.ensures ∙ amount_of a.value in
    (word_put c.unwrap_or.result c.put_word.new.dst eight c.put_word.ensures).is
    ∙ (λ i. (a.number ∷ here i ∷ 0 ∷ 0 ∷ 0 ∷ 0 ∷ 0 ∷ 0 ∷ bytes_of 8 (value i)) ++ drop answer_length a.answer.now)
