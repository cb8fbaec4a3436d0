-- `number_at`: the part that is handed on has the two bytes, and what they spell is a number of 16 bits.
use Rattle.basics.proofs.Prelude.{◌≡◌, sym, ap, ◌∙◌, subst, ◌+◌, ◌-◌, ◌<◌, ◌^◌, arith, number_of, part, part_below, rules}
use Rattle.fields.proofs.number_bytes.number_at.Goals as goal
use Rattle.fields.proofs.number_bytes.number_at.Goals.{After-number}

two : (c : After-number) → c.number.result ≡ number_of (part c.args.at 2 c.args.image.now)
two c =
    let a = c.args in
    let w : a.at + 2 - a.at ≡ 2 = omega arith in
    c.number.ensures ∙ ap (λ k. number_of (part a.at k a.image.now)) w

pub overflow_cast-result : goal.overflow_cast-result
overflow_cast-result c = let b = part_below c.args.image.now c.args.at 2 (λ i. search rules) c.requires in
    record { fits = subst (λ n. n < 2 ^ 16) (sym (two (goal.at.overflow_cast-result c).After-number)) b }
