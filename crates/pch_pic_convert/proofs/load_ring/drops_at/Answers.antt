-- `drops_at`: the part that is handed on has the four bytes, and what they spell is a number of 32 bits.
use Rattle.basics.proofs.Prelude.{◌≡◌, sym, ap, ◌∙◌, subst, ◌+◌, ◌-◌, ◌<◌, ◌^◌, arith, number_of, part, part_below, rules}
use Rattle.pch_pic_convert.proofs.load_ring.drops_at.Goals as goal
use Rattle.pch_pic_convert.proofs.load_ring.drops_at.Goals.{After-number}

four : (c : After-number) → c.number.result ≡ number_of (part c.args.at 4 c.args.image.now)
four c =
    let a = c.args in
    let w : a.at + 4 - a.at ≡ 4 = omega arith in
    c.number.ensures ∙ ap (λ k. number_of (part a.at k a.image.now)) w

pub overflow_cast-result : goal.overflow_cast-result
overflow_cast-result c = let b = part_below c.args.image.now c.args.at 4 (λ i. search rules) c.requires in
    record { fits = subst (λ n. n < 2 ^ 32) (sym (four c)) b }
