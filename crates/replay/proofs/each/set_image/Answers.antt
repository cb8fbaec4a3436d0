-- `set_image` is right since the recorded bytes and the zeros fill the buffer.
use Rattle.basics.proofs.Prelude.{refl, ap, ◌∙◌, ℕ, arith, take, replicate, length-take-le, start, put_this, length_next, filled}
use Rattle.replay.proofs.each.set_image.Goals as goal

pub returns : goal.returns
returns c = let z = c in
    let p = z in
    let s = p in
    let b = s.args.bytes.now in
    let f = put_this (start s.args.image.now) 290 (take 290 b) p.copy.new.dst (length-take-le 290 b (omega (arith, s.told-bytes))) p.copy.ensures in
    let g = put_this f 10 (replicate 10 0) z.put_zeros.new.dst refl (z.put_zeros.ensures ∙ ap (λ (n : ℕ). replicate n 0) (length_next f 10 (omega (arith, s.told-image)))) in
    filled g s.told-image
