-- `number`: after i bytes x is the number that they spell. Moved up by 8 * i the next byte stands above them, so that `or` is the sum.
use Rattle.basics.proofs.Prelude.{◌≡◌, refl, sym, ap, ◌∙◌, List, ℕ, zero, suc, ◌+◌, ◌*◌, ◌%◌, ◌^◌, ◌≤◌, ◌<◌, pow-succ', arith, bit_or, or_shifted_r, length, take, get_or, pow-add, shl_exact, length-take-le, number_of, Bytes, bytes_take, number_of_below, number_of_next}
use Rattle.bits.proofs.bytes.number.Goals as goal

-- a byte put above those that are read
eights : (i : ℕ) → 2 ^ (8 * i) ≡ 256 ^ i
eights zero = refl
eights (suc i) =
    let s : 8 * suc i ≡ 8 + 8 * i = omega arith in
    ap (λ n. 2 ^ n) s ∙ pow-add 2 8 (8 * i) ∙ ap (λ n. 256 * n) (eights i) ∙ sym (pow-succ' 256 i)

put_above : (l : List ℕ) (i : ℕ) {x w : ℕ} → Bytes l → length l ≤ 8 → i < length l → x ≡ number_of (take i l) → w ≡ get_or l i 0
    → bit_or x (w * 2 ^ (8 * i) % 2 ^ 64) ≡ number_of (take (i + 1) l)
put_above l i {x} {w} b h k e f =
    let byte : w < 256 = omega (arith, b i) in
    let below = rw (length-take-le i l (omega arith)) at (number_of_below (take i l) (bytes_take l i b)) in
    let room : x < 2 ^ (8 * i) = omega (arith, eights i, below) in
    ap (bit_or x) (shl_exact 8 (8 * i) 64 byte (omega arith)) ∙ or_shifted_r w (8 * i) x room ∙ (λ j. f j * eights i j + e j)
    ∙ omega (arith, number_of_next l i k)

pub loop-i-preserved : goal.loop-i-preserved
loop-i-preserved c = let l = c.loop-i in put_above c.args.b.now l.i (λ k. omega (arith, c.type_inv.b k)) (omega arith) (omega arith) l.invariant c.from.ensures
