-- `counted`: the count and a zero byte, so many of the numbers from 0 on, and zeros behind them.
use Rattle.basics.proofs.Prelude.{◌≡◌, refl, sym, ap, ◌∙◌, List, [], ◌∷◌, ◌++◌, ℕ, zero, suc, ◌+◌, ◌-◌, ◌*◌, ◌/◌, ◌%◌, ◌<◌, ◌≤◌, arith, length, set, replicate, set_at, written}
use Rattle.rules.specs.{Ring.capacity, Device.up_from, Numbering.number_twos}
use Rattle.images.{specs.Image.sixteen, specs.Image.number_body, proofs.laws.Saved.length_up_from, proofs.laws.Twos.length_written, proofs.laws.Twos.written_snoc}
use Rattle.pch_pic_convert.proofs.load_numbers.counted.Invariants.{sofar}
use Rattle.pch_pic_convert.proofs.load_numbers.counted.Goals as goal

up_snoc : (a k : ℕ) → up_from a (k + 1) ≡ up_from a k ++ ((a + k) ∷ [])
unfolding up_from
up_snoc a zero = let s : a ≡ a + 0 = omega arith in ap (λ (n : ℕ). n ∷ []) s
up_snoc a (suc k) =
    let n : suc k + 1 ≡ suc (k + 1) = omega arith in
    let s : suc a + k ≡ a + suc k = omega arith in
    ap (up_from a) n ∙ ap (λ (l : List ℕ). a ∷ l) (up_snoc (suc a) k ∙ ap (λ (m : ℕ). up_from (suc a) k ++ (m ∷ [])) s)

-- one number more: its low byte is stored, and its high byte is zero
one_more : (n i : ℕ) → i < capacity → set (sofar n i) (2 + 2 * i) i ≡ sofar n (i + 1)
one_more n i h =
    let xs = up_from 0 i in
    let many = length_up_from 0 i in
    let zeros : ℕ → List ℕ = λ k. replicate k 0 in
    let m = 2 * capacity - 2 * (i + 1) in
    let room : 2 * capacity - 2 * length xs ≡ suc (suc m) = omega (arith, many) in
    let left : m ≡ 2 * capacity - 2 * length (up_from 0 (i + 1)) = omega (arith, length_up_from 0 (i + 1)) in
    let at : 2 + 2 * i ≡ suc (suc (2 * i)) = omega arith in
    let low : i ≡ i % 256 = omega arith in
    let high : 0 ≡ i / 256 % 256 = omega arith in
    let last : i ≡ 0 + i = omega arith in
    ap (λ (k : ℕ). set (sofar n i) k i) at
    ∙ ap (λ (l : List ℕ). n ∷ 0 ∷ l)
    (ap (λ k. set (written number_twos xs ++ zeros k) (2 * i) i) room ∙ set_at (written number_twos xs) 0 (0 ∷ zeros m) i (2 * i) (length_written number_twos xs ∙ ap (λ k. 2 * k) many)
    ∙ (λ t. written number_twos xs ++ (low t ∷ high t ∷ zeros m)) ∙ sym (written_snoc number_twos xs i (zeros m)) ∙ ap (λ (ys : List ℕ). written number_twos ys ++ zeros m) (ap (λ (k : ℕ). up_from 0 i ++ (k ∷ [])) last ∙ sym (up_snoc 0 i))
    ∙ ap (λ k. written number_twos (up_from 0 (i + 1)) ++ zeros k) left)

pub loop-i-init : goal.loop-i-init
loop-i-init c = unfold up_from in refl

pub loop-i-preserved : goal.loop-i-preserved
loop-i-preserved c = let l = c.loop-i in ap (λ (b : List ℕ). set b (2 + 2 * l.i) l.i) l.invariant ∙ one_more _ l.i (omega arith)

pub returns : goal.returns
returns c = unfold number_body in let l = c.loop-i in
    let n = c.args.count in
    let all : l.i ≡ n = omega arith in
    let small : n ≤ 16 = c.requires in
    let low : n ≡ n % 256 = omega (arith, small) in
    let high : 0 ≡ n / 256 % 256 = omega (arith, small) in
    l.invariant ∙ (λ t. low t ∷ high t ∷ sixteen number_twos (up_from 0 (all t)))
