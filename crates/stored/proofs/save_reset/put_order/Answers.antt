-- `put_order`: what is written and then n, n + 1, .. is all of 0, 1, ..
use Rattle.basics.proofs.Prelude.{◌≡◌, ap, ◌∙◌, [], ◌∷◌, ℕ, suc, ◌+◌, ◌-◌, ◌≤◌, ◌<◌, add-one, arith, length, length-set, turn, done}
use Rattle.rules.specs.Device.{up_from}
use Rattle.stored.proofs.save_reset.put_order.Goals as goal

-- the next number, and those after it
next_up : (i n : ℕ) → i < n → up_from i (n - i) ≡ i ∷ up_from (i + 1) (n - (i + 1))
unfolding up_from
next_up i n h =
    let s : n - i ≡ suc (n - (i + 1)) = omega arith in
    rw (s, add-one i)

none_left_lem : (i n : ℕ) → n ≤ i → up_from i (n - i) ≡ []
unfolding up_from
none_left_lem i n h = let z : n - i ≡ 0 = omega arith in rw z

pub loop-n-preserved : goal.loop-n-preserved
loop-n-preserved c = let l = c.loop-n in simp length-set (turn l.dst _ l.n l.n (omega arith) l.invariant (next_up l.n (length l.dst) (omega arith)))

pub returns : goal.returns
returns c = let l = c.loop-n in
    done l.dst _ l.n (omega arith) (none_left_lem l.n (length l.dst) (omega arith)) l.invariant ∙ ap (up_from 0) l.auto.dst
