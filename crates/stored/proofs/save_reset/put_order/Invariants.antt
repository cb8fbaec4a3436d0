-- `put_order`: what is written and then n, n + 1, .. is all of 0, 1, ..
use Rattle.basics.proofs.Prelude.{◌≡◌, ◌++◌, ◌-◌, length, take}
use Rattle.rules.specs.Device.{up_from}
use Rattle.stored.proofs.save_reset.put_order.Given as goal

abbrev pub invariant-loop-n : goal.invariant-loop-n
invariant-loop-n l = take l.n l.dst ++ up_from l.n (length l.dst - l.n) ≡ up_from 0 (length l.dst)
