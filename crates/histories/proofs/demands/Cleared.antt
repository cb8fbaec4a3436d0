-- 01, 'Easy to get wrong': a cleared input needs a new raise. Over any calls.
use Rattle.basics.proofs.Prelude.{◌≡◌, ◌&&◌, List, ◌∷◌, ℕ, ◌<◌, arith, only}
use Rattle.rules.{specs.Device.Device, specs.Device.Call, specs.Device.step, specs.History.history, proofs.laws.Counts.tally_append}
use Rattle.histories.specs.{Premises.Along, Demands.Clears, Demands.Unraised, Demands.asserts_of}
use Rattle.histories.proofs.laws.Latches.{quiet_until_raised, clear_silent, call_unlatches}

-- c clears n (CLEAR is written with its bit), and none of the calls after it raises n. Then from c on no assert of n is made, whatever
-- is polled, unmasked or written
pub no_assert_until_raised : (n : ℕ) → n < 64 → (d : Device) (c : Call) (later : List Call) → Clears n d c → Along (Unraised n) (step d c).after later
    → asserts_of n (history d (c ∷ later)).made ≡ 0
unfolding history
no_assert_until_raised n b d c later s p =
    let first = clear_silent n b d c s in
    let rest = (quiet_until_raised n b (step d c).after later p (call_unlatches n b d c s)).silent in
    omega (arith, tally_append (λ m. m.asserted && only n m.input) (step d c).made (history (step d c).after later).made, first, rest)
