-- `ring_of`: after i turns the first i slots hold the first i events; of all sixteen the first `len` wait.
use Rattle.stored.proofs.pairs.{Slots.SlotsFilled}
use Rattle.stored.proofs.pairs.ring_of.Given as goal

abbrev pub invariant-loop-i : goal.invariant-loop-i
invariant-loop-i l = SlotsFilled l.pairs l.output_vectors l.output_asserted l.i
