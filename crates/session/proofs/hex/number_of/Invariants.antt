-- `number_of` is right since what is left of the text, read on from the value so far, is the number of the whole.
use Rattle.session.proofs.hex.{Digits.Reading}
use Rattle.session.proofs.hex.number_of.Given as goal

abbrev pub invariant-loop-byte : goal.invariant-loop-byte
invariant-loop-byte l = Reading l.text l.value l.byte-index
