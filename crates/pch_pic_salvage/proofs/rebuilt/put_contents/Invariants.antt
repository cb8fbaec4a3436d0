-- `put_contents`: the number of blocks, and an entry for each that is kept.
use Rattle.pch_pic_salvage.proofs.rebuilt.Rounds.{Listing}
use Rattle.pch_pic_salvage.proofs.rebuilt.put_contents.Given as goal

abbrev pub invariant-loop-b : goal.invariant-loop-b
invariant-loop-b l = Listing l.trace l.blocks l.initial.out l.b l.out l.at l.place
