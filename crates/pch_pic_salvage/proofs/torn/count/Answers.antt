-- `count`: those counted so far, and those among the blocks that are left.
use Rattle.basics.proofs.Prelude.{arith}
use Rattle.pch_pic_salvage.proofs.torn.Rounds.{lies, seen, as_counted, all_counted, left_below, all_below_lem, kept_counted, torn_passed, none_bad, some_bad}
use Rattle.pch_pic_salvage.proofs.torn.count.Goals as goal
use Rattle.pch_pic_salvage.proofs.torn.count.Goals.{then-is_none, else-is_none}

pub look-block-requires : goal.look-block-requires
look-block-requires c = seen c.args.trace.now c.requires.lists c.loop-b.b (omega arith) c.args.bads.now c.requires.found

pub overflow_add-left : goal.overflow_add-left
overflow_add-left c = let l = c.loop-b in omega (arith, left_below c.args.trace.now c.requires.lists l.b (omega arith) l.left l.all l.invariant)

pub overflow_add-all : goal.overflow_add-all
overflow_add-all c = let l = c.loop-b in
    omega (
      arith,
      all_below_lem c.args.trace.now c.requires.lists l.b (omega arith) l.left l.all l.invariant,
      (lies c.args.trace.now c.requires.lists l.b (omega arith)).few,
      c.look-block.ensures.records,
    )

pub loop-b-preserved : goal.loop-b-preserved
loop-b-preserved c = let l = c.loop-b in
    let t = c.args.trace.now in
    let k = c.requires.lists in
    let e = c.look-block.ensures in
    elim c.if-is_none.branch [
      | then-is_none w ↦ as_counted t c.args.blocks _ (kept_counted t k l.b (omega arith) l.left l.all l.invariant e.records (none_bad _ _ e.bad w.if-is_none.ensures)) w.left-is w.all-is
      | else-is_none w ↦ as_counted t c.args.blocks _ (torn_passed t k l.b (omega arith) l.left l.all l.invariant (some_bad _ _ e.bad w.if-is_none.ensures)) w.left-is w.all-is
    ]

pub returns : goal.returns
returns c = let l = c.loop-b in
    let a = c.args in
    let e = all_counted a.trace.now a.blocks l.b l.left l.all l.invariant (omega arith) in
    record { blocks = e.0; records = e.1 }
