-- `put_list`: an entry for each block that is not kept.
use Rattle.basics.proofs.Prelude.{sym, ap, ◌∙◌, arith}
use Rattle.std.specs.Prelude.{is_some}
use Rattle.pch_pic_salvage.proofs.torn.Rounds.{seen, few_blocks, short, bad_told, none_bad}
use Rattle.pch_pic_salvage.proofs.rebuilt.Rounds.{dropping_fits, dropping_kept, dropping_torn, as_dropping, dropping_all}
use Rattle.pch_pic_salvage.proofs.rebuilt.Written.{long}
use Rattle.pch_pic_salvage.proofs.rebuilt.put_list.Goals as goal
use Rattle.pch_pic_salvage.proofs.rebuilt.put_list.Goals.{in-Some, in_default}

pub look-requires : goal.look-requires
look-requires c = seen c.args.trace.now c.requires.surveyed.lists c.loop-b.b (omega arith) c.args.bads.now c.requires.surveyed.found

pub put_two-requires : goal.put_two-requires
put_two-requires c =
    let l = c.loop-b in
    let t = c.args.trace.now in
    let k = c.requires.surveyed.lists in
    let e = bad_told _ _ (sym c.in-Some.is ∙ c.look.ensures.bad) in
    let f = dropping_fits t k c.args.out.now (omega arith) l.invariant e.0 in (
      omega (arith, f, c.requires.room, long l.invariant.written c.requires.room),
      omega (arith, few_blocks t k l.b (omega arith)),
      omega (arith, e.1, short t k l.b (omega arith)),
    )

pub loop-b-preserved : goal.loop-b-preserved
loop-b-preserved c =
    let l = c.loop-b in
    let t = c.args.trace.now in
    let k = c.requires.surveyed.lists in
    let m = c.args.out.now in
    elim c.match-look.branch [
      | in-Some w ↦ let e = bad_told _ _ (sym w.in-Some.is ∙ c.look.ensures.bad) in as_dropping t k m (dropping_torn t k m (omega arith) l.invariant e.0 e.1 w.put_two.ensures) w.out-is w.at-is
      | in_default w ↦ as_dropping t k m (dropping_kept t k m (omega arith) l.invariant (none_bad _ _ c.look.ensures.bad (ap is_some w.in_default.is))) w.out-is w.at-is
    ]

pub returns : goal.returns
returns c = dropping_all c.args.trace.now c.requires.surveyed.lists c.args.out.now c.loop-b.invariant (omega arith)
