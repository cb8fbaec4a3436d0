-- `make`: of a good trace, made.
use Rattle.basics.proofs.Prelude.{arith, rules, sym}
use Rattle.ledger.proofs.follow.Reaching.{reaches}
use Rattle.pch_pic_sheet.proofs.sheet.{Ends.is_made}
use Rattle.pch_pic_sheet.proofs.sheet.make.Goals as goal

pub follow-requires : goal.follow-requires
follow-requires c = let r = reaches c.args.trace.now (sym c.in_ok-records.ensures) in (r, search rules, omega (arith, r.few))

pub returns : goal.returns
returns c =
    let a = c.args in
    is_made a.trace.now a.sheet.now (sym c.in_ok-records.ensures) (search rules) c.requires c.zero.ensures c.follow.ensures c.zero_row.ensures c.join_all.ensures
