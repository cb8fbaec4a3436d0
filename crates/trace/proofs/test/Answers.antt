-- `test`: wrong contents, then the first bad record.
use Rattle.basics.proofs.Prelude.{◌≡◌, sym, ◌∙◌, arith}
use Rattle.std.specs.Prelude.{Some, None}
use Rattle.std.proofs.lemmas.Result.{err_from_is_err_and}
use Rattle.trace.proofs.Whole.{told_wrong, few_placed, placed_within, told_bad, told_good}
use Rattle.trace.specs.declared.TraceFault.TheVariants.{WrongContents}
use Rattle.trace.specs.contents.Found.{contents_as}
use Rattle.trace.proofs.test.Goals as goal
use Rattle.trace.proofs.test.Goals.{In_ok-records}

held : (c : In_ok-records) → Some c.in_ok-records.records ≡ contents_as c.args.trace.now
held c = sym c.in_ok-records.ensures.ok_part ∙ c.contents_of.ensures

pub returns-in_err-records : goal.returns-in_err-records
returns-in_err-records c =
    let e = err_from_is_err_and c.from_residual.result c.from_residual.ensures.1 in
    let n : None ≡ contents_as c.args.trace.now = sym c.in_err-records.ensures.ok_part ∙ c.contents_of.ensures in
    let w : c.in_err-records.field-0.0 ≡ WrongContents = grind arith in
    rw (e.1, e.2, w) (told_wrong c.args.trace.now n)

pub first_bad-bad-requires : goal.first_bad-bad-requires
first_bad-bad-requires c = let l = c.args.trace.now in (few_placed l (held c), placed_within l (held c))

pub returns-then-bad-records : goal.returns-then-bad-records
returns-then-bad-records c = told_bad c.args.trace.now (held (goal.at.returns-then-bad-records c).In_ok-records) c.first_bad-bad.ensures c.if-bad-records.true

pub returns : goal.returns
returns c = told_good c.args.trace.now (held (goal.at.returns c).In_ok-records) c.first_bad-bad.ensures c.if-bad-records.false
