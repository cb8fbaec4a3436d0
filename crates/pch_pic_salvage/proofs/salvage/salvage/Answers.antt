-- `salvage`: each refusal leaves where the order of the tests puts it; else the contents, the blocks behind them, and the list are written.
use Rattle.basics.proofs.Prelude.{◌≡◌, refl, sym, ◌∙◌, arith}
use Rattle.std.proofs.lemmas.Result.{err_from_is_err_and}
use Rattle.answer.specs.declared.refusals.Refusal.TheVariants.{TraceContents}
use Rattle.pch_pic_salvage.specs.{torn.Found.Lists}
use Rattle.pch_pic_salvage.proofs.salvage.Endings.{told_wrong, told_good, listed_by, has_count, size_contents, size_new, size_list, left_of_all, contents_then_blocks, few, short, its_length, no_contents, no_block, no_second, no_list, salvaged}
use Rattle.pch_pic_salvage.proofs.salvage.salvage.Goals as goal
use Rattle.pch_pic_salvage.proofs.salvage.salvage.Goals.{After-two_at-blocks}

-- the contents were good, and tell how many blocks there are
listed : (c : After-two_at-blocks) → Lists c.args.trace.now c.two_at-blocks.result
listed c = listed_by c.args.trace.now (sym c.in_ok-ok_or.ensures.ok_part ∙ c.contents_of.ensures) c.two_at-blocks.ensures.0

pub returns-in_err-ok_or : goal.returns-in_err-ok_or
returns-in_err-ok_or c =
    let a = c.args in
    let e = err_from_is_err_and c.from_residual.result c.from_residual.ensures.1 in
    let w : c.in_err-ok_or.field-0.0 ≡ TraceContents = grind arith in
    rw (e.1, e.2, w) (no_contents a.trace.now a.second.now a.list.now (told_wrong a.trace.now (sym c.in_err-ok_or.ensures.ok_part ∙ c.contents_of.ensures)))

pub two_at-blocks-requires : goal.two_at-blocks-requires
two_at-blocks-requires c = has_count c.args.trace.now (told_good c.args.trace.now (sym c.in_ok-ok_or.ensures.ok_part ∙ c.contents_of.ensures))

pub returns-then-kept-eq0 : goal.returns-then-kept-eq0
returns-then-kept-eq0 c =
    let a = c.args in
    no_block a.trace.now a.second.now a.list.now (listed (goal.at.returns-then-kept-eq0 c).After-two_at-blocks) (sym c.count-left.ensures.blocks ∙ c.if-kept-eq0.true)

pub overflow_mul-start : goal.overflow_mul-start
overflow_mul-start c = omega (arith, few c.args.trace.now (listed (goal.at.overflow_mul-start c).After-two_at-blocks) c.count-left.ensures)

pub overflow_add-start : goal.overflow_add-start
overflow_add-start c = omega (arith, few c.args.trace.now (listed (goal.at.overflow_add-start c).After-two_at-blocks) c.count-left.ensures)

pub overflow_mul-length : goal.overflow_mul-length
overflow_mul-length c = omega (arith, short c.args.trace.now (listed (goal.at.overflow_mul-length c).After-two_at-blocks) c.count-left.ensures)

pub overflow_add-length : goal.overflow_add-length
overflow_add-length c =
    let k = listed (goal.at.overflow_add-length c).After-two_at-blocks in
    omega (arith, few c.args.trace.now k c.count-left.ensures, short c.args.trace.now k c.count-left.ensures)

-- 16 comes before 7: past its test there is something left, whatever room is lent
pub returns-then-second-length : goal.returns-then-second-length
returns-then-second-length c =
    let a = c.args in
    let k = listed (goal.at.returns-then-second-length c).After-two_at-blocks in
    no_second a.trace.now a.second.now a.list.now k (λ z. omega (arith, c.count-left.ensures.blocks, z)) (omega (arith, its_length a.trace.now k c.count-left.ensures))

pub overflow_sub-blocks : goal.overflow_sub-blocks
overflow_sub-blocks c = omega (arith, c.count-left.ensures.blocks, left_of_all c.args.trace.now (listed (goal.at.overflow_sub-blocks c).After-two_at-blocks))

pub returns-then-list-blocks : goal.returns-then-list-blocks
returns-then-list-blocks c =
    let a = c.args in
    let k = listed (goal.at.returns-then-list-blocks c).After-two_at-blocks in
    no_list a.trace.now a.second.now a.list.now k (λ z. omega (arith, c.count-left.ensures.blocks, z)) (omega (arith, size_list a.trace.now k, c.count-left.ensures.blocks))

pub put_contents-requires : goal.put_contents-requires
put_contents-requires c =
    let t = c.args.trace.now in
    let k = listed (goal.at.put_contents-requires c).After-two_at-blocks in (
      record { surveyed = record { lists = k; found = c.survey-bads.ensures }; room = omega (arith, its_length t k c.count-left.ensures, size_contents t k, size_new t k) },
      c.count-left.ensures.blocks,
    )

pub put_list-requires : goal.put_list-requires
put_list-requires c =
    let t = c.args.trace.now in
    let k = listed (goal.at.put_list-requires c).After-two_at-blocks in
    record { surveyed = record { lists = k; found = c.survey-bads.ensures }; room = omega (arith, size_list t k, c.count-left.ensures.blocks) }

pub returns : goal.returns
returns c =
    let a = c.args in
    let t = a.trace.now in
    let k = listed (goal.at.returns c).After-two_at-blocks in
    let size = its_length t k c.count-left.ensures in
    salvaged t a.second.now a.list.now k (λ z. omega (arith, c.count-left.ensures.blocks, z)) (omega (arith, size)) (omega (arith, size_list t k, c.count-left.ensures.blocks)) size
    (contents_then_blocks t k a.second.now c.put_contents.ensures (omega (arith, c.count-left.ensures.blocks, size_contents t k)) refl c.put_blocks.ensures)
    c.put_list.ensures
