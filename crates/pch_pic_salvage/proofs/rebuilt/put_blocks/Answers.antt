-- `put_blocks`: each block that is kept behind those before it.
use Rattle.basics.proofs.Prelude.{◌≡◌, sym, ap, ◌∙◌, ℕ, ◌+◌, ◌-◌, ◌*◌, ◌≤◌, arith, List, length, part}
use Rattle.traces.specs.Trace.{record_length}
use Rattle.pch_pic_salvage.proofs.torn.Rounds.{seen, lies, size, few_records, none_bad, some_bad}
use Rattle.pch_pic_salvage.proofs.rebuilt.Rounds.{joining_fits, joining_kept, joining_torn, as_joining, joining_all}
use Rattle.pch_pic_salvage.proofs.rebuilt.Written.{long}
use Rattle.pch_pic_salvage.proofs.rebuilt.put_blocks.Goals as goal
use Rattle.pch_pic_salvage.proofs.rebuilt.put_blocks.Goals.{then-is_none, else-is_none}
use Rattle.pch_pic_salvage.proofs.rebuilt.put_blocks.Goals.{Then-is_none}

-- the block looked at: where it stands, and that it has room
record Here (l : List ℕ) (b place records at room : ℕ) : Type 0 where
  fits : place + record_length * records ≤ length l
  few : records ≤ 4000
  goes : at + record_length * records ≤ room
  below : at + record_length * records ≤ 64000

module _ (c : Then-is_none) where
  here : Here c.args.trace.now c.loop-b.b c.look-block.result.place c.look-block.result.records
      c.loop-b.at (length c.loop-b.out)
  here =
      let l = c.loop-b in
      let t = c.args.trace.now in
      let k = c.requires.surveyed.lists in
      let e = c.look-block.ensures in
      let w = lies t k l.b (omega arith) in
      record {
        fits = omega (arith, e.place, e.records, w.fits);
        few = omega (arith, e.records, w.few);
        goes = omega (arith, joining_fits t k c.args.out.now (omega arith) l.invariant (none_bad _ _ e.bad c.if-is_none.ensures), size t k l.b (omega arith), e.records, c.requires.room, long l.invariant.written c.requires.room);
        below = omega (arith, joining_fits t k c.args.out.now (omega arith) l.invariant (none_bad _ _ e.bad c.if-is_none.ensures), size t k l.b (omega arith), e.records, few_records t k);
      }

pub look-block-requires : goal.look-block-requires
look-block-requires c = seen c.args.trace.now c.requires.surveyed.lists c.loop-b.b (omega arith) c.args.bads.now c.requires.surveyed.found

pub overflow_mul-until : goal.overflow_mul-until
overflow_mul-until c = omega (arith, (here c).few)

pub overflow_add-until : goal.overflow_add-until
overflow_add-until c = omega (arith, (here c).fits)

pub overflow_mul-end : goal.overflow_mul-end
overflow_mul-end c = omega (arith, (here c).few)

pub overflow_add-end : goal.overflow_add-end
overflow_add-end c = omega (arith, (here c).below)

pub slice_bounds-copy_records-end : goal.slice_bounds-copy_records-end
slice_bounds-copy_records-end c = omega (arith, (here c).goes)

pub slice_bounds-copy_records-end-then-is_none : goal.slice_bounds-copy_records-end-then-is_none
slice_bounds-copy_records-end-then-is_none c = omega (arith, (here (goal.at.slice_bounds-copy_records-end-then-is_none c).Then-is_none).fits)

pub loop-b-preserved : goal.loop-b-preserved
loop-b-preserved c = let l = c.loop-b in
    let t = c.args.trace.now in
    let k = c.requires.surveyed.lists in
    let e = c.look-block.ensures in
    let r = 16 * c.look-block.result.records in
    let p : (l.at + r) - l.at ≡ r = omega arith in
    let q : (c.look-block.result.place + r) - c.look-block.result.place ≡ r = omega arith in
    elim c.if-is_none.branch [
      | then-is_none w ↦ as_joining t k c.args.out.now
          (joining_kept t k c.args.out.now (omega arith) l.invariant (none_bad _ _ e.bad w.if-is_none.ensures) (p ∙ ap (λ m. 16 * m) e.records ∙ sym (size t k l.b (omega arith)))
          (w.copy_records.ensures ∙ ap (λ m. part c.look-block.result.place m t) q ∙ (λ i. part (e.place i) (16 * e.records i) t)))
          w.out-is (w.at-is ∙ omega arith)
      | else-is_none w ↦ as_joining t k c.args.out.now (joining_torn t k c.args.out.now (omega arith) l.invariant (some_bad _ _ e.bad w.if-is_none.ensures)) w.out-is w.at-is
    ]

pub returns : goal.returns
returns c = let l = c.loop-b in
    joining_all c.args.trace.now c.requires.surveyed.lists c.args.out.now l.invariant (omega arith)
