-- `put_contents`: the number of blocks, and an entry for each that is kept.
use Rattle.basics.proofs.Prelude.{ℕ, ◌+◌, ◌*◌, ◌<◌, ◌≤◌, arith, length}
use Rattle.traces.proofs.salvages.laws.Built.{length_contents}
use Rattle.pch_pic_salvage.specs.torn.Found.{left_of}
use Rattle.pch_pic_salvage.proofs.torn.Rounds.{seen, lies, few_left, none_bad, some_bad}
use Rattle.pch_pic_salvage.proofs.rebuilt.Rounds.{listing_start, listing_fits, listing_stands, listing_kept, listing_torn, as_listing, listing_all}
use Rattle.pch_pic_salvage.proofs.rebuilt.{Written.long, Written.put_long}
use Rattle.pch_pic_salvage.proofs.rebuilt.put_contents.Goals as goal
use Rattle.pch_pic_salvage.proofs.rebuilt.put_contents.Goals.{then-is_none, else-is_none}
use Rattle.pch_pic_salvage.proofs.rebuilt.put_contents.Goals.{Then-is_none}

-- a block that is kept: its entry has room, and its numbers have two bytes
record Here (at place records room : ℕ) : Type 0 where
  goes : at + 4 ≤ room
  below : at + 4 ≤ 65536
  stands : place + 16 * records < 65536
  few : records ≤ 4000

module _ (c : Then-is_none) where
  here : Here c.loop-b.at c.loop-b.place c.look-block.result.records (length c.loop-b.out)
  here =
      let l = c.loop-b in
      let t = c.args.trace.now in
      let k = c.requires.0.surveyed.lists in
      let e = c.look-block.ensures in
      let g = none_bad _ _ e.bad c.if-is_none.ensures in
      let f = listing_fits t k c.put_bytes.new.dst (omega arith) l.invariant g in
      let same = put_long c.args.left c.args.out.now (omega (arith, c.requires.0.room)) c.put_bytes.ensures in
      record {
        goes = omega (arith, f, c.requires.0.room, same, long l.invariant.written (omega (arith, c.requires.0.room, same)));
        below = omega (arith, f, length_contents (left_of c.args.blocks t), few_left t k);
        stands = omega (arith, listing_stands t k c.put_bytes.new.dst (omega arith) l.invariant g, e.records);
        few = omega (arith, e.records, (lies t k l.b (omega arith)).few);
      }

pub overflow_mul-place : goal.overflow_mul-place
overflow_mul-place c = omega (arith, c.requires.1, few_left c.args.trace.now c.requires.0.surveyed.lists)

pub overflow_add-place : goal.overflow_add-place
overflow_add-place c = omega (arith, c.requires.1, few_left c.args.trace.now c.requires.0.surveyed.lists)

pub loop-b-init : goal.loop-b-init
loop-b-init c = listing_start c.args.trace.now c.requires.0.surveyed.lists c.put_bytes.new.dst c.requires.1 c.args.out.now c.put_bytes.ensures

pub look-block-requires : goal.look-block-requires
look-block-requires c = seen c.args.trace.now c.requires.0.surveyed.lists c.loop-b.b (omega arith) c.args.bads.now c.requires.0.surveyed.found

pub put_two-requires : goal.put_two-requires
put_two-requires c = let h = here (goal.at.put_two-requires c).Then-is_none in (h.goes, omega (arith, h.stands), omega (arith, h.few))

pub overflow_mul-place-then-is_none : goal.overflow_mul-place-then-is_none
overflow_mul-place-then-is_none c = omega (arith, (here (goal.at.overflow_mul-place-then-is_none c).Then-is_none).few)

pub overflow_add-place-then-is_none : goal.overflow_add-place-then-is_none
overflow_add-place-then-is_none c = omega (arith, (here (goal.at.overflow_add-place-then-is_none c).Then-is_none).stands)

pub loop-b-preserved : goal.loop-b-preserved
loop-b-preserved c = let l = c.loop-b in
    let t = c.args.trace.now in
    let k = c.requires.0.surveyed.lists in
    let e = c.look-block.ensures in
    let m = c.put_bytes.new.dst in
    elim c.if-is_none.branch [
      | then-is_none w ↦ as_listing t k m (listing_kept t k m (omega arith) l.invariant e.records (none_bad _ _ e.bad w.if-is_none.ensures) w.put_two.ensures) w.out-is w.at-is w.place-is
      | else-is_none w ↦ as_listing t k m (listing_torn t k m (omega arith) l.invariant (some_bad _ _ e.bad w.if-is_none.ensures)) w.out-is w.at-is w.place-is
    ]

pub returns : goal.returns
returns c = let l = c.loop-b in
    listing_all c.args.trace.now c.requires.0.surveyed.lists c.put_bytes.new.dst l.invariant (omega arith) c.args.left c.args.out.now c.put_bytes.ensures
