use Rattle.basics.proofs.Prelude.{refl, inl, inr, arith}
use Rattle.ledger.proofs.watch_write.{Arms.last_part, Arms.parts, Arms.sized_half, Arms.next_small}
use Rattle.ledger.proofs.watch_write.write.Goals as goal

pub returns-then-left-eq1 : goal.returns-then-left-eq1
returns-then-left-eq1 c = let l = c.loop-left in
    l.invariant.3 _ _ _ (last_part c.args.k l.at l.x l.left (inl c.if-left-eq1.true) c.write_piece-kept.ensures)

pub returns-then-left-eq4 : goal.returns-then-left-eq4
returns-then-left-eq4 c = let l = c.loop-left in
    l.invariant.3 _ _ _ (last_part c.args.k l.at l.x l.left (inr c.if-left-eq4.true) c.write_piece-kept.ensures)

pub loop-left-preserved : goal.loop-left-preserved
loop-left-preserved c = let l = c.loop-left in
    (sized_half l.left l.invariant.0 c.if-left-eq1.false c.if-left-eq4.false, omega (arith, l.invariant.1), next_small l.left l.x l.invariant.0 l.invariant.2, λ z s a f. l.invariant.3 z s a (parts c.args.k l.at l.x _ _ l.left _ l.invariant.0 c.if-left-eq1.false c.if-left-eq4.false l.invariant.2 refl refl refl c.write_piece-kept.ensures f))
