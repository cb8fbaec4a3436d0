-- `write_run`: by the table that the run lies in.
use Rattle.access.proofs.cells.{Entries.routes_acts, Entries.vectors_acts}
use Rattle.access.proofs.cells.write_run.Goals as goal

pub returns-in-4 : goal.returns-in-4
returns-in-4 c = let p = c in
    let s = p in
    routes_acts s.args.image.now s.args.offset s.args.n s.args.x s.requires.1.fits p.in-4.is p.put_routes.ensures

pub returns-in-8 : goal.returns-in-8
returns-in-8 c = let p = c in
    let s = p in
    vectors_acts s.args.image.now s.args.offset s.args.n s.args.x s.requires.1.fits p.in-8.is p.put_vectors.ensures
