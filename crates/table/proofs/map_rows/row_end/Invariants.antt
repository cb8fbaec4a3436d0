-- `row_end`: of the offsets looked at so far none begins a row.
use Rattle.basics.proofs.Prelude.{◌≡◌, false, ℕ, ◌<◌}
use Rattle.table.specs.{Meaning.meant, map_rows.Rows.begins}
use Rattle.table.proofs.map_rows.row_end.Given as goal

abbrev pub invariant-loop-at : goal.invariant-loop-at
invariant-loop-at l = (o : ℕ) → l.start < o → o < l.at → begins (meant l.start) (meant o) ≡ false
