-- What a host has read and collected (02, C-20), beside Hearing: everything, whatever was admitted; and by which number it sorts.
use Rattle.std.specs.Prelude.{◌≡◌, Bool, List, [], ℕ, leb}
use Rattle.rules.specs.Numbering.{Numbered}
use Rattle.histories.specs.exported.Exported.{Exported, Underway, carried_through, NoLoads, in_image}

-- exported calls after a done reset, which left the history u: no load, everything drained and nothing dropped (02, C-20)
pub record AllRead (u : Underway) (xs : List Exported) : Type 0 where
  pub no_loads : NoLoads u xs
  pub all_drained : (in_image (carried_through u xs)).ring.waiting ≡ []
  pub none_dropped : (in_image (carried_through u xs)).ring.drops ≡ 0

-- of two numbered events the first does not come after the second, by number, unsigned
abbrev pub not_after : Numbered → Numbered → Bool
not_after x y = leb x.number y.number
