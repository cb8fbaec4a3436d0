-- A part of a state, as the rules see it.
use Rattle.std.specs.Prelude.{◌≡◌}
use Rattle.rules.specs.Lines as rules-lines
use Rattle.rules.specs.Core as rules-core
use Rattle.device.specs.state.View.{lines_view, stored_view}
use Rattle.device.specs.declared.state.Lines.{Lines}
use Rattle.device.specs.declared.state.Stored.{Stored}

-- what a function that hands back a part of the state promises, beside IsRing and Is: it shows what the rules say
abbrev pub IsLines : Lines → rules-lines.Lines → Type 0
IsLines l shown = lines_view l ≡ shown

abbrev pub IsStored : Stored → rules-core.Stored → Type 0
IsStored s shown = stored_view s shown.routes ≡ shown
