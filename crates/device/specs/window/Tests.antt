-- The answers of the width's and the window's test as the rules see them.
use Rattle.std.specs.Prelude.{ℕ, ◌+◌, ◌-◌, ◌^◌, ◌≤◌, Option, Some, None}
use Rattle.rules.specs.Access as access
use Rattle.calls.specs.Calls.{Tested, pass, refuse, no_width, outside}
use Rattle.device.specs.map.Views.{width_view}
use Rattle.device.specs.declared.map.Width.{Width}

abbrev pub known_view : Option Width → Tested access.Width
known_view (Some w) = pass (width_view w)
known_view None = refuse no_width

-- of an address outside, the address is the refusal's value
abbrev pub located_view : ℕ → Option ℕ → Tested ℕ
located_view address (Some o) = pass o
located_view address None = refuse (outside address)

-- the bytes of an access inside end at an offset of 2 ^ 64 - 1 at most
abbrev pub Ends : Option ℕ → ℕ → Type 0
Ends (Some o) width = o + width ≤ 2 ^ 64 - 1
Ends None width = Unit {0}
