-- What the functions of this module hand back, as the rules see it.
use Rattle.std.specs.Prelude.{ℕ, List, Result, Ok, Err, ⊤}
use Rattle.images.specs.Form.{pairs}
use Rattle.images.specs.Image.{copy_differs, many_wait, bad_flag, unused_set, Finding, flag_rule, unused_rule, search, or_else, ImageTest, accepted, broken}
use Rattle.images.specs.Image as rules-image
use Rattle.image.specs.declared.faults.Fault.{Fault}
use Rattle.image.specs.declared.faults.Fault.TheVariants.{Copy, Count, Flag, Unused}
use Rattle.image.specs.declared.faults.Broken.{Broken}

abbrev pub fault_view : Fault → rules-image.Fault
fault_view Copy = copy_differs
fault_view Count = many_wait
fault_view Flag = bad_flag
fault_view Unused = unused_set

abbrev pub checked_view : Result ⊤ Broken → ImageTest
checked_view (Ok u) = accepted
checked_view (Err b) = broken (fault_view b.rule) b.place

-- what the rules of n waiting pairs and the unused ones find in bytes that stand from place a on
abbrev pub pair_fault : ℕ → ℕ → List ℕ → Finding
pair_fault a n l = or_else (search bad_flag (flag_rule n).bad a l) (search unused_set (unused_rule pairs n).bad a l)
