-- The enums of the code as the rules see them.
use Rattle.std.specs.Prelude.{ℕ, Bool, true, false, Option, Some, None}
use Rattle.rules.specs.Core as core
use Rattle.rules.specs.Map as map
use Rattle.rules.specs.Access as access
use Rattle.device.specs.declared.map.Plain.{Plain}
use Rattle.device.specs.declared.map.Plain.TheVariants as plain
use Rattle.device.specs.declared.map.Register.{Register}
use Rattle.device.specs.declared.map.Register.TheVariants as register
use Rattle.device.specs.declared.map.Cell.{Cell}
use Rattle.device.specs.declared.map.Cell.TheVariants as cell
use Rattle.device.specs.declared.map.Width.{Width}
use Rattle.device.specs.declared.map.Width.TheVariants as width

abbrev pub index_if : Bool → ℕ → Option ℕ
index_if true i = Some i
index_if false i = None

-- an offset as one where a Byte access meets only route and vector bytes, if it is
unfoldable pub byte_index : ℕ → Option ℕ
byte_index o = index_if (map.in_byte_area o) o

abbrev pub plain_view : Plain → core.Plain
plain_view plain.HtmsiEn = core.htmsi_en
plain_view plain.Edge = core.edge
plain_view plain.Pol = core.pol
plain_view plain.Auto0 = core.auto0
plain_view plain.Auto1 = core.auto1

abbrev pub register_view : Register → map.Register
register_view register.Id = map.id
register_view register.Mask = map.mask
register_view register.Clear = map.clear
register_view register.Irr = map.irr
register_view register.Isr = map.isr
register_view (register.Plain p) = map.plain (plain_view p)

abbrev pub cell_view : Cell → map.Cell
cell_view (cell.Half r h) = map.half_of (register_view r) h
cell_view cell.Bytes = map.bytes
cell_view cell.Nothing = map.nothing

abbrev pub width_view : Width → access.Width
width_view width.Byte = access.byte
width_view width.Word = access.word
width_view width.Dword = access.dword
width_view width.Qword = access.qword

-- how many bytes an access of a width has
abbrev pub bytes_in : access.Width → ℕ
bytes_in access.byte = 1
bytes_in access.word = 2
bytes_in access.dword = 4
bytes_in access.qword = 8
