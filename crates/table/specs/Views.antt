-- What the code finds in the table, as the definitions have it.
use Rattle.device.specs.map.Views.{register_view}
use Rattle.table.specs.Meaning.{Meaning}
use Rattle.table.specs.Meaning as meaning
use Rattle.table.specs.declared.Place.{Place}
use Rattle.table.specs.declared.Place.TheVariants as place

abbrev pub place_view : Place → Meaning
place_view (place.Part r h k s) = meaning.part (register_view r) h k s
place_view (place.Route n) = meaning.route n
place_view (place.Vector n) = meaning.vector n
place_view place.Nothing = meaning.nothing
