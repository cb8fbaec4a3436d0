-- The state as the rules see it, and what holds of every state that the types do not say.
use Rattle.std.specs.Prelude.{◌≡◌, ℕ, zero, suc, ◌%◌, ◌<◌, ◌≤◌, Bool, false, List, [], ◌∷◌, slice_index, slice_index_or, Option, Some, None}
use Rattle.rules.specs.Lines as rules-lines
use Rattle.rules.specs.Ring as rules-ring
use Rattle.rules.specs.Ring.{Event}
use Rattle.rules.specs.Core as rules-core
use Rattle.rules.specs.Device.{Device, Value, none, some}
use Rattle.device.specs.declared.state.PchPicOutputEvent.{PchPicOutputEvent}
use Rattle.device.specs.declared.state.Lines.{Lines}
use Rattle.device.specs.declared.state.Stored.{Stored}
use Rattle.device.specs.declared.state.Ring.{Ring}
use Rattle.device.specs.declared.state.PchPicState.{PchPicState}

-- what a move hands back
abbrev pub answer_value : Option ℕ → Value
answer_value None = none
answer_value (Some v) = some v

abbrev pub event_of : PchPicOutputEvent → Event
event_of e = record { vector = e.vector; asserted = e.asserted }

-- the event in slot i, counted round the 16 slots
abbrev pub slot : List ℕ → List Bool → ℕ → Event
slot vs fs i = record { vector = slice_index vs (i % 16); asserted = slice_index_or fs (i % 16) false }

-- the n events from slot h on
unfoldable pub slots : List ℕ → List Bool → ℕ → ℕ → List Event
slots vs fs h zero = []
slots vs fs h (suc n) = slot vs fs h ∷ slots vs fs (suc h) n

abbrev pub ring_view : Ring → rules-ring.Ring
ring_view r = record { waiting = slots r.output_vectors r.output_asserted r.output_head r.output_len; drops = r.output_drops }

abbrev pub lines_view : Lines → rules-lines.Lines
lines_view l = record { mask = l.int_mask; irr = l.intirr; isr = l.intisr }

abbrev pub stored_view : Stored → List ℕ → rules-core.Stored
stored_view s routes = record { htmsi_en = s.htmsi_en; edge = s.intedge; pol = s.int_polarity; auto0 = s.auto_ctrl0; auto1 = s.auto_ctrl1; routes = routes }

abbrev pub view : PchPicState → Device
view s = record {
  core = record { lines = lines_view s.lines; vectors = s.tables.htmsi_vector; stored = stored_view s.stored s.tables.route_entry };
  ring = ring_view s.ring;
}

-- the head is a slot, and at most all slots are in use
pub record WellRing (r : Ring) : Type 0 where
  pub head : r.output_head < 16
  pub len : r.output_len ≤ 16

pub record Well (s : PchPicState) : Type 0 where
  pub ring : WellRing s.ring

-- what a function that hands back a ring, or a state, promises: it is well formed, and shows what the rules say
pub record IsRing (r : Ring) (shown : rules-ring.Ring) : Type 0 where
  pub well : WellRing r
  pub shows : ring_view r ≡ shown

pub record Is (s : PchPicState) (shown : Device) : Type 0 where
  pub well : Well s
  pub shows : view s ≡ shown
