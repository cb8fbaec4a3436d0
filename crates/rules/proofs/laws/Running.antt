-- One name that opens every definition that has to compute for a device to run on closed numbers.
use Rattle.basics.proofs.Prelude.{ℕ, on, number_with, from, put, without}
use Rattle.rules.specs.{Lines.polled, Lines.raised, Lines.lowered, Lines.cleared, Lines.masked, Ring.offered, Ring.drawn, Ring.ring_step, Ring.ring_run}
use Rattle.rules.specs.{Core.moved, Core.line_turn, Core.vectors_after, Core.stored_after, Core.turns, Map.cell_at}
use Rattle.rules.specs.Access.{value_of, entry, read_cell, read_dword, read_byte, read_at, entry_acts, cell_acts, dword_acts, byte_acts, write_acts}
use Rattle.rules.specs.Device.{up_from, acts_of, offers, acted, step, value}
use Rattle.rules.specs.{Numbering.takes_all, Numbering.numbers_after, Numbering.drained_with, Numbering.value_with, History.history, History.raises}

unfoldable pub running : ℕ
unfolding
    on number_with from put without polled raised lowered cleared masked offered drawn ring_step ring_run moved line_turn vectors_after stored_after turns
    cell_at value_of entry read_cell read_dword read_byte read_at entry_acts cell_acts dword_acts byte_acts write_acts up_from acts_of offers acted step value
    takes_all numbers_after drained_with value_with history raises
running = 0
