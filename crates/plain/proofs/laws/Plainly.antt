-- One name that opens every definition of the plain engine that has to compute for it to run on closed numbers.
use Rattle.basics.proofs.Prelude.{ℕ}
use Rattle.plain.specs.Plain.{heard_from, each_heard, lowest_from, number_below, value_of, entry, read_cell, read_dword, read_byte, read_at, write_half, write_entry, write_cell, write_dword, write_byte, write_at, gives}
use Rattle.plain.specs.Sequence.{load_of, plain_sees, plain_after}

unfoldable pub plainly : ℕ
unfolding
    heard_from each_heard lowest_from number_below value_of entry read_cell read_dword read_byte read_at write_half write_entry write_cell write_dword write_byte write_at
    gives load_of plain_sees plain_after
plainly = 0
