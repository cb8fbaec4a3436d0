-- The sheet of a small trace, computed (02, C-21): input 5 waits one record for its unmask, is cleared by a Byte, raised again, drained and lowered.
use Rattle.basics.proofs.Prelude.{◌≡◌, refl, cond, List, [], ◌∷◌, ◌++◌, ℕ, ◌+◌, arith, on, take, drop, replicate, lit≤}
use Rattle.rules.specs.Device.{some}
use Rattle.traces.{proofs.laws.Computed.bytes_as, proofs.laws.Computed.tracing, specs.Trace.good, specs.Trace.trace_test, specs.Played.records_from, specs.plays.Firsts.first_records}
use Rattle.plain.specs.Sequence.{shown}
use Rattle.sheets.{specs.Day.items, specs.Day.begun, specs.Day.day_from, specs.Day.day_of, specs.Waits.waits, specs.Waits.answered, specs.Sheet.row_of, specs.Sheet.sheet_bytes, specs.Sheeting.sheet_leaves, specs.Sheeting.sheeting, proofs.laws.Computed.sheeted}
use Rattle.passes.{specs.days.Accounts.NoIsrWrite, specs.days.Accounts.drained_in, specs.days.Accounts.at_last, proofs.days.demands.Service.asserts_less_deasserts, proofs.days.demands.Firsts.first_sheet}
use Rattle.calls.specs.Calls as area

-- raise 5; unmask 5; raise 69, which is refused; a Byte with bit 5 to CLEAR; raise 5; drain; lower 5
abbrev day : List ℕ
day =
    (1 ∷ 0 ∷ 6 ∷ 0 ∷ 7 ∷ 0 ∷ [])
    ++ (bytes_as 1 5 0 0
    ++ (bytes_as 5 4 0x020 0xffffffdf
    ++ (bytes_as 1 69 0 0 ++ (bytes_as 5 1 0x080 0x20 ++ (bytes_as 1 5 0 0 ++ (bytes_as 6 0 0 0 ++ bytes_as 2 5 0 0))))))

pub worked_trace : trace_test day ≡ good 6 7
unfolding tracing
worked_trace = refl

-- both waits are answered: one at the record after the raise, one by the raise itself
pub worked_waits : waits 5 (day_of day).moments ≡ answered 1 ∷ answered 0 ∷ []
unfolding tracing sheeted records_from
worked_waits = refl

pub worked_row : row_of (day_of day) 5
    ≡ record { raises = 2; lowers = 1; asserts = 2; deasserts = 2; returned = 2; offered = 2; dropped = 0; greatest = 1; withdrawn = 0; still_open = 0 }
unfolding tracing sheeted records_from
worked_row = refl

pub worked_drained : drained_in (day_of day).moments ≡ 2
unfolding tracing sheeted records_from drained_in
worked_drained = refl

-- no record writes to ISR: the premise of the account can be met
pub worked_quiet : NoIsrWrite (items day)
unfolding tracing sheeted records_from
worked_quiet = (refl, (refl, (refl, (refl, (refl, (refl, (refl, tt)))))))

pub worked_account : (row_of (day_of day) 5).asserts ≡ (row_of (day_of day) 5).deasserts + cond (on (shown (at_last day)).core.lines.isr 5) 1 0
worked_account = asserts_less_deasserts 5 (omega arith) day worked_quiet

-- ---- after four of the seven records

-- its first four records have a sheet of their own, in buffers that have just room
pub sheet_after_four : sheeting (first_records day 4) (replicate 2600 7) (replicate 16 9)
    ≡ sheet_leaves 0 (sheet_bytes 4 (row_of (day_from begun (take 4 (items day)))) ++ drop 2600 (replicate 2600 7)) (area.answered 0 (some 4) (replicate 16 9))
unfolding tracing
sheet_after_four = first_sheet day worked_trace 4 (lit≤ tt) (lit≤ tt) (replicate 2600 7) (replicate 16 9) (lit≤ tt) (lit≤ tt)

-- by then one wait is answered, CLEAR has made the deassert, and the second raise is to come
pub row_by_then : row_of (day_from begun (take 4 (items day))) 5
    ≡ record { raises = 1; lowers = 0; asserts = 1; deasserts = 1; returned = 0; offered = 2; dropped = 0; greatest = 1; withdrawn = 0; still_open = 0 }
unfolding tracing sheeted records_from
row_by_then = refl
