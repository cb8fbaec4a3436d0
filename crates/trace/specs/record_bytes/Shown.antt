-- A record by value, as the rules of traces see it.
use Rattle.traces.specs.Trace as traces
use Rattle.trace.specs.declared.record_bytes.Record.{Record}

abbrev pub record_view : Record → traces.Record
record_view r = record { kind = r.kind; byte = r.byte; offset = r.offset; zeros = r.zeros; value = r.value }
