-- `drain_output_events` pops as many events as wait or as fit, and writes each as a pair behind those before it.
use Rattle.device.{specs.state.View.ring_view}
use Rattle.port.proofs.drain_output.{Draining.Draining}
use Rattle.port.proofs.drain_output.drain_output_events.Given as goal

abbrev pub invariant-loop-i : goal.invariant-loop-i
invariant-loop-i l = Draining (ring_view l.initial.out) l.count l.initial.buf l.buf l.out l.i
