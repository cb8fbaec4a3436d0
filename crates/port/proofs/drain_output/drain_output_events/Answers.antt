-- `drain_output_events` pops as many events as wait or as fit, and writes each as a pair behind those before it.
use Rattle.basics.proofs.Prelude.{◌≡◌, sym, ap, subst, ◌∙◌, ℕ, ◌/◌, min, arith, length}
use Rattle.device.{specs.state.View.ring_view, proofs.state.Slots.waiting_length}
use Rattle.port.proofs.drain_output.{Draining.Draining, Draining.drain_step, Draining.drain_done}
use Rattle.port.proofs.drain_output.drain_output_events.Goals as goal

pub loop-i-preserved : goal.loop-i-preserved
loop-i-preserved c =
    let l = c.loop-i in
    let n = c.min-count.ensures in
    drain_step (ring_view c.args.ring) c.min-count.result c.args.buf.now l.buf l.out l.i l.invariant c.loop-i-test.true (omega (arith, n))
    (omega (arith, n, waiting_length c.args.ring)) c.pop_output_event-popped.result _ c.pop_output_event-popped.ensures c.put_event.ensures

pub returns : goal.returns
returns c =
    let r = c.args.ring in
    let buf = c.args.buf.now in
    let l = c.loop-i in
    let count = c.min-count.result in
    let done : l.i ≡ count = omega (arith, l.invariant.within) in
    drain_done (ring_view r) count buf l.buf l.out (subst (λ (k : ℕ). Draining (ring_view r) count buf l.buf l.out k) done l.invariant)
    (c.min-count.ensures ∙ ap (λ (k : ℕ). min k (length buf / 2)) (sym (waiting_length r)))
