-- `clear_irq`: latches and service lose the inputs of the mask, and those of them that were in service are queued.
use Rattle.basics.proofs.Prelude.{◌≡◌, ap, true, false, List, map, ℕ, ◌-◌, ◌<◌, ◌^◌, bit_and, rules, register, without_is}
use Rattle.rules.specs.Lines.{event, cleared}
use Rattle.device.specs.{state.View.lines_view, state.View.ring_view, declared.state.Lines.Lines, declared.state.Ring.Ring, decide.Sets.served_of}
use Rattle.device.proofs.decide.Deciding.{inputs_of}
use Rattle.port.specs.{events_for_mask.Offers.Offers, events_for_mask.Offers.events_of, mask_and_clear.Moves.Moves}
use Rattle.port.proofs.events_for_mask.Offering.{offers_as}
use Rattle.port.proofs.mask_and_clear.clear_irq.Goals as goal

abbrev off : ℕ → ℕ → ℕ
off x m = bit_and x ((2 ^ 64 - 1) - m)

clear_moves : (vs : List ℕ) (l : Lines) (r s : Ring) (n m x : ℕ) → x ≡ register (served_of m l.intisr) → m < 2 ^ 64 → l.intirr < 2 ^ 64 → l.intisr < 2 ^ 64
    → Offers s n (ring_view r) (events_of vs x false)
    → Moves (record { lines = record { int_mask = l.int_mask; intirr = off l.intirr m; intisr = off l.intisr m }; ring = s; dropped = n }) (ring_view r)
    (cleared vs (lines_view l) m)
unfolding cleared
clear_moves vs l r s n m x e hm hirr hisr pushed =
    let irr = without_is l.intirr m hirr hm in
    let isr = without_is l.intisr m hisr hm in
    record {
      lines = λ t. record { mask = l.int_mask; irr = irr t; isr = isr t };
      offers = offers_as (ap (map (event vs true false)) (inputs_of (served_of m l.intisr) e)) pushed;
    }

pub returns : goal.returns
returns c =
    let q = c in
    let s = q in
    let a = s.args in
    clear_moves a.vectors.now a.lines a.ring _ _ a.mask _ q.served-active.ensures (search rules) (search rules) (search rules) q.queue_events_for_mask-queued.ensures
