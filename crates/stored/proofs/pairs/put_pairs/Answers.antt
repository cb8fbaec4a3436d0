-- `put_pairs`: zeros for all sixteen pairs, and the waiting events over them.
use Rattle.device.{specs.state.View.ring_view, proofs.state.Slots.slots_length}
use Rattle.stored.proofs.pairs.Written.{pairs_put}
use Rattle.stored.proofs.pairs.put_pairs.Goals as goal

pub returns : goal.returns
returns c = let r = c.args.ring in
    pairs_put (ring_view r).waiting r.output_len _ (slots_length r.output_vectors r.output_asserted r.output_head r.output_len) c.requires.0
    c.put_zeros.ensures c.put_events.ensures
