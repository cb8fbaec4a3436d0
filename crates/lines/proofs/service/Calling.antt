-- The calls on an input, done in place: a latch that is stored, and then what enters or leaves, come to the rules' moves.
use Rattle.basics.proofs.Prelude.{◌≡◌, refl, ap, ◌∙◌, false, List, ℕ, ◌-◌, ◌*◌, ◌%◌, ◌^◌, ◌<◌, bit_and, bit_or, on, only, put, without, put_is, without_these, on_bit, bit_lt}
use Rattle.rules.specs.{Lines.Turn, Lines.with_irr, Lines.enter, Lines.leave, Lines.polled, Lines.raised, Lines.lowered, Core.moved, Core.poll, Core.raise, Core.lower, Device.Device, Device.Value}
use Rattle.rules.specs.Numbering.{Numbers}
use Rattle.laws.proofs.laws.Sets.{enter_ext}
use Rattle.fields.specs.inplace.Held.{Holds, Reads, Becomes, MovesIn, Returns, with_lines, given, untaken}
use Rattle.fields.proofs.inplace.{Doing.does_same, Doing.becomes_then, Doing.moves_acts, Turning.after_turn, Turning.moves_by}

module _ (i : List ℕ) {irr : ℕ} (rirr : Reads i irr (λ d. d.core.lines.irr)) where
  module _ (n : ℕ) (lt : n < 64) where
    abbrev bit_of : ℕ
    bit_of = 1 * 2 ^ n % 2 ^ 64

    pub raise_done : (v : Value) {j k : List ℕ} → Becomes i j (λ d. with_lines d (with_irr d.core.lines (bit_or irr bit_of))) → MovesIn j k v untaken given (λ vs. enter vs false (on bit_of)) → Returns i k v (raise n)
    unfolding moved raised polled
    raise_done v s p =
        let turn : (d : Device) (ns : Numbers) → Holds i d ns → enter d.core.vectors false (on bit_of) (with_irr d.core.lines (bit_or irr bit_of)) ≡ raised d.core.vectors d.core.lines n =
        λ d ns h. ap (λ y. enter d.core.vectors false (on bit_of) (with_irr d.core.lines y)) (ap (λ y. bit_or y bit_of) (rirr d ns h) ∙ put_is d.core.lines.irr n h.well.irr lt)
        ∙ enter_ext d.core.vectors false (on bit_of) (only n) (with_irr d.core.lines (put d.core.lines.irr n)) (λ m l. on_bit n lt m)
        in
        moves_acts untaken given (raise n) (does_same (becomes_then s p) (λ d ns h. ap (after_turn d) (turn d ns h)) (λ d ns h. refl) (λ d ns h. ap (λ (t : Turn). given d.ring t.made) (turn d ns h)))

    pub lower_done : (v : Value) {j k : List ℕ} → Becomes i j (λ d. with_lines d (with_irr d.core.lines (bit_and irr ((2 ^ 64 - 1) - bit_of)))) → MovesIn j k v untaken given (λ vs. leave vs false (only n)) → Returns i k v (lower n)
    unfolding moved lowered
    lower_done v s p =
        let turn : (d : Device) (ns : Numbers) → Holds i d ns → bit_and irr ((2 ^ 64 - 1) - bit_of) ≡ without d.core.lines.irr (only n) =
        λ d ns h. ap (λ y. bit_and y ((2 ^ 64 - 1) - bit_of)) (rirr d ns h) ∙ without_these d.core.lines.irr bit_of (only n) h.well.irr (bit_lt n) (λ m l. on_bit n lt m)
        in
        moves_acts untaken given (lower n)
        (does_same (becomes_then s p) (λ d ns h. ap (λ y. after_turn d (leave d.core.vectors false (only n) (with_irr d.core.lines y))) (turn d ns h)) (λ d ns h. refl)
        (λ d ns h. ap (λ y. given d.ring (leave d.core.vectors false (only n) (with_irr d.core.lines y)).made) (turn d ns h)))

pub poll_done : {i j : List ℕ} (n : ℕ) → n < 64 → (v : Value) → MovesIn i j v untaken given (λ vs. enter vs false (on (1 * 2 ^ n % 2 ^ 64))) → Returns i j v (poll n)
unfolding moved polled
poll_done n lt v p = moves_acts untaken given (poll n) (moves_by untaken given (λ d. enter d.core.vectors false (on (1 * 2 ^ n % 2 ^ 64)) d.core.lines) (λ vs l. polled vs l n) p (λ d ns h. enter_ext d.core.vectors false _ (only n) d.core.lines (λ m l. on_bit n lt m)))
