-- What `update_int_mask` comes to, in its two stages: the lowest newly unmasked input that waits enters, then the newly masked ones leave.
use Rattle.basics.proofs.Prelude.{◌≡◌, sym, ap, subst⁻¹, ◌∙◌, Bool, true, false, cond, ◌&&◌, and-false, List, ◌++◌, map, append-nil, ℕ, ◌+◌, ◌<◌, ◌≤◌, ◌-◌, ◌^◌, arith, bit_and, on, inputs, register, without_common_is, on_none}
use Rattle.rules.specs.Lines.{Made, Turn, with_mask, with_isr, event, enter, leave, pending_in, newly_unmasked, newly_masked, masked}
use Rattle.rules.specs.Device.{offers, returned}
use Rattle.laws.proofs.laws.{Sets.enter_ext, Sets.leave_ext, Losses.lost_few, Losses.enter_few}
use Rattle.device.specs.{state.View.WellRing, state.View.lines_view, state.View.ring_view, state.View.answer_value, declared.state.Lines.Lines, declared.state.Ring.Ring, decide.Sets.served_of}
use Rattle.device.proofs.decide.Deciding.{served_is, inputs_of}
use Rattle.std.specs.Prelude.{Some, None}
use Rattle.port.specs.{declared.push.Pushed.Pushed, push.Pushes.Pushes, irq_level.Moves.Answers, events_for_mask.Offers.Offers, events_for_mask.Offers.events_of, mask_and_clear.Moves.Moves}
use Rattle.port.specs.declared.irq_level.Routed.{Routed}
use Rattle.port.proofs.irq_level.Turns.{serve_after, serve_isr, offers_one, offers_none, enter_none, leave_none}
use Rattle.port.proofs.events_for_mask.Offering.{offers_as, none_offered, one_offered, offered_then}
use Rattle.rules.specs.Lines as lines

module _ (vs : List ℕ) (l : Lines) (r : Ring) (new up : ℕ) (ups : (i : ℕ) → i < 64 → on up i ≡ newly_unmasked l.int_mask new i)
    (hisr : l.intisr < 2 ^ 64) where
  abbrev begun : lines.Lines
  begun = with_mask (lines_view l) new

  abbrev first : Turn
  first = enter vs true (newly_unmasked l.int_mask new) begun

  -- after the first stage
  pub record Entered (out : Lines) (q : Ring) (n : ℕ) : Type 0 where
    pub lines : lines_view out ≡ first.after
    pub offers : Offers q n (ring_view r) first.made

  -- one input enters, so that one event at most is dropped
  pub entered_few : {out : Lines} {q : Ring} {n : ℕ} → Entered out q n → n ≤ 1
  entered_few e = omega (arith, e.offers.dropped, lost_few (ring_view r) first.made, enter_few vs true (newly_unmasked l.int_mask new) begun)

  -- the input that entered and was returned to us is the one that the rules offer
  same : enter vs false (on up) begun ≡ enter vs false (newly_unmasked l.int_mask new) begun
  same = enter_ext vs false (on up) (newly_unmasked l.int_mask new) begun ups

  after_same : {out : lines.Lines} → out ≡ (enter vs false (on up) begun).after → out ≡ first.after
  after_same e = e ∙ ap (λ (t : Turn). t.after) same ∙ sym (serve_after vs begun (inputs (pending_in (newly_unmasked l.int_mask new) begun)))

  module _ (a : Routed) (answers : Answers a (enter vs false (on up) begun)) where
    abbrev gave : returned (enter vs false (newly_unmasked l.int_mask new) begun).made ≡ answer_value a.answer
    gave = sym (answers.gives ∙ ap (λ (t : Turn). returned t.made) same)

    pub entered_one : (v : ℕ) (p : Pushed) (n : ℕ) → a.answer ≡ Some v → Pushes p (ring_view r) (record { vector = v; asserted = true }) → n ≡ cond p.kept 0 1 → Entered a.lines p.ring n
    entered_one v p n e pushes lost = record {
      lines = after_same answers.after;
      offers = one_offered p (ring_view r) n _ first.made pushes lost (offers_one vs begun (inputs (pending_in (newly_unmasked l.int_mask new) begun)) v (sym (gave ∙ ap answer_value e)));
    }

    pub entered_none : a.answer ≡ None → WellRing r → Entered a.lines r 0
    entered_none e well = record {
      lines = after_same answers.after;
      offers = none_offered r first.made well (offers_none vs begun (inputs (pending_in (newly_unmasked l.int_mask new) begun)) (sym (gave ∙ ap answer_value e)));
    }

  -- no input is newly unmasked
  pub entered_skip : (out : Lines) → up ≡ 0 → WellRing r → lines_view out ≡ begun → Entered out r 0
  unfolding offers
  entered_skip out e well shows =
      let stays = enter_none vs true (newly_unmasked l.int_mask new) begun (λ i h. sym (ups i h) ∙ ap (λ (x : ℕ). on x i) e ∙ on_none i) in
      record {
        lines = shows ∙ sym (ap (λ (t : Turn). t.after) stays);
        offers = none_offered r first.made well (ap (λ (t : Turn). offers t.made) stays);
      }

  -- the second stage
  module _ (down : ℕ) (downs : (i : ℕ) → i < 64 → on down i ≡ newly_masked l.int_mask new i) (out : Lines) (q : Ring) (n : ℕ) (entered : Entered out q n) where
    isr_lt : out.intisr < 2 ^ 64
    isr_lt = subst⁻¹ (λ (k : lines.Lines). k.isr < 2 ^ 64) entered.lines (serve_isr vs true begun (inputs (pending_in (newly_unmasked l.int_mask new) begun)) hisr)

    abbrev last : lines.Lines → Turn
    last = leave vs true (newly_masked l.int_mask new)

    -- the events of both stages, once what leaves is known on the lines as they are
    offers_both : (s : Ring) (k : ℕ) (made : List Made) → Offers s k (ring_view q) made → made ≡ (last (lines_view out)).made → Offers s (n + k) (ring_view r) (masked vs (lines_view l) new).made
    unfolding masked
    offers_both s k made o e = offered_then first.made (last first.after).made entered.offers (offers_as (e ∙ ap (λ (k : lines.Lines). (last k).made) entered.lines) o)

    lines_then : {k : lines.Lines} → k ≡ (last (lines_view out)).after → k ≡ (masked vs (lines_view l) new).after
    unfolding masked
    lines_then e = e ∙ ap (λ (k : lines.Lines). (last k).after) entered.lines

    leaves : leave vs true (on down) (lines_view out) ≡ last (lines_view out)
    leaves = leave_ext vs true (on down) (newly_masked l.int_mask new) (lines_view out) downs

    abbrev retracted : ℕ → Lines
    retracted active = record { int_mask = out.int_mask; intirr = out.intirr; intisr = bit_and out.intisr ((2 ^ 64 - 1) - active) }

    pub left_some : (active : ℕ) (s : Ring) (k : ℕ) → active ≡ register (served_of down out.intisr) → Offers s k (ring_view q) (events_of vs active false)
        → Moves (record { lines = retracted active; ring = s; dropped = n + k }) (ring_view r) (masked vs (lines_view l) new)
    left_some active s k e pushed = record {
      lines = lines_then
          (ap (with_isr (lines_view out)) (ap (λ (x : ℕ). bit_and out.intisr ((2 ^ 64 - 1) - x)) (e ∙ sym (served_is down out.intisr isr_lt)) ∙ without_common_is out.intisr down isr_lt) ∙ ap (λ (t : Turn). t.after) leaves);
      offers = offers_both s k _ pushed (ap (map (event vs true false)) (inputs_of (served_of down out.intisr) e) ∙ ap (λ (t : Turn). t.made) leaves);
    }

    pub left_none : down ≡ 0 → Moves (record { lines = out; ring = q; dropped = n }) (ring_view r) (masked vs (lines_view l) new)
    unfolding offers masked
    left_none e =
        let stays = leave_none vs true (newly_masked l.int_mask new) (lines_view out) isr_lt (λ i h. ap (λ (b : Bool). on out.intisr i && b) (sym (downs i h) ∙ ap (λ (x : ℕ). on x i) e ∙ on_none i) ∙ and-false (on out.intisr i)) in
        record {
          lines = lines_then (sym (ap (λ (t : Turn). t.after) stays));
          offers = offers_as
              (sym (append-nil first.made) ∙ ap (λ (ms : List Made). first.made ++ ms) (sym (ap (λ (t : Turn). t.made) stays) ∙ ap (λ (k : lines.Lines). (last k).made) entered.lines))
              entered.offers;
        }
