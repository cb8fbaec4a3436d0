-- One call: the plain engine gives the value and the drained events of the ported one, and both stand side by side after it.
use Rattle.basics.proofs.Prelude.{◌≡◌, refl, sym, ap, ◌∙◌, Bool, true, false, List, [], ◌∷◌, ◌++◌, map, append-nil, ℕ, ◌+◌, min, arith, length, take, length-append}
use Rattle.rules.specs.{Ring.Event, Ring.stop, Ring.drawn, Ring.ring_run, Ring.dropped, Core.CoreTurn, Core.Move, Core.move, Core.moved, Core.turns, Core.line_turn, Access.Width, Access.write_acts}
use Rattle.rules.specs.Device.{Device, WellFormed, Call, level, poll, read, write, drain, some, acts_of, draws, acted, step, value, returned, lost}
use Rattle.rules.proofs.laws.{Acts.step_acted, Steps.turns_one, Steps.drain_device, Steps.drain_drained}
use Rattle.plain.specs.{Events.waiting, Events.with_drained, Events.as_loaded, Machine.polls, Machine.raises, Machine.lowers}
use Rattle.plain.specs.Plain.{Engine, Heard, heard, Steps, at, stepping, returns, counted, vector_of, lost_between, gives, with_queue, write_at}
use Rattle.plain.specs.Sequence.{load_of, shown, notes_of}
use Rattle.plain.proofs.laws.Machines.{one_of_lem, made_by, Steps-are, polled_steps, raised_steps, lowered_steps}
use Rattle.plain.proofs.laws.Queues.{tail_of, lost_of, loaded_kept, loaded_dropped, drained_tail}
use Rattle.plain.proofs.laws.Same.{Run, Same, by_run, acting, acting_none, acting_move, turn_returns, heard_same}
use Rattle.plain.proofs.laws.Accesses.{Sized, SizedRun, mask_read, irr_read, isr_read, read_same, same_write}
use Rattle.rules.specs.Core as core
use Rattle.rules.specs.Device as device

-- the ported engine after a call
abbrev pub stepped : Run → Call → Run
stepped r c = record {
  device = (step r.device c).after;
  call = r.call + 1;
  notes = r.notes ++ notes_of r.call r.device.ring (step r.device c).made;
  brought = r.brought;
  lost = r.lost ++ lost_of r.device.ring (step r.device c).made;
}

-- the next call's number
abbrev pub counted_run : Run → Run
counted_run r = record { device = r.device; call = r.call + 1; notes = r.notes; lost = r.lost; brought = r.brought }

-- a call that draws nothing is its acts
stepped_acting : (r : Run) (c : Call) → draws c ≡ [] → stepped r c ≡ counted_run (acting r (acts_of r.device.core c))
unfolding step
stepped_acting r c e t =
    let made = (turns r.device.core (acts_of r.device.core c)).made in
    record {
      device = step_acted r.device c e t;
      call = r.call + 1;
      notes = r.notes ++ notes_of r.call r.device.ring made;
      lost = r.lost ++ lost_of r.device.ring made;
      brought = r.brought;
    }

none_drained : (d : Device) (c : Call) → draws c ≡ [] → [] ≡ (step d c).drained
unfolding step ring_run
none_drained d c e = ap (λ os. (ring_run (acted d (acts_of d.core c)).ring os).drained) (sym e)

pub same_counted : (e : Engine) (r : Run) → Same e r → Same (counted e) (counted_run r)
same_counted e r x = record {
  machine = x.machine;
  vectors = x.vectors;
  stored = x.stored;
  call = ap (λ k. k + 1) x.call;
  tail = tail_of e (counted e) refl refl x.tail;
}

-- what a call gives
pub record Alike (e : Engine) (r : Run) (c : Call) : Type 0 where
  pub after : Same (gives e c).after (stepped r c)
  pub value : (gives e c).value ≡ value r.device c
  pub drained : (gives e c).drained ≡ (step r.device c).drained

-- the vector returned is that of what is heard
vector_returned : (e : Engine) (hs : List Heard) → vector_of e hs ≡ returned (map (made_by e.vectors false) hs)
vector_returned e [] = refl
vector_returned e (h ∷ hs) = refl

module _ (e : Engine) (r : Run) (x : Same e r) where
  abbrev d : Device
  d = r.device

  -- a call on one input
  module _ (c : Call) (m : Move) (f : Steps) (is : acts_of d.core c ≡ move m ∷ []) (quiet : draws c ≡ [])
      (s : Steps-are d.core.vectors false f d.core.lines (moved d.core.vectors d.core.lines m)) where
    input_after : Same (counted (stepping returns f e)) (stepped r c)
    input_after =
        by_run _ (stepped_acting r c quiet ∙ ap counted_run (ap (acting r) is ∙ acting_move r m))
        (same_counted (stepping returns f e) _ (turn_returns e r f (moved d.core.vectors d.core.lines m) x s))

    input_value : vector_of e (heard f e) ≡ returned (step d c).made
    unfolding step line_turn
    input_value =
        vector_returned e (heard f e)
        ∙ ap returned ((λ t. map (made_by (x.vectors t) false) (heard_same e _ _ _ _ _ _ _ _ x f t)) ∙ s.made
        ∙ sym (ap (λ (t : CoreTurn). t.made) (ap (turns d.core) is ∙ turns_one d.core (move m))))

  like_level : (n : ℕ) (b : Bool) → Alike e r (level n b)
  unfolding gives acts_of moved value
  like_level n true =
      let s = raised_steps n d.core.lines d.core.vectors in
      record {
        after = input_after (level n true) (core.raise n) (at n raises) refl refl s;
        value = input_value (level n true) (core.raise n) (at n raises) refl refl s;
        drained = none_drained d (level n true) refl;
      }
  like_level n false =
      let s = lowered_steps n d.core.lines d.core.vectors in
      record {
        after = input_after (level n false) (core.lower n) (at n lowers) refl refl s;
        value = input_value (level n false) (core.lower n) (at n lowers) refl refl s;
        drained = none_drained d (level n false) refl;
      }

  like_poll : (n : ℕ) → Alike e r (poll n)
  unfolding gives acts_of moved value
  like_poll n =
      let s = polled_steps n d.core.lines d.core.vectors in
      record {
        after = input_after (poll n) (core.poll n) (at n polls) refl refl s;
        value = input_value (poll n) (core.poll n) (at n polls) refl refl s;
        drained = none_drained d (poll n) refl;
      }

  like_drain : (k : ℕ) → Alike e r (drain k)
  unfolding gives value step acts_of turns device.offers dropped drawn notes_of
  like_drain k =
      let es : take k (waiting e.queue) ≡ (step d (drain k)).drained = ap (take k) x.tail.waits ∙ sym (drain_drained d k) in
      let goes : Run = record { device = device.with_ring d (drawn d.ring k).after; call = r.call + 1; notes = r.notes; lost = r.lost; brought = r.brought } in
      let same : stepped r (drain k) ≡ goes =
      λ t. record { device = drain_device d k t; call = r.call + 1; notes = append-nil r.notes t; lost = append-nil r.lost t; brought = r.brought }
      in
      record {
        after = by_run _ same (record {
          machine = x.machine;
          vectors = x.vectors;
          stored = x.stored;
          call = ap (λ k. k + 1) x.call;
          tail = tail_of (with_queue e (with_drained e.queue k)) _ refl refl (drained_tail e d.ring r.notes r.lost r.brought k x.tail);
        });
        value = ap (λ (l : List Event). some (length l)) es;
        drained = es;
      }

  module _ (z : SizedRun r) where
    like_read : (w : Width) (o : ℕ) → Alike e r (read w o)
    unfolding gives value acts_of
    like_read w o = record {
      after = by_run _ (stepped_acting r (read w o) refl ∙ ap counted_run (acting_none r)) (same_counted e r x);
      value = ap some (read_same e r x z w o);
      drained = none_drained d (read w o) refl;
    }

    like_write : (w : Width) (o v : ℕ) → Alike e r (write w o v)
    unfolding gives value acts_of step
    like_write w o v =
        let xs = write_acts d.core w o v in
        let y = same_write e r x z w o v in
        let more = lost_of d.ring (turns d.core xs).made in
        let told : lost_between e (write_at e w o v) ≡ length more =
        omega (arith, ap length y.tail.lost, length-append r.lost more, ap length x.tail.lost)
        in
        record {
          after = by_run _ (stepped_acting r (write w o v) refl) (same_counted _ _ y);
          value = ap some told;
          drained = none_drained d (write w o v) refl;
        }

    -- any call
    pub like_call : (c : Call) → Alike e r c
    like_call (level n b) = like_level n b
    like_call (poll n) = like_poll n
    like_call (read w o) = like_read w o
    like_call (write w o v) = like_write w o v
    like_call (drain k) = like_drain k

-- ---- a load, and what is shown

-- the ported engine right after a load: nothing has been made since
abbrev pub loaded_run : Device → Run
loaded_run d = record { device = d; call = 0; notes = []; lost = []; brought = d.ring.waiting }

pub sized : {d : Device} → WellFormed d → Sized d.core.lines
sized w = record { mask = w.mask; irr = w.irr; isr = w.isr }

pub same_load : (old : Engine) (d : Device) → WellFormed d → Same (load_of old d) (loaded_run d)
unfolding load_of
same_load old d w = record {
  machine = λ n b. one_of_lem d.core.lines n;
  vectors = refl;
  stored = refl;
  call = refl;
  tail = record {
    waits = loaded_kept d.ring.waiting;
    count = ap (λ (es : List Event). min (d.ring.drops + length es) stop) (loaded_dropped d.ring.waiting) ∙ omega (arith, w.drops);
    taken = omega arith;
    notes = refl;
    lost = loaded_dropped d.ring.waiting;
    list = sym (append-nil (map as_loaded d.ring.waiting));
  };
}

pub shown_is : (e : Engine) (r : Run) → Same e r → SizedRun r → shown e ≡ r.device
shown_is e r x s t = record {
  core = record {
    lines = record { mask = mask_read e r x s t; irr = irr_read e r x s t; isr = isr_read e r x s t };
    vectors = x.vectors t;
    stored = x.stored t;
  };
  ring = record { waiting = x.tail.waits t; drops = x.tail.count t };
}
