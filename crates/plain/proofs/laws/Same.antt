-- The plain engine and the ported one side by side: the relation between them, kept by every half, byte and width that is written.
use Rattle.basics.proofs.Prelude.{◌≡◌, refl, sym, ap, subst, ◌∙◌, Bool, true, false, List, [], ◌∷◌, ◌++◌, map, append-nil, append_assoc, ℕ, ◌<◌, with_half}
use Rattle.rules.specs.{Lines.Made, Lines.Turn, Lines.with_isr, Lines.leave, Lines.masked, Ring.Event, Ring.Ring, Ring.RingAct, Ring.Drawn, Ring.ring_run, Ring.dropped}
use Rattle.rules.specs.Core.{Stored, CoreTurn, Move, Act, move, set_isr, set_mask, moved, line_turn, vectors_after, stored_after, turn, turns}
use Rattle.rules.{specs.Device.Device, specs.Device.acted, proofs.laws.Rings.run_append, proofs.laws.Rings.dropped_append}
use Rattle.rules.proofs.laws.{Acts.turns_append, Acts.offers_append, Acts.acted_none, Acts.acted_append, Steps.turns_one, Steps.acted_one}
use Rattle.plain.specs.{Events.Note, Machine.Machine}
use Rattle.plain.specs.Plain.{Engine, heard_from, heard, Steps, stepping, returns, offers, with_machines, brings, unmasked_by, masked_by, wakable, Found, lowest_from, remasked_by, remasked}
use Rattle.plain.specs.Sequence.{notes_of}
use Rattle.plain.proofs.laws.Machines.{machine, one_of, made_by, heard_ext, Steps-are, lowest_ext, woken_in, middle, unmask_made, mask_after, mask_made, masked_is, new, begun, leaving}
use Rattle.plain.proofs.laws.Queues.{Tail, tail_of, Else, offers_else, returns_else, ring_after, lost_of, offers_tail, returns_tail, returned_unoffered, notes_append}
use Rattle.rules.specs.Device as device

-- ---- the relation

-- an engine has these machines, bytes and stored registers, is at the call k, and its list and history stand to a ring as they should
pub record Stands (e : Engine) (ms : ℕ → Machine) (vs : List ℕ) (s : Stored) (k : ℕ) (r : Ring) (ns : List Note) (ls bs : List Event) : Type 0 where
  pub machine : (n : ℕ) → n < 64 → e.machines n ≡ ms n
  pub vectors : e.vectors ≡ vs
  pub stored : e.stored ≡ s
  pub call : e.call ≡ k
  pub tail : Tail e r ns ls bs

-- the ported engine, with the number of its next call, the events noted and those dropped since the load, and what waited at the load
pub record Run : Type 0 where
  pub device : Device
  pub call : ℕ
  pub notes : List Note
  pub lost : List Event
  pub brought : List Event

abbrev pub Same : Engine → Run → Type 0
Same e r =
    Stands e (one_of r.device.core.lines) r.device.core.vectors r.device.core.stored r.call r.device.ring r.notes r.lost r.brought

pub other_machines : {e : Engine} (ms ns : ℕ → Machine) {vs : List ℕ} {s : Stored} {k : ℕ} {r : Ring} {N : List Note} {L B : List Event}
    → ((n : ℕ) → n < 64 → ms n ≡ ns n) → Stands e ms vs s k r N L B → Stands e ns vs s k r N L B
other_machines ms ns f x = record { machine = λ n b. x.machine n b ∙ f n b; vectors = x.vectors; stored = x.stored; call = x.call; tail = x.tail }

-- of two runs that are equal
pub by_run : (e : Engine) {r s : Run} → s ≡ r → Same e r → Same e s
by_run e p x = subst (Same e) (sym p) x

-- ---- steps

module _ (e : Engine) (ms : ℕ → Machine) (vs : List ℕ) (s : Stored) (k : ℕ) (r : Ring) (N : List Note) (L B : List Event) (x : Stands e ms vs s k r N L B) (f : Steps) where
  pub heard_same : heard f e ≡ heard_from 0 64 (λ n. (f n (ms n)).signal)
  heard_same = heard_ext 0 64 _ _ (λ i p b. ap (λ (m : Machine). (f i m).signal) (x.machine i b))

  made_same : (o : Bool) → map (made_by e.vectors o) (heard f e) ≡ map (made_by vs o) (heard_from 0 64 (λ n. (f n (ms n)).signal))
  made_same o t = map (made_by (x.vectors t) o) (heard_same t)

  abbrev moving : Engine
  moving = with_machines e (λ n. (f n (e.machines n)).after)

  -- all but list and history
  moved_on : (g : Engine) → Else moving g → {q : Ring} {ns : List Note} {ls : List Event} → Tail g q ns ls B → Stands g (λ n. (f n (ms n)).after) vs s k q ns ls B
  moved_on g rest t = record {
    machine = λ n b. ap (λ (h : ℕ → Machine). h n) rest.machines ∙ ap (λ (m : Machine). (f n m).after) (x.machine n b);
    vectors = rest.vectors ∙ x.vectors;
    stored = rest.stored ∙ x.stored;
    call = rest.call ∙ x.call;
    tail = t;
  }

  pub step_offers : (made : List Made) → map (made_by vs true) (heard_from 0 64 (λ n. (f n (ms n)).signal)) ≡ made
      → Stands (stepping offers f e) (λ n. (f n (ms n)).after) vs s k (ring_after r made) (N ++ notes_of k r made) (L ++ lost_of r made) B
  step_offers made is =
      let new = map (made_by e.vectors true) (heard f e) in
      let tail = offers_tail (heard f e) moving r N L B (tail_of e moving refl refl x.tail) in
      let at_call = subst (λ (c : ℕ). Tail (stepping offers f e) (ring_after r new) (N ++ notes_of c r new) (L ++ lost_of r new) B) x.call tail in
      moved_on (stepping offers f e) (offers_else moving (heard f e))
      (subst (λ (ms : List Made). Tail (stepping offers f e) (ring_after r ms) (N ++ notes_of k r ms) (L ++ lost_of r ms) B) (made_same true ∙ is) at_call)

  pub step_returns : (made : List Made) → map (made_by vs false) (heard_from 0 64 (λ n. (f n (ms n)).signal)) ≡ made
      → Stands (stepping returns f e) (λ n. (f n (ms n)).after) vs s k r (N ++ notes_of k r made) L B
  step_returns made is =
      let new = map (made_by e.vectors false) (heard f e) in
      let tail = returns_tail (heard f e) moving r N L B (tail_of e moving refl refl x.tail) in
      let at_call = subst (λ (c : ℕ). Tail (stepping returns f e) r (N ++ notes_of c r new) L B) x.call tail in
      moved_on (stepping returns f e) (returns_else moving (heard f e))
      (subst (λ (ms : List Made). Tail (stepping returns f e) r (N ++ notes_of k r ms) L B) (made_same false ∙ is) at_call)

-- ---- acts of the ported engine

abbrev pub acting : Run → List Act → Run
acting r xs = record {
  device = acted r.device xs;
  call = r.call;
  notes = r.notes ++ notes_of r.call r.device.ring (turns r.device.core xs).made;
  brought = r.brought;
  lost = r.lost ++ lost_of r.device.ring (turns r.device.core xs).made;
}

ring_after_append : (r : Ring) (xs ys : List Made) → ring_after r (xs ++ ys) ≡ ring_after (ring_after r xs) ys
ring_after_append r xs ys =
    ap (λ (os : List RingAct). (ring_run r os).after) (offers_append xs ys) ∙ ap (λ (t : Drawn). t.after) (run_append r (device.offers xs) (device.offers ys))

lost_of_append : (r : Ring) (xs ys : List Made) → lost_of r (xs ++ ys) ≡ lost_of r xs ++ lost_of (ring_after r xs) ys
lost_of_append r xs ys = ap (dropped r) (offers_append xs ys) ∙ dropped_append r (device.offers xs) (device.offers ys)

module _ (r : Run) (xs ys : List Act) where
  acting_made : (turns r.device.core (xs ++ ys)).made ≡ (turns r.device.core xs).made ++ (turns (acted r.device xs).core ys).made
  unfolding acted
  acting_made = ap (λ (t : CoreTurn). t.made) (turns_append r.device.core xs ys)

  acting_lost : lost_of r.device.ring (turns r.device.core (xs ++ ys)).made
      ≡ lost_of r.device.ring (turns r.device.core xs).made ++ lost_of (acted r.device xs).ring (turns (acted r.device xs).core ys).made
  unfolding acted
  acting_lost = ap (lost_of r.device.ring) acting_made ∙ lost_of_append r.device.ring (turns r.device.core xs).made (turns (acted r.device xs).core ys).made

  acting_notes : notes_of r.call r.device.ring (turns r.device.core (xs ++ ys)).made
      ≡ notes_of r.call r.device.ring (turns r.device.core xs).made ++ notes_of r.call (acted r.device xs).ring (turns (acted r.device xs).core ys).made
  unfolding acted
  acting_notes =
      ap (notes_of r.call r.device.ring) acting_made
      ∙ notes_append r.call r.device.ring (turns r.device.core xs).made (turns (acted r.device xs).core ys).made

  pub acting_append : acting r (xs ++ ys) ≡ acting (acting r xs) ys
  acting_append =
      let k = r.call in
      let g = r.device.ring in
      let one = (turns r.device.core xs).made in
      let two = (turns (acted r.device xs).core ys).made in
      let h = (acted r.device xs).ring in
      let n = ap (λ (ns : List Note). r.notes ++ ns) acting_notes ∙ sym (append_assoc r.notes (notes_of k g one) (notes_of k h two)) in
      let l = ap (λ (es : List Event). r.lost ++ es) acting_lost ∙ sym (append_assoc r.lost (lost_of g one) (lost_of h two)) in
      λ t. record { device = acted_append r.device xs ys t; call = k; notes = n t; lost = l t; brought = r.brought }

-- no act
pub acting_none : (r : Run) → acting r [] ≡ r
unfolding turns device.offers dropped notes_of
acting_none r t = record { device = acted_none r.device t; call = r.call; notes = append-nil r.notes t; lost = append-nil r.lost t; brought = r.brought }

-- one act
abbrev pub acting1 : Run → Act → Run
acting1 r a = record {
  device = record { core = (turn r.device.core a).after; ring = ring_after r.device.ring (turn r.device.core a).made };
  call = r.call;
  notes = r.notes ++ notes_of r.call r.device.ring (turn r.device.core a).made;
  brought = r.brought;
  lost = r.lost ++ lost_of r.device.ring (turn r.device.core a).made;
}

pub acting_one : (r : Run) (a : Act) → acting r (a ∷ []) ≡ acting1 r a
acting_one r a t =
    let m = ap (λ (c : CoreTurn). c.made) (turns_one r.device.core a) in
    record {
      device = acted_one r.device a t;
      call = r.call;
      notes = r.notes ++ notes_of r.call r.device.ring (m t);
      lost = r.lost ++ lost_of r.device.ring (m t);
      brought = r.brought;
    }

-- a turn of the lines alone
abbrev pub turning : Run → Turn → Run
turning r t = record {
  device = record {
    core = record { lines = t.after; vectors = r.device.core.vectors; stored = r.device.core.stored };
    ring = ring_after r.device.ring t.made;
  };
  call = r.call;
  notes = r.notes ++ notes_of r.call r.device.ring t.made;
  brought = r.brought;
  lost = r.lost ++ lost_of r.device.ring t.made;
}

pub acting_move : (r : Run) (m : Move) → acting r (move m ∷ []) ≡ turning r (moved r.device.core.vectors r.device.core.lines m)
unfolding line_turn vectors_after stored_after
acting_move r m = acting_one r (move m)

pub acting_isr : (r : Run) (h : Bool) (v : ℕ) → acting r (set_isr h v ∷ [])
    ≡ turning r (record { after = with_isr r.device.core.lines (with_half h r.device.core.lines.isr v); made = [] })
unfolding line_turn vectors_after stored_after
acting_isr r h v = acting_one r (set_isr h v)

-- ---- a turn of the lines, by steps of the machines

pub turn_offers : (e : Engine) (r : Run) (f : Steps) (t : Turn) → Same e r → Steps-are r.device.core.vectors true f r.device.core.lines t
    → Same (stepping offers f e) (turning r t)
turn_offers e r f t x s = other_machines _ _ s.after (step_offers e _ _ _ _ _ _ _ _ x f t.made s.made)

pub turn_returns : (e : Engine) (r : Run) (f : Steps) (t : Turn) → Same e r → Steps-are r.device.core.vectors false f r.device.core.lines t
    → Same (stepping returns f e) (turning r t)
unfolding ring_run dropped
turn_returns e r f t x s =
    let hs = heard_from 0 64 (λ n. (f n (one_of r.device.core.lines n)).signal) in
    let none : device.offers t.made ≡ [] = ap device.offers (sym s.made) ∙ returned_unoffered r.device.core.vectors hs in
    let y = other_machines _ _ s.after (step_returns e _ _ _ _ _ _ _ _ x f t.made s.made) in
    rw (none, append-nil r.lost) y

-- ---- MASK

pub same_mask : (e : Engine) (r : Run) (h : Bool) (v : ℕ) → Same e r → Same (remasked h v e) (acting r (move (set_mask h v) ∷ []))
unfolding moved
same_mask e r h v x =
    let l = r.device.core.lines in
    let vs = r.device.core.vectors in
    let woken = lowest_ext (λ n. wakable (brings h v n) (e.machines n)) (λ n. wakable (brings h v n) (one_of l n)) (λ i b. ap (wakable (brings h v i)) (x.machine i b)) in
    let m1 = (begun h v l vs).made in
    let m2 = (leave vs true (leaving h v l vs) (begun h v l vs).after).made in
    let one = step_offers e (one_of l) vs _ _ _ _ _ _ x (λ n. unmasked_by (woken_in h v l vs n) (brings h v n)) m1 (unmask_made h v l vs) in
    let two = step_offers _ (middle h v l vs) vs _ _ _ _ _ _ one (λ n. masked_by (brings h v n)) m2 (mask_made h v l vs) in
    let three = other_machines _ _ (mask_after h v l vs) two in
    let both : Same (remasked_by (lowest_from 0 64 (λ n. wakable (brings h v n) (one_of l n))) h v e) (turning r (masked vs l (new h v l vs))) =
    rw (
      masked_is h v l vs,
      ring_after_append r.device.ring m1 m2,
      lost_of_append r.device.ring m1 m2,
      notes_append r.call r.device.ring m1 m2,
      ← append_assoc r.notes (notes_of r.call r.device.ring m1) (notes_of r.call (ring_after r.device.ring m1) m2),
      ← append_assoc r.lost (lost_of r.device.ring m1) (lost_of (ring_after r.device.ring m1) m2),
    ) three
    in
    by_run (remasked h v e) (acting_move r (set_mask h v)) (subst (λ (w : Found). Same (remasked_by w h v e) (turning r (masked vs l (new h v l vs)))) (sym woken) both)
