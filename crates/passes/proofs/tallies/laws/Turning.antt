-- Events made one after another, turns of the lines, and a move of the lines as an act.
use Rattle.basics.proofs.Prelude.{◌≡◌, sym, ap, subst, ◌∙◌, Bool, true, false, List, [], ◌∷◌, ◌++◌, map, map-append, ℕ, ◌+◌, ◌<◌, ◌≤◌, arith, length, length-append, lt-ltb, le-ltb}
use Rattle.rules.specs.{Lines.Lines, Lines.Made, Lines.Turn, Lines.and_then, Lines.event, Ring.Ring, Ring.RingAct, Ring.Drawn, Ring.ring_step, Ring.ring_run}
use Rattle.rules.specs.{Core.Move, Core.move, Core.moved, Core.line_turn, Device.Device, Device.offers, Device.acted}
use Rattle.rules.proofs.laws.{Rings.run_append, Rings.offered_room, Rings.offered_full, Acts.offers_append}
use Rattle.laws.proofs.laws.Writes.{acted_move}
use Rattle.plain.{specs.Events.returned, specs.Events.kept, specs.Events.dropped, specs.Sequence.notes_of, proofs.laws.Queues.notes_append}
use Rattle.passes.specs.tallies.{Marks.happened, Marks.all_marked, Marks.besides, Marks.marks_of, Following.Stands, Following.Takes, Following.Offers, Following.Turns, Following.Follows}
use Rattle.passes.proofs.tallies.laws.Taking.{takes_none, takes_then, takes_same, marks_one}

-- ---- events

pub offers_none : {wide : Bool} (b : List ℕ) (k w : ℕ) → Offers wide b b k w w (λ vs. [])
unfolding offers ring_run notes_of
offers_none b k w vs r h = (h, takes_none b)

pub offers_then : {wide : Bool} {b c a : List ℕ} (k : ℕ) {w u v : ℕ} (g h : List ℕ → List Made) → Offers wide b c k w u g → Offers wide c a k u v h → Offers wide b a k w v (λ vs. g vs ++ h vs)
offers_then k g h s t vs r e =
    let one = s vs r e in
    let middle = (ring_run r (offers (g vs))).after in
    let two = t vs middle one.0 in
    let after : (ring_run r (offers (g vs ++ h vs))).after ≡ (ring_run middle (offers (h vs))).after =
    ap (λ (os : List RingAct). (ring_run r os).after) (offers_append (g vs) (h vs)) ∙ ap (λ (d : Drawn). d.after) (run_append r (offers (g vs)) (offers (h vs)))
    in
    let notes = ap (map happened) (notes_append k r (g vs) (h vs)) ∙ map-append happened (notes_of k r (g vs)) (notes_of k middle (h vs)) in
    (ap (λ (q : Ring). length q.waiting) after ∙ two.0, takes_same (sym notes) (takes_then _ _ one.1 two.1))

-- one event is offered, and kept or dropped; or returned
module _ {wide : Bool} {b a : List ℕ} (n k : ℕ) (t : Bool) where
  pub offers_kept : {w : ℕ} → w < 16 → Takes wide b a (happened (record { input = n; call = k; vector = 0; asserted = t; fate = kept }) ∷ []) → Offers wide b a k w (w + 1) (λ vs. event vs true t n ∷ [])
  unfolding offers ring_run ring_step notes_of all_marked
  offers_kept {w} room s vs r e =
      let lt : length r.waiting < 16 = omega (arith, e) in
      let grown = ap (λ (q : Ring). length q.waiting) (offered_room r _ lt) ∙ length-append r.waiting _ in
      (grown ∙ ap (λ j. j + 1) e, rw (lt-ltb (length r.waiting) 16 lt) s)

  pub offers_dropped : {w : ℕ} → 16 ≤ w → Takes wide b a (happened (record { input = n; call = k; vector = 0; asserted = t; fate = dropped }) ∷ []) → Offers wide b a k w w (λ vs. event vs true t n ∷ [])
  unfolding offers ring_run ring_step notes_of all_marked
  offers_dropped {w} full s vs r e =
      let ge : 16 ≤ length r.waiting = omega (arith, e) in
      (ap (λ (q : Ring). length q.waiting) (offered_full r _ ge) ∙ e, rw (le-ltb (length r.waiting) 16 ge) s)

  pub offers_returned : (w : ℕ) → Takes wide b a (happened (record { input = n; call = k; vector = 0; asserted = t; fate = returned }) ∷ []) → Offers wide b a k w w (λ vs. event vs false t n ∷ [])
  unfolding offers ring_run notes_of all_marked
  offers_returned w s vs r e = (e, s)

pub offers_same : {wide : Bool} {b a : List ℕ} (k : ℕ) {w u : ℕ} (g h : List ℕ → List Made) → ((vs : List ℕ) → g vs ≡ h vs) → Offers wide b a k w u g → Offers wide b a k w u h
offers_same {wide} {b} {a} k {w} {u} g h e s vs r z = subst (λ (ms : List Made). (length (ring_run r (offers ms)).after.waiting ≡ u) × Takes wide b a (map happened (notes_of k r ms))) (e vs) (s vs r z)

-- ---- turns

pub turns_same : {wide : Bool} {m : Lines} {b a : List ℕ} (k : ℕ) {w u : ℕ} (g h : List ℕ → Turn) → ((vs : List ℕ) → g vs ≡ h vs) → Turns wide m b a k w u g → Turns wide m b a k w u h
turns_same k g h e t = record {
  lines = λ vs. ap (λ (x : Turn). x.after) (sym (e vs)) ∙ t.lines vs;
  events = offers_same k (λ vs. (g vs).made) (λ vs. (h vs).made) (λ vs. ap (λ (x : Turn). x.made) (e vs)) t.events;
}

pub turns_then : {wide : Bool} {m n : Lines} {b c a : List ℕ} (k : ℕ) {w u v : ℕ} (g : List ℕ → Turn) (h : List ℕ → Lines → Turn) → Turns wide m b c k w u g → Turns wide n c a k u v (λ vs. h vs m) → Turns wide n b a k w v (λ vs. and_then (g vs) (h vs))
turns_then {m} k g h s t = record {
  lines = λ vs. ap (λ (l : Lines). (h vs l).after) (s.lines vs) ∙ t.lines vs;
  events = offers_then k (λ vs. (g vs).made) (λ vs. (h vs (g vs).after).made) s.events (offers_same k (λ vs. (h vs m).made) (λ vs. (h vs (g vs).after).made) (λ vs. ap (λ (l : Lines). (h vs l).made) (sym (s.lines vs))) t.events);
}

-- ---- acts

pub follows_move : {wide : Bool} (x : Move) {l m : Lines} {b c a : List ℕ} (k : ℕ) {w u : ℕ} → Takes wide b c (besides k l (move x)) → Turns wide m c a k w u (λ vs. moved vs l x) → Follows wide l w m u b a k (λ _. move x ∷ [])
unfolding line_turn
follows_move x {l} {m} {b} {c} {a} k {w} {u} s t d h =
    let vs = d.core.vectors in
    let e = t.events vs d.ring h.waiting in
    let same = ap (λ (z : Lines). moved vs z x) h.lines in
    let its : Stands m u (acted d (move x ∷ [])) = record {
      lines = ap (λ (z : Device). z.core.lines) (acted_move d x) ∙ ap (λ (z : Turn). z.after) same ∙ t.lines vs;
      waiting = ap (λ (z : Device). length z.ring.waiting) (acted_move d x) ∙ ap (λ (z : Turn). length (ring_run d.ring (offers z.made)).after.waiting) same ∙ e.0;
    } in
    let marks : besides k l (move x) ++ map happened (notes_of k d.ring (moved vs l x).made) ≡ marks_of k d (move x ∷ []) =
    (λ i. besides k (sym h.lines i) (move x) ++ map happened (notes_of k d.ring (moved vs (sym h.lines i) x).made)) ∙ sym (marks_one k d (move x))
    in
    (its, takes_same marks (takes_then _ _ s e.1))
