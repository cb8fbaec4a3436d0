-- The loop of a drain: at each turn the oldest event comes out of the ring and stands as a pair behind those before it.
use Rattle.basics.proofs.Prelude.{◌≡◌, refl, sym, ap, ap₂, ◌∙◌, false, List, [], ◌∷◌, ◌++◌, append-nil, ℕ, suc, ◌+◌, ◌-◌, ◌*◌, ◌/◌, ◌<◌, ◌≤◌, min, arith, length, take, drop, get_or, set, length-set, length-take, take-append-drop, drop_of_length-le, drop-drop, drop-set-lt, drop-cons, take_all, leb, leb-true, leb-false, test, turn}
use Rattle.rules.specs.Ring.{Event, Drawn, drawn, flag, pairs_of}
use Rattle.device.{proofs.state.Slots.ring_of, specs.state.View.WellRing, specs.state.View.ring_view, specs.state.View.event_of, specs.declared.state.Ring.Ring, specs.declared.state.PchPicOutputEvent.PchPicOutputEvent}
use Rattle.port.specs.{pop.Pops.Pops, pop.Pops.taken_of, declared.pop.Popped.Popped}
use Rattle.std.specs.Prelude.{Option, Some, None}
use Rattle.port.specs.drain_output.Drains.{Drains, pair_put}
use Rattle.rules.specs.Ring as ring

-- what holds at turn i of n: the ring is i events shorter, the pairs so far and those to come are all n, and what lies behind is as it was
pub record Draining (before : ring.Ring) (n : ℕ) (entry buf : List ℕ) (out : Ring) (i : ℕ) : Type 0 where
  pub well : WellRing out
  pub ring : ring_view out ≡ ring_of (drop i before.waiting) before.drops
  pub within : i ≤ n
  pub pairs : take (2 * i) buf ++ pairs_of (take (n - i) (drop i before.waiting)) ≡ pairs_of (take n before.waiting)
  pub behind : drop (2 * i) buf ≡ drop (2 * i) entry
  pub size : length buf ≡ length entry

-- the next event, and those after it
next_event : (w : List Event) (i n : ℕ) → i < n → i < length w
    → (e : Event) (es : List Event) → drop i w ≡ e ∷ es → pairs_of (take (n - i) (drop i w)) ≡ e.vector ∷ flag e.asserted ∷ pairs_of (take (n - (i + 1)) es)
next_event w i n h k e es q =
    let s : n - i ≡ suc (n - (i + 1)) = omega arith in
    ap₂ (λ (m : ℕ) (l : List Event). pairs_of (take m l)) s q

none_event : Event
none_event = record { vector = 0; asserted = false }

module _ (before : ring.Ring) (n : ℕ) (entry buf : List ℕ) (out : Ring) (i : ℕ) (d : Draining before n entry buf out i)
    (h : i < n) (fits : 2 * n ≤ length entry) (waits : n ≤ length before.waiting) where
  abbrev rest : List Event
  rest = drop (suc i) before.waiting

  first : drop i before.waiting ≡ get_or before.waiting i none_event ∷ rest
  first = drop-cons before.waiting i none_event (omega arith)

  -- the pop takes that event out
  popped : (p : Popped) → Pops p (ring_view out) → ◌≡◌ {A = Drawn} (record { after = ring_view p.ring; drained = taken_of p.event }) (record { after = ring_of rest before.drops; drained = get_or before.waiting i none_event ∷ [] })
  unfolding drawn
  popped p q =
      q.shows ∙ ap (λ (r : ring.Ring). drawn r 1) d.ring
      ∙ ap (λ (l : List Event). record { after = ring_of (drop 1 l) before.drops; drained = take 1 l }) first

  -- and it is written
  written : (t : Option PchPicOutputEvent) → taken_of t ≡ get_or before.waiting i none_event ∷ []
      → (take (2 * (i + 1)) (pair_put buf i t) ++ pairs_of (take (n - (i + 1)) rest) ≡ pairs_of (take n before.waiting))
      × (drop (2 * (i + 1)) (pair_put buf i t) ≡ drop (2 * (i + 1)) entry)
      × (length (pair_put buf i t) ≡ length entry)
  written None e = absurd (let z : ◌≡◌ {A = ℕ} 0 1 = cc in omega arith)
  written (Some x) e =
      let same : event_of x ≡ get_or before.waiting i none_event = cc in
      let two : 2 * (i + 1) ≡ 2 * i + 1 + 1 = omega arith in
      let more : 2 * (i + 1) ≡ 2 * i + 2 = omega arith in
      let come = next_event before.waiting i n h (omega arith) (event_of x) rest (first ∙ ap (λ (y : Event). y ∷ rest) (sym same)) in (
        rw two
            (turn (set buf (2 * i) x.vector) _ (2 * i + 1) (flag x.asserted) (simp length-set (omega (arith, d.size)))
            (turn buf _ (2 * i) x.vector (omega (arith, d.size)) d.pairs come) refl),
        drop-set-lt (2 * (i + 1)) (set buf (2 * i) x.vector) (2 * i + 1) (flag x.asserted) (omega arith) ∙ drop-set-lt (2 * (i + 1)) buf (2 * i) x.vector (omega arith)
            ∙ ap (λ (k : ℕ). drop k buf) more ∙ sym (drop-drop 2 (2 * i) buf) ∙ ap (drop 2) d.behind ∙ drop-drop 2 (2 * i) entry ∙ ap (λ (k : ℕ). drop k entry) (sym more),
        simp length-set d.size,
      )

  pub drain_step : (p : Popped) (after : List ℕ) → Pops p (ring_view out) → after ≡ pair_put buf i p.event → Draining before n entry after p.ring (i + 1)
  drain_step p after q e =
      let w = written p.event (ap (λ (t : Drawn). t.drained) (popped p q)) in
      let s : suc i ≡ i + 1 = omega arith in
      record {
        well = q.well;
        ring = ap (λ (t : Drawn). t.after) (popped p q) ∙ ap (λ (k : ℕ). ring_of (drop k before.waiting) before.drops) s;
        within = omega arith;
        pairs = (λ t. take (2 * (i + 1)) (e t) ++ pairs_of (take (n - (i + 1)) (drop (sym s t) before.waiting))) ∙ w.0;
        behind = ap (drop (2 * (i + 1))) e ∙ w.1;
        size = ap length e ∙ w.2;
      }

-- as many as there are, or as fit
take_fewer : (l : List Event) (n k : ℕ) → n ≡ min (length l) k → take n l ≡ take k l
take_fewer l n k e =
    test (leb k (length l)) (λ t. let q : n ≡ k = omega (arith, leb-true k (length l) t) in ap (λ (m : ℕ). take m l) q)
    (λ t.
    let q = leb-false k (length l) t in
    take_all n l (omega arith) ∙ sym (take_all k l (omega arith)))

drop_fewer : (l : List Event) (n k : ℕ) → n ≡ min (length l) k → drop n l ≡ drop k l
drop_fewer l n k e =
    test (leb k (length l)) (λ t. let q : n ≡ k = omega (arith, leb-true k (length l) t) in ap (λ (m : ℕ). drop m l) q)
    (λ t.
    let q = leb-false k (length l) t in
    let none : length l ≤ n = omega arith in
    let past : length l ≤ k = omega arith in
    drop_of_length-le l none ∙ sym (drop_of_length-le l past))

pub drain_done : (before : ring.Ring) (n : ℕ) (entry buf : List ℕ) (out : Ring) → Draining before n entry buf out n → n ≡ min (length before.waiting) (length entry / 2)
    → Drains (record { ring = out; count = n }) before entry buf
unfolding drawn
drain_done before n entry buf out d e =
    let k = length entry / 2 in
    let z : n - n ≡ 0 = omega arith in
    record {
      well_ring = d.well;
      ring = d.ring ∙ ap (λ (l : List Event). ring_of l before.drops) (drop_fewer before.waiting n k e);
      count = omega (arith, length-take k before.waiting);
      pairs =
          sym (take-append-drop (2 * n) buf)
          ∙ ap₂ (λ (a b : List ℕ). a ++ b) (sym (append-nil (take (2 * n) buf)) ∙ (rw z at d.pairs) ∙ ap pairs_of (take_fewer before.waiting n k e)) d.behind;
    }
