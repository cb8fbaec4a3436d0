-- MASK and CLEAR, done in place: the stores to the registers and the offers come to the rules' steps, and those one after another to the rules' two stages.
use Rattle.basics.proofs.Prelude.{◌≡◌, refl, ap, ◌∙◌, subst, Bool, true, false, not, and_comm, List, [], ◌∷◌, map, ℕ, ◌+◌, ◌-◌, ◌^◌, ◌<◌, add-zero, bit_and, on, inputs, register, without, with_half, Each, on_and_not, without_is}
use Rattle.rules.specs.Lines.{Turn, stay, with_mask, with_irr, with_isr, event, and_then, pending_in, serve, enter, leave, newly_unmasked, newly_masked, cleared, masked}
use Rattle.rules.specs.{Core.move, Core.moved, Core.clear, Core.set_mask, Ring.ring_step, Ring.ring_run, Ring.dropped, Ring.lost_of}
use Rattle.rules.specs.{Device.Device, Device.Value, Device.offers, Device.returned, Device.lost, Numbering.Numbers, Numbering.takes_all}
use Rattle.laws.proofs.laws.Sets.{stages}
use Rattle.device.specs.decide.Sets.{served_of}
use Rattle.fields.specs.inplace.Held.{Holds, Reads, Becomes, takes_each, Offers, MovesIn, Writes, with_lines, with_ring, given, untaken}
use Rattle.fields.proofs.inplace.{Doing.does_same, Doing.becomes_then, Doing.takes_each_lem, Doing.moves_acts, Turning.after_turn, Turning.moves_by, Turning.moves_then}
use Rattle.lines.proofs.enter_leave.Moving.{serving, stays}
use Rattle.lines.specs.events.Offered.{assert_of, deasserts}

-- ---- the event of an input that entered is returned to us, and then offered

module _ (d : Device) where
  abbrev entering : Bool → List ℕ → Turn
  entering o ns = serve d.core.vectors o d.core.lines ns

  offered_device : (ns : List ℕ) → with_ring (after_turn d (entering false ns)) (ring_run (after_turn d (entering false ns)).ring (assert_of (returned (entering false ns).made))).after ≡ after_turn d (entering true ns)
  unfolding offers ring_run ring_step
  offered_device [] = refl
  offered_device (n ∷ ns) = refl

  offered_lost : (ns : List ℕ) → lost_of (after_turn d (entering false ns)).ring (assert_of (returned (entering false ns).made)) ≡ lost d.ring (entering true ns).made
  unfolding offers ring_run
  offered_lost [] = refl
  offered_lost (n ∷ ns) = refl

  offered_taken : (s : Numbers) (ns : List ℕ) → takes_each s (assert_of (returned (entering false ns).made)) ≡ takes_all s (entering true ns).made
  unfolding takes_all
  offered_taken s [] = refl
  offered_taken s (n ∷ ns) = refl

entered_offered : {i j k : List ℕ} {n : ℕ} (v : Value) (f : ℕ → Bool) → MovesIn i j v untaken given (λ vs. enter vs false f) → Offers j k n (λ d. assert_of v) → MovesIn i k n takes_all lost (λ vs. enter vs true f)
entered_offered {i} {j} {k} v f p o =
    does_same (record { becomes = λ d ns h. o.becomes _ ns (p.becomes d ns h); gives = λ d ns h. o.gives _ ns (p.becomes d ns h) })
    (λ d ns h. ap (λ y. with_ring (after_turn d (entering d false (its d))) (ring_run (after_turn d (entering d false (its d))).ring (assert_of y)).after) (p.gives d ns h) ∙ offered_device d (its d))
    (λ d ns h. ap (λ y. takes_each ns (assert_of y)) (p.gives d ns h) ∙ offered_taken d ns (its d))
    (λ d ns h. ap (λ y. lost_of (after_turn d (entering d false (its d))).ring (assert_of y)) (p.gives d ns h) ∙ offered_lost d (its d))
  where
    its : Device → List ℕ
    its d = inputs (pending_in f d.core.lines)

-- ---- leave

all_offered : (vs ns : List ℕ) → Each (λ m. m.offered ≡ true) (map (event vs true false) ns)
all_offered vs [] = tt
all_offered vs (n ∷ ns) = (refl, all_offered vs ns)

module _ (i : List ℕ) (x : ℕ) {isr : ℕ} (risr : Reads i isr (λ d. d.core.lines.isr)) {p : ℕ} (is : p ≡ register (served_of x isr)) where
  pub leave_none : p ≡ 0 → MovesIn i i 0 takes_all lost (λ vs. leave vs true (on x))
  unfolding offers ring_run dropped takes_all
  leave_none z = moves_by takes_all lost (λ d. stay d.core.lines) (λ vs. leave vs true (on x)) (record { becomes = λ d ns h. h; gives = λ d ns h. refl }) (stays i x risr is z true)

  module _ (below : x < 2 ^ 64) {j : List ℕ} (s : Becomes i j (λ d. with_lines d (with_isr d.core.lines (bit_and isr ((2 ^ 64 - 1) - x))))) where
    loses : (d : Device) (ns : Numbers) → Holds i d ns → bit_and isr ((2 ^ 64 - 1) - x) ≡ without d.core.lines.isr (on x)
    loses d ns h = ap (λ y. bit_and y ((2 ^ 64 - 1) - x)) (risr d ns h) ∙ without_is d.core.lines.isr x h.well.isr below

    pub leave_done : {n : ℕ} {k : List ℕ} → Offers j k n (λ d. deasserts d.core p) → MovesIn i k n takes_all lost (λ vs. leave vs true (on x))
    leave_done o =
        does_same (becomes_then s o)
        (λ d ns h t. after_turn d (record { after = with_isr d.core.lines (loses d ns h t); made = map (event d.core.vectors true false) (serving i x risr is d ns h t) }))
        (λ d ns h. takes_each_lem ns (map (event d.core.vectors true false) (inputs (on p))) (all_offered d.core.vectors (inputs (on p))) ∙ ap (λ l. takes_all ns (map (event d.core.vectors true false) l)) (serving i x risr is d ns h))
        (λ d ns h. ap (λ ns. lost_of d.ring (offers (map (event d.core.vectors true false) ns))) (serving i x risr is d ns h))

-- ---- MASK and CLEAR

module _ (i : List ℕ) (b : Bool) (v : ℕ) {old new : ℕ} (rold : Reads i old (λ d. d.core.lines.mask)) (is : new ≡ with_half b old v) (below : old < 2 ^ 64) (small : new < 2 ^ 64) where
  -- over the whole register: those that are in one of the two and not in the other
  abbrev up : ℕ
  up = bit_and old ((2 ^ 64 - 1) - new)

  abbrev down : ℕ
  down = bit_and new ((2 ^ 64 - 1) - old)

  ups : (n : ℕ) → n < 64 → on up n ≡ newly_unmasked old (with_half b old v) n
  ups n lt = on_and_not old new n small lt ∙ ap (λ y. newly_unmasked old y n) is

  downs : (n : ℕ) → n < 64 → on down n ≡ newly_masked old (with_half b old v) n
  downs n lt = on_and_not new old n below lt ∙ and_comm (on new n) (not (on old n)) ∙ ap (λ y. newly_masked old y n) is

  pub mask_done : {j k l m : List ℕ} {n o : ℕ} (a : Value) → Becomes i j (λ d. with_lines d (with_mask d.core.lines new)) → MovesIn j k a untaken given (λ vs. enter vs false (on up)) → Offers k l n (λ d. assert_of a)
      → MovesIn l m o takes_all lost (λ vs. leave vs true (on down)) → Writes i m (n + o) (λ c. move (set_mask b v) ∷ [])
  unfolding moved
  mask_done a s p q r =
      let both = becomes_then s (moves_then (λ vs. enter vs true (on up)) (λ vs. leave vs true (on down)) (entered_offered a (on up) p q) r) in
      let turn : (d : Device) (ns : Numbers) → Holds i d ns → and_then (enter d.core.vectors true (on up) (with_mask d.core.lines new)) (leave d.core.vectors true (on down)) ≡ masked d.core.vectors d.core.lines (with_half b d.core.lines.mask v) =
      λ d ns h. let e = rold d ns h in
      ap (λ y. and_then (enter d.core.vectors true (on up) (with_mask d.core.lines y)) (leave d.core.vectors true (on down))) (is ∙ ap (λ y. with_half b y v) e)
      ∙ stages d.core.vectors d.core.lines (with_half b d.core.lines.mask v) up down (λ n lt. ups n lt ∙ ap (λ y. newly_unmasked y (with_half b y v) n) e) (λ n lt. downs n lt ∙ ap (λ y. newly_masked y (with_half b y v) n) e)
      in
      moves_acts takes_all lost (set_mask b v) (does_same both (λ d ns h. ap (after_turn d) (turn d ns h)) (λ d ns h. ap (λ (t : Turn). takes_all ns t.made) (turn d ns h)) (λ d ns h. ap (λ (t : Turn). lost d.ring t.made) (turn d ns h)))

  -- where none leaves
  pub mask_stays : {j k l : List ℕ} {n : ℕ} (a : Value) → Becomes i j (λ d. with_lines d (with_mask d.core.lines new)) → MovesIn j k a untaken given (λ vs. enter vs false (on up)) → Offers k l n (λ d. assert_of a)
      → MovesIn l l 0 takes_all lost (λ vs. leave vs true (on down)) → Writes i l n (λ c. move (set_mask b v) ∷ [])
  mask_stays {l = l} {n = n} a s p q r = subst (λ o. Writes i l o (λ c. move (set_mask b v) ∷ [])) (add-zero n) (mask_done a s p q r)

module _ (i : List ℕ) {irr : ℕ} (rirr : Reads i irr (λ d. d.core.lines.irr)) where
  pub clear_done : (x : ℕ) → x < 2 ^ 64 → {j k : List ℕ} {n : ℕ} → Becomes i j (λ d. with_lines d (with_irr d.core.lines (bit_and irr ((2 ^ 64 - 1) - x)))) → MovesIn j k n takes_all lost (λ vs. leave vs true (on x)) → Writes i k n (λ c. move (clear x) ∷ [])
  unfolding moved cleared
  clear_done x below s p =
      let turn : (d : Device) (ns : Numbers) → Holds i d ns → bit_and irr ((2 ^ 64 - 1) - x) ≡ without d.core.lines.irr (on x) = λ d ns h. ap (λ y. bit_and y ((2 ^ 64 - 1) - x)) (rirr d ns h) ∙ without_is d.core.lines.irr x h.well.irr below in
      moves_acts takes_all lost (clear x)
      (does_same (becomes_then s p) (λ d ns h. ap (λ y. after_turn d (leave d.core.vectors true (on x) (with_irr d.core.lines y))) (turn d ns h))
      (λ d ns h. ap (λ y. takes_all ns (leave d.core.vectors true (on x) (with_irr d.core.lines y)).made) (turn d ns h))
      (λ d ns h. ap (λ y. lost d.ring (leave d.core.vectors true (on x) (with_irr d.core.lines y)).made) (turn d ns h)))
