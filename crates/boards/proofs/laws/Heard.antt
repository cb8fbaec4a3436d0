-- A second board by its counts: what the events made say of a vector brings its count from that of the core before to that of the core after.
use Rattle.basics.proofs.Prelude.{◌≡◌, refl, sym, ap, subst, ◌∙◌, ⊎_elim, Bool, true, false, cond, not, ◌&&◌, List, [], ◌∷◌, ◌++◌, map, map-append, append-nil, ℕ, ◌+◌, ◌-◌, ◌<◌, ◌≤◌, arith, eqb, length, set, get_or, length-set, length-replicate, get_or-replicate, get_or-set_same, get_or-set_other, le-leb, eqb-true, eqb-false, on, inputs, only, put, without, with_half, test}
use Rattle.rules.specs.Lines.{Lines, Made, event, with_irr, with_mask, pending_in, served_in, serve, enter, newly_unmasked, newly_masked, polled, raised, lowered, cleared, masked}
use Rattle.rules.specs.Ring.{Event, flag}
use Rattle.rules.specs.Core.{Core, Move, poll, raise, lower, clear, set_mask, Act, move, set_isr, store, set_vector, moved, line_turn, turn}
use Rattle.rules.specs.{Device.Device, Device.Call, Device.acted, Device.step, Device.reset, History.history, History.from_reset}
use Rattle.rules.specs.Account.{tally, served_with, has_vector, carries, asserts, deasserts, carrying}
use Rattle.rules.proofs.laws.Counts.{tally_append, tally_nil, tally_none, vector_balanced}
use Rattle.histories.specs.{Premises.Along, Premises.Admitted, Demands.as_event}
use Rattle.histories.proofs.laws.{Reach.each_both, Reach.NotIsr, Reach.no_isr_act, Reach.LeavesVectors, Reach.lines_or_vectors, Folds.fold_acts, Folds.fold_calls, Folds.still, Folds.vectors_stay_lem}
use Rattle.histories.proofs.demands.Account.{asserts_match_service_from, none_served}
use Rattle.boards.specs.{Board.recount, Boarding.heard_count, Boarding.hearing, Hearing.blank, Hearing.heard_through, Hearing.in_order_of_making}
use Rattle.laws.proofs.laws.Losses.{from_few}
use Rattle.boards.proofs.laws.Counts.{counts_are}

-- ---- the count of one vector

-- the count k of v after an event, and after events
abbrev told : ℕ → ℕ → Event → ℕ
told v k e = cond (eqb e.vector v) (heard_count (flag e.asserted) k) k

unfoldable told_all : ℕ → ℕ → List Event → ℕ
told_all v k [] = k
told_all v k (e ∷ es) = told_all v (told v k e) es

told_append : (v k : ℕ) (xs ys : List Event) → told_all v k (xs ++ ys) ≡ told_all v (told_all v k xs) ys
unfolding told_all
told_append v k [] ys = refl
told_append v k (e ∷ xs) ys = told_append v (told v k e) xs ys

-- ---- a board by its counts

module _ (a : List ℕ) (area : 16 ≤ length a) where
  one_heard : (b : List ℕ) → 256 ≤ length b → (v f : ℕ) → (hearing b v f a).board ≡ set b v (heard_count f (get_or b v 0))
  unfolding hearing
  one_heard b room v f = rw (le-leb 16 (length a) area, le-leb 256 (length b) room)

  one_count : (b : List ℕ) → 256 ≤ length b → (v : ℕ) → v < 256 → (e : Event) → get_or (hearing b e.vector (flag e.asserted) a).board v 0 ≡ told v (get_or b v 0) e
  one_count b room v h e =
      let k = heard_count (flag e.asserted) (get_or b e.vector 0) in
      ap (λ l. get_or l v 0) (one_heard b room e.vector (flag e.asserted))
      ∙ test (eqb e.vector v)
      (λ t. let same = eqb-true e.vector v t in
      ap (λ u. get_or (set b u (heard_count (flag e.asserted) (get_or b u 0))) v 0) same
      ∙ get_or-set_same b v (heard_count (flag e.asserted) (get_or b v 0)) 0 (omega arith) ∙ (λ i. cond (sym t i) (heard_count (flag e.asserted) (get_or b v 0)) (get_or b v 0)))
      (λ t. get_or-set_other b e.vector v k 0 (λ same. eqb-false e.vector v t (sym same)) ∙ (λ i. cond (sym t i) (heard_count (flag e.asserted) (get_or b v 0)) (get_or b v 0)))

  one_length : (b : List ℕ) → 256 ≤ length b → (e : Event) → length (hearing b e.vector (flag e.asserted) a).board ≡ length b
  one_length b room e =
      ap length (one_heard b room e.vector (flag e.asserted)) ∙ length-set b e.vector (heard_count (flag e.asserted) (get_or b e.vector 0))

  heard_length : (b : List ℕ) → 256 ≤ length b → (es : List Event) → length (heard_through a b es) ≡ length b
  unfolding heard_through
  heard_length b room [] = refl
  heard_length b room (e ∷ es) =
      let next = (hearing b e.vector (flag e.asserted) a).board in
      let same = one_length b room e in
      heard_length next (subst (λ n. 256 ≤ n) (sym same) room) es ∙ same

  heard_count_lem : (b : List ℕ) → 256 ≤ length b → (v : ℕ) → v < 256 → (es : List Event) → get_or (heard_through a b es) v 0 ≡ told_all v (get_or b v 0) es
  unfolding heard_through told_all
  heard_count_lem b room v h [] = refl
  heard_count_lem b room v h (e ∷ es) =
      let next = (hearing b e.vector (flag e.asserted) a).board in
      heard_count_lem next (subst (λ n. 256 ≤ n) (sym (one_length b room e)) room) v h es ∙ ap (λ k. told_all v k es) (one_count b room v h e)

-- ---- the events of a move: at most one assert, and then deasserts

module _ (v : ℕ) where
  -- asserts first, and then deasserts, bring a count of at most 64 to what they come to: none finds 0 that does not stand there in the end
  record Shaped (ms : List Made) : Type 0 where
    ups : List Made
    downs : List Made
    parts : ms ≡ ups ++ downs
    up : (k : ℕ) → k ≤ 64 → told_all v k (map as_event ups) ≡ k + asserts v ups
    down : (k : ℕ) → told_all v k (map as_event downs) ≡ k - deasserts v downs
    only_ups : deasserts v ups ≡ 0
    only_downs : asserts v downs ≡ 0

  shaped_told : (ms : List Made) → Shaped ms → (k : ℕ) → k ≤ 64 → told_all v k (map as_event ms) ≡ k + asserts v ms - deasserts v ms
  shaped_told ms s k h =
      let u = s.ups in
      let d = s.downs in
      let heard = ap (λ l. told_all v k (map as_event l)) s.parts ∙ ap (told_all v k) (map-append as_event u d) ∙ told_append v k (map as_event u) (map as_event d)
      ∙ ap (λ n. told_all v n (map as_event d)) (s.up k h) ∙ s.down (k + asserts v u) in
      omega (
        arith,
        heard,
        ap (asserts v) s.parts,
        ap (deasserts v) s.parts,
        tally_append (λ m. m.asserted && has_vector v m) u d,
        tally_append (λ m. not m.asserted && has_vector v m) u d,
        s.only_ups,
        s.only_downs,
      )

  one_down : (b : Bool) (k t : ℕ) → cond b (k - 1) k - t ≡ k - (cond b 1 0 + t)
  one_down true k t = omega arith
  one_down false k t = omega arith

  downs_told : (vs : List ℕ) (o : Bool) (ns : List ℕ) (k : ℕ) → told_all v k (map as_event (map (event vs o false) ns)) ≡ k - deasserts v (map (event vs o false) ns)
  unfolding told_all tally
  downs_told vs o [] k = omega arith
  downs_told vs o (n ∷ ns) k =
      downs_told vs o ns (told v k (as_event (event vs o false n))) ∙ one_down (eqb (get_or vs n 0) v) k (deasserts v (map (event vs o false) ns))

  none_up : (vs : List ℕ) (o : Bool) (ns : List ℕ) → asserts v (map (event vs o false) ns) ≡ 0
  none_up vs o ns = tally_none (λ m. m.asserted && has_vector v m) (event vs o false) (λ n. refl) ns

  up_told : (vs : List ℕ) (o : Bool) (l : Lines) (ns : List ℕ) (k : ℕ) → k ≤ 64 → told_all v k (map as_event (serve vs o l ns).made) ≡ k + asserts v (serve vs o l ns).made
  unfolding told_all tally
  up_told vs o l [] k h = omega arith
  up_told vs o l (n ∷ ns) k h = test (eqb (get_or vs n 0) v) (λ t. rw t (omega arith)) (λ t. rw t (omega arith))

  none_down : (vs : List ℕ) (o : Bool) (l : Lines) (ns : List ℕ) → deasserts v (serve vs o l ns).made ≡ 0
  unfolding tally
  none_down vs o l [] = refl
  none_down vs o l (n ∷ ns) = refl

  shaped : (vs : List ℕ) (o p : Bool) (l : Lines) (ns ks : List ℕ) → Shaped ((serve vs o l ns).made ++ map (event vs p false) ks)
  shaped vs o p l ns ks = record {
    ups = (serve vs o l ns).made;
    downs = map (event vs p false) ks;
    parts = refl;
    up = up_told vs o l ns;
    down = downs_told vs p ks;
    only_ups = none_down vs o l ns;
    only_downs = none_up vs p ks;
  }

  shaped_up : (vs : List ℕ) (o : Bool) (l : Lines) (ns : List ℕ) → Shaped (serve vs o l ns).made
  shaped_up vs o l ns = subst Shaped (append-nil (serve vs o l ns).made) (shaped vs o o l ns [])

  shaped_move : (vs : List ℕ) (l : Lines) (m : Move) → Shaped (moved vs l m).made
  unfolding moved polled raised lowered cleared masked
  shaped_move vs l (poll n) = shaped_up vs false l (inputs (pending_in (only n) l))
  shaped_move vs l (raise n) = let k = with_irr l (put l.irr n) in shaped_up vs false k (inputs (pending_in (only n) k))
  shaped_move vs l (lower n) = let k = with_irr l (without l.irr (only n)) in shaped vs false false k [] (inputs (served_in (only n) k))
  shaped_move vs l (clear b) = let k = with_irr l (without l.irr (on b)) in shaped vs true true k [] (inputs (served_in (on b) k))
  shaped_move vs l (set_mask h x) =
      let new = with_half h l.mask x in
      let k = with_mask l new in
      let f = newly_unmasked l.mask new in
      shaped vs true true k (inputs (pending_in f k)) (inputs (served_in (newly_masked l.mask new) (enter vs true f k).after))

  -- ---- from a core to a core

  abbrev Driven : Core → List Made → Core → Type 0
  Driven c ms d = told_all v (carrying v c) (map as_event ms) ≡ carrying v d

  driven_none : (c : Core) → Driven c [] c
  unfolding told_all
  driven_none c = refl

  driven_next : (c d e : Core) (xs ys : List Made) → Driven c xs d → Driven d ys e → Driven c (xs ++ ys) e
  driven_next c d e xs ys x y =
      ap (told_all v (carrying v c)) (map-append as_event xs ys) ∙ told_append v (carrying v c) (map as_event xs) (map as_event ys) ∙ ap (λ k. told_all v k (map as_event ys)) x ∙ y

  driven_line : (vs : List ℕ) (l : Lines) (a : Act) → NotIsr a
      → told_all v (served_with (carries v vs) l) (map as_event (line_turn vs l a).made) ≡ served_with (carries v vs) (line_turn vs l a).after
  unfolding line_turn told_all
  driven_line vs l (move m) t =
      omega (arith, shaped_told (moved vs l m).made (shaped_move vs l m) (served_with (carries v vs) l) (from_few 0 64 (served_in (carries v vs) l)), vector_balanced v vs l m)
  driven_line vs l (set_isr h x) t = absurd t
  driven_line vs l (store s) t = refl
  driven_line vs l (set_vector n x) t = refl

  driven_act : (c : Core) (a : Act) → NotIsr a × LeavesVectors a → Driven c (turn c a).made (turn c a).after
  driven_act c a t =
      driven_line c.vectors c.lines a t.0 ∙ ap (λ vs. served_with (carries v vs) (turn c a).after.lines) (sym (vectors_stay_lem c.vectors a t.1))

  -- a call that makes no event leaves the count, by the account of demand 3
  quiet : (d : Device) (c : Call) → Admitted d c → (step d c).made ≡ [] → Driven d.core (step d c).made (step d c).after.core
  unfolding history Along
  quiet d c p none =
      let account = asserts_match_service_from v d (c ∷ []) (p, tt) in
      let no-up = ap (λ ms. asserts v (ms ++ [])) none ∙ tally_nil (λ m. m.asserted && has_vector v m) in
      let no-down = ap (λ ms. deasserts v (ms ++ [])) none ∙ tally_nil (λ m. not m.asserted && has_vector v m) in
      ap (λ ms. told_all v (carrying v d.core) (map as_event ms)) none ∙ driven_none d.core ∙ omega (arith, account, no-up, no-down)

  driven_call : (d : Device) (c : Call) → Admitted d c → Driven d.core (step d c).made (step d c).after.core
  unfolding step acted
  driven_call d c p =
      ⊎_elim (λ e. quiet d c p (still d.core e).0)
      (λ e. fold_acts Driven driven_none driven_next (λ a. NotIsr a × LeavesVectors a) driven_act d.core (each_both (no_isr_act d.core c p.no_isr_write) e))
      (lines_or_vectors d.core c)

  history_driven : (d : Device) (cs : List Call) → Along Admitted d cs → Driven d.core (history d cs).made (history d cs).after.core
  history_driven =
      fold_calls (λ d ms e. Driven d.core ms e.core) (λ d. driven_none d.core)
      (λ d e f xs ys x y. driven_next d.core e.core f.core xs ys x y) Admitted driven_call

-- ---- from reset

-- no vector is on
pub blank_right : blank ≡ recount reset.core
blank_right = counts_are blank (λ v. carrying v reset.core) (length-replicate {A = ℕ} 256 0) (λ v h. get_or-replicate 256 v 0 0 h ∙ sym (none_served v))

-- a blank board that hears the events made from reset, in the order of making, has the counts of the device to which the calls come
pub heard_from_reset : (a : List ℕ) → 16 ≤ length a → (cs : List Call) → Along Admitted reset cs → heard_through a blank (in_order_of_making cs) ≡ recount (from_reset cs).after.core
heard_from_reset a area cs p =
    let room : 256 ≤ length blank = omega (arith, length-replicate {A = ℕ} 256 0) in
    counts_are (heard_through a blank (in_order_of_making cs)) (λ v. carrying v (from_reset cs).after.core) (heard_length a area blank room (in_order_of_making cs) ∙ length-replicate {A = ℕ} 256 0)
    (λ v h.
    heard_count_lem a area blank room v h (in_order_of_making cs) ∙ ap (λ k. told_all v k (in_order_of_making cs)) (get_or-replicate 256 v 0 0 h ∙ sym (none_served v)) ∙ history_driven v reset cs p)
