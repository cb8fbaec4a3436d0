-- Where one input alone carries a vector, an assert of the vector is an assert of that input: a call moves the lines or changes vector bytes, never both
-- (Reach), so that the events of a call have the vectors that it met.
use Rattle.basics.proofs.Prelude.{◌≡◌, refl, sym, ap, ◌∙◌, ⊎_elim, Bool, true, false, ◌&&◌, List, [], ◌∷◌, ◌++◌, ℕ, ◌<◌, ◌≤◌, arith, eqb, get_or, eq-eqb, on, inputs, only, put, without, with_half, test, first_has}
use Rattle.rules.specs.Lines.{Lines, Made, event, with_irr, with_mask, pending_in, served_in, serve, enter, leave, newly_unmasked, newly_masked, polled, raised, lowered, cleared, masked}
use Rattle.rules.specs.Core.{Core, Move, poll, raise, lower, clear, set_mask, Act, move, set_isr, store, set_vector, moved, line_turn, turn}
use Rattle.rules.specs.{Device.Device, Device.Call, Device.step, History.history, Account.tally, Account.has_vector, Account.carries, Account.asserts}
use Rattle.rules.proofs.laws.Counts.{tally_append, tally_nil, tally_none}
use Rattle.histories.specs.{Premises.Along, Demands.asserts_of, Demands.CarriedAlone}
use Rattle.histories.proofs.laws.Admitting as admitting
use Rattle.histories.proofs.laws.{Reach.LeavesVectors, Reach.lines_or_vectors, Folds.fold_acts, Folds.fold_calls, Folds.still, Folds.vectors_stay_lem}

module _ (n v : ℕ) where
  -- no more asserts of v than of n
  abbrev Within : List Made → Type 0
  Within ms = asserts v ms ≤ asserts_of n ms

  within_none : Within []
  within_none = omega (arith, tally_nil (λ m. m.asserted && has_vector v m))

  within_next : (xs ys : List Made) → Within xs → Within ys → Within (xs ++ ys)
  within_next xs ys x y =
      omega (arith, tally_append (λ m. m.asserted && has_vector v m) xs ys, tally_append (λ m. m.asserted && only n m.input) xs ys, x, y)

  module _ (vs : List ℕ) (alone : (m : ℕ) → m < 64 → carries v vs m ≡ true → m ≡ n) where
    within_enter : (o : Bool) (f : ℕ → Bool) (l : Lines) → Within (enter vs o f l).made
    unfolding tally
    within_enter o f l = go (inputs (pending_in f l)) refl
      where
        go : (ns : List ℕ) → inputs (pending_in f l) ≡ ns → Within (serve vs o l ns).made
        go [] e = omega arith
        go (m ∷ ns) e =
            test (eqb (get_or vs m 0) v) (λ t. rw (t, eq-eqb m n (alone m (first_has 0 64 (pending_in f l) m ns e).1 t)) (omega arith)) (λ t. rw t (omega arith))

    within_leave : (o : Bool) (f : ℕ → Bool) (l : Lines) → Within (leave vs o f l).made
    within_leave o f l = omega (arith, tally_none (λ m. m.asserted && has_vector v m) (event vs o false) (λ m. refl) (inputs (served_in f l)))

    within_move : (l : Lines) (m : Move) → Within (moved vs l m).made
    unfolding moved polled raised lowered cleared masked
    within_move l (poll m) = within_enter false (only m) l
    within_move l (raise m) = within_enter false (only m) (with_irr l (put l.irr m))
    within_move l (lower m) = within_leave false (only m) (with_irr l (without l.irr (only m)))
    within_move l (clear b) = within_leave true (on b) (with_irr l (without l.irr (on b)))
    within_move l (set_mask h x) =
        let new = with_half h l.mask x in
        let one = enter vs true (newly_unmasked l.mask new) (with_mask l new) in
        within_next one.made (leave vs true (newly_masked l.mask new) one.after).made (within_enter true (newly_unmasked l.mask new) (with_mask l new))
        (within_leave true (newly_masked l.mask new) one.after)

  -- acts that leave the vector bytes
  abbrev Known : Core → Type 0
  Known c = (m : ℕ) → m < 64 → carries v c.vectors m ≡ true → m ≡ n

  abbrev Onward : Core → List Made → Core → Type 0
  Onward c ms d = Known c → Within ms × Known d

  known_stays : (c : Core) (a : Act) → LeavesVectors a → Known c → Known (turn c a).after
  known_stays c a t k j b e = k j b (ap (λ vs. carries v vs j) (sym (vectors_stay_lem c.vectors a t)) ∙ e)

  act_within : (c : Core) (a : Act) → LeavesVectors a → Onward c (turn c a).made (turn c a).after
  unfolding line_turn
  act_within c (move m) t k = (within_move c.vectors k c.lines m, known_stays c (move m) t k)
  act_within c (set_isr h x) t k = (within_none, known_stays c (set_isr h x) t k)
  act_within c (store s) t k = (within_none, known_stays c (store s) t k)
  act_within c (set_vector m x) t k = absurd t

  call_within : (d : Device) (c : Call) → CarriedAlone n v d c → Within (step d c).made
  unfolding step
  call_within d c k =
      ⊎_elim (λ e. rw (still d.core e).0 within_none)
      (λ e.
      (fold_acts Onward (λ c k. (within_none, k)) (λ c e f xs ys x y k. let one = x k in let two = y one.1 in (within_next xs ys one.0 two.0, two.1))
      LeavesVectors act_within d.core e k).0)
      (lines_or_vectors d.core c)

  pub asserts_within : (d : Device) (cs : List Call) → Along (CarriedAlone n v) d cs → asserts v (history d cs).made ≤ asserts_of n (history d cs).made
  asserts_within = fold_calls (λ d ms e. Within ms) (λ d. within_none) (λ d e f xs ys. within_next xs ys) (CarriedAlone n v) call_within
