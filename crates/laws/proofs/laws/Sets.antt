-- The sets that the engine masks out of the registers, as the sets that Lines speaks of; the two moves depend on their set below 64 only.
use Rattle.basics.proofs.Prelude.{◌≡◌, ap, ◌∙◌, Bool, true, false, cond, not, ◌&&◌, and-true, and_assoc, and_comm, List, [], ◌∷◌, map, ℕ, ◌-◌, ◌^◌, ◌<◌, bit_and, on, inputs, only, on_and, on_and_not, without_ext, inputs_ext, only_input}
use Rattle.rules.specs.Lines.{Lines, is_pending, pending_in, served_in, unlatched_in, with_isr, with_mask, serve, event, and_then, enter, leave, newly_unmasked, newly_masked, masked}

-- m & irr & !mask & !isr; isr & m; m & isr & !irr
module _ (m : ℕ) (l : Lines) where
  pub served_is : inputs (on (bit_and l.isr m)) ≡ inputs (served_in (on m) l)
  served_is = inputs_ext _ _ (λ i q. on_and l.isr m i)

  pub unlatched_is : l.irr < 2 ^ 64 → inputs (on (bit_and (bit_and m l.isr) ((2 ^ 64 - 1) - l.irr))) ≡ inputs (unlatched_in (on m) l)
  unlatched_is hr = inputs_ext _ _ (λ i q. simp (on_and_not, on_and, and_assoc))

-- one input
module _ (n : ℕ) (l : Lines) (h : n < 64) where
  pub only_waiting : inputs (pending_in (only n) l) ≡ cond (is_pending l n) (n ∷ []) []
  only_waiting = only_input n (is_pending l) h

  pub only_served : inputs (served_in (only n) l) ≡ cond (on l.isr n) (n ∷ []) []
  only_served = inputs_ext _ _ (λ i q. and_comm (on l.isr i) (only n i)) ∙ only_input n (on l.isr) h

  -- in service, and its latch went off before
  pub only_unlatched : on l.irr n ≡ false → inputs (unlatched_in (only n) l) ≡ cond (on l.isr n) (n ∷ []) []
  only_unlatched e = only_input n (λ i. on l.isr i && not (on l.irr i)) h ∙ rw (e, and-true)

-- the two moves depend on their set below 64 only
module _ (vs : List ℕ) (offered : Bool) (f g : ℕ → Bool) (l : Lines) (e : (i : ℕ) → i < 64 → f i ≡ g i) where
  pub enter_ext : enter vs offered f l ≡ enter vs offered g l
  enter_ext = ap (serve vs offered l) (inputs_ext _ _ (λ i q. rw (e i q)))

  pub leave_ext : leave vs offered f l ≡ leave vs offered g l
  leave_ext =
      let isr = without_ext l.isr f g e in
      let left = inputs_ext (served_in f l) (served_in g l) (λ i q. rw (e i q)) in
      λ t. record { after = with_isr l (isr t); made = map (event vs offered false) (left t) }

-- the two stages of a write to MASK, by sets that are the newly unmasked and the newly masked
pub stages : (vs : List ℕ) (l : Lines) (new up down : ℕ) → ((i : ℕ) → i < 64 → on up i ≡ newly_unmasked l.mask new i) → ((i : ℕ) → i < 64 → on down i ≡ newly_masked l.mask new i)
    → and_then (enter vs true (on up) (with_mask l new)) (leave vs true (on down)) ≡ masked vs l new
unfolding masked
stages vs l new up down ups downs =
    let first = enter_ext vs true (on up) (newly_unmasked l.mask new) (with_mask l new) ups in
    let second : (m : Lines) → leave vs true (on down) m ≡ leave vs true (newly_masked l.mask new) m = λ m. leave_ext vs true (on down) (newly_masked l.mask new) m downs in
    (λ t. and_then (first t) (λ m. second m t))
