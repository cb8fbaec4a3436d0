-- A masked input is not forgotten (01, Inputs: MASK leaves IRR): it stays latched until it is lowered or cleared, over any calls, and once it is unmasked the next poll or raise of it announces it.
use Rattle.basics.proofs.Prelude.{◌≡◌, ◌∙◌, true, false, not, ◌&&◌, ◌||◌, or-true, List, [], ◌∷◌, ◌++◌, ℕ, ◌<◌, on}
use Rattle.rules.specs.{Device.Device, Device.Call, Device.acts_of, Device.step, History.history}
use Rattle.histories.specs.{Premises.Along, Premises.writes_mask, Demands.some_act, Demands.sets_mask, Demands.in_service, Demands.Eligible, Demands.polls_or_raises, Demands.is_raise, Demands.Untaken}
use Rattle.histories.proofs.laws.{Reach.mask_acts, Taking.call_latches, Folds.fold_calls, Folds.history_append}
use Rattle.histories.proofs.demands.Service.{request_serves}

-- A write reaches MASK exactly where one of its acts writes MASK, at any device and whatever the value: so much is meant where a theorem shuts out writes to MASK.
pub mask_premise_exact : (d : Device) (c : Call) → writes_mask c ≡ some_act sets_mask (acts_of d.core c)
mask_premise_exact d c = mask_acts d.core c

module _ (n : ℕ) (b : n < 64) where
  stays : (d : Device) (c : Call) → Untaken n d c → on d.core.lines.irr n ≡ true → on (step d c).after.core.lines.irr n ≡ true
  stays d c u h = call_latches n b d c ∙ (λ t. is_raise n c || (h t && not (u t))) ∙ or-true (is_raise n c)

  -- Latched in d, and neither lowered nor cleared by any of the calls, whatever they mask, unmask, poll, drain or write: n is latched after them.
  pub stays_latched : (d : Device) (cs : List Call) → Along (Untaken n) d cs → on d.core.lines.irr n ≡ true → on (history d cs).after.core.lines.irr n ≡ true
  stays_latched = fold_calls (λ d ms e. on d.core.lines.irr n ≡ true → on e.core.lines.irr n ≡ true) (λ d h. h) (λ d e f xs ys x y h. y (x h)) (Untaken n) stays

  -- And where it is unmasked after them, a poll or a raise of it then has it in service.
  pub announced_once_unmasked : (d : Device) (before : List Call) → Along (Untaken n) d before → on d.core.lines.irr n ≡ true → on (history d before).after.core.lines.mask n ≡ false
      → (c : Call) → polls_or_raises n c ≡ true → in_service n (history d (before ++ (c ∷ []))).after.core.lines ≡ true
  unfolding history
  announced_once_unmasked d before p h off c e =
      rw (history_append d before (c ∷ []))
      (request_serves n b (history d before).after c e (record { latched = stays_latched d before p h; unmasked = off }))
