-- What becomes of a latch: an act or a call takes it, leaves it, or puts it on. IRR is all that counts.
use Rattle.basics.proofs.Prelude.{◌≡◌, refl, sym, ap, ◌∙◌, Bool, true, false, not, ◌&&◌, ◌||◌, or-false, List, [], ◌∷◌, ℕ, ◌<◌, on, inputs, only, put, with_half, on_put, on_without}
use Rattle.rules.proofs.demands.Copy.{serve_irr}
use Rattle.rules.specs.Lines.{Lines, with_mask, with_irr, pending_in, newly_unmasked, polled, raised, lowered, cleared, masked}
use Rattle.rules.specs.Core.{Core, Act, move, set_isr, store, set_vector, poll, raise, lower, clear, set_mask, moved, line_turn, turn, turns}
use Rattle.rules.specs.Device.{Device, Call, level, read, write, drain, acts_of, acted, step}
use Rattle.histories.specs.Demands.{Each, done, also, some_act, takes_latch, call_takes, is_raise}
use Rattle.histories.proofs.laws.Reach.{ReturnsNone, write_returns_none}
use Rattle.rules.specs.Device as device

module _ (n : ℕ) (below : n < 64) where
  -- an act is a raise of n
  abbrev puts_on : Act → Bool
  puts_on (move (poll m)) = false
  puts_on (move (raise m)) = only m n
  puts_on (move (lower m)) = false
  puts_on (move (clear b)) = false
  puts_on (move (set_mask h v)) = false
  puts_on (set_isr h v) = false
  puts_on (store s) = false
  puts_on (set_vector m v) = false

  abbrev Left : Lines → Act → Bool
  Left l a = (on l.irr n && not (takes_latch n a)) || puts_on a

  kept : (b : Bool) → ((b && true) || false) ≡ b
  kept true = refl
  kept false = refl

  put_on : (b p : Bool) → ((b && true) || p) ≡ (b || p)
  put_on true p = refl
  put_on false p = refl

  -- the latch is on after an act if it was on and is not taken, or is put on
  act_latches : (c : Core) (a : Act) → on (turn c a).after.lines.irr n ≡ Left c.lines a
  unfolding line_turn moved polled raised lowered cleared masked
  act_latches c (move (poll m)) =
      ap (λ x. on x n) (serve_irr c.vectors false c.lines (inputs (pending_in (only m) c.lines))) ∙ sym (kept (on c.lines.irr n))
  act_latches c (move (raise m)) =
      let to = with_irr c.lines (put c.lines.irr m) in
      ap (λ x. on x n) (serve_irr c.vectors false to (inputs (pending_in (only m) to))) ∙ on_put c.lines.irr m n below ∙ sym (put_on (on c.lines.irr n) (only m n))
  act_latches c (move (lower m)) = on_without c.lines.irr (only m) n below ∙ sym (or-false (on c.lines.irr n && not (only m n)))
  act_latches c (move (clear b)) = on_without c.lines.irr (on b) n below ∙ sym (or-false (on c.lines.irr n && not (on b n)))
  act_latches c (move (set_mask g v)) =
      let to = with_mask c.lines (with_half g c.lines.mask v) in
      ap (λ x. on x n) (serve_irr c.vectors true to (inputs (pending_in (newly_unmasked c.lines.mask (with_half g c.lines.mask v)) to)))
      ∙ sym (kept (on c.lines.irr n))
  act_latches c (set_isr g v) = sym (kept (on c.lines.irr n))
  act_latches c (store s) = sym (kept (on c.lines.irr n))
  act_latches c (set_vector m v) = sym (kept (on c.lines.irr n))

  -- a write puts none on
  puts_none : (a : Act) → ReturnsNone a → puts_on a ≡ false
  puts_none (move (poll m)) t = refl
  puts_none (move (raise m)) t = absurd t
  puts_none (move (lower m)) t = refl
  puts_none (move (clear b)) t = refl
  puts_none (move (set_mask h v)) t = refl
  puts_none (set_isr h v) t = refl
  puts_none (store s) t = refl
  puts_none (set_vector m v) t = refl

  both : (b x y : Bool) → (((b && not x) || false) && not y) ≡ (b && not (x || y))
  both true true y = refl
  both true false y = refl
  both false x y = refl

  write_latches : (c : Core) (xs : List Act) → Each ReturnsNone xs → on (turns c xs).after.lines.irr n ≡ (on c.lines.irr n && not (some_act (takes_latch n) xs))
  unfolding turns some_act
  write_latches c [] done = sym (kept (on c.lines.irr n)) ∙ or-false (on c.lines.irr n && true)
  write_latches c (a ∷ xs) (also t ts) =
      write_latches (turn c a).after xs ts
      ∙ ap (λ b. b && not (some_act (takes_latch n) xs)) (act_latches c a ∙ ap (λ p. (on c.lines.irr n && not (takes_latch n a)) || p) (puts_none a t))
      ∙ both (on c.lines.irr n) (takes_latch n a) (some_act (takes_latch n) xs)

  one : (b x : Bool) → ((b && not x) || false) ≡ (b && not (x || false))
  one true true = refl
  one true false = refl
  one false x = refl

  turned : (b p : Bool) → ((b && true) || p) ≡ (p || (b && true))
  turned true true = refl
  turned true false = refl
  turned false true = refl
  turned false false = refl

  -- After a call n is latched exactly if the call raises it, or it was latched and the call neither lowers nor clears it.
  pub call_latches : (d : Device) (c : Call) → on (step d c).after.core.lines.irr n ≡ (is_raise n c || (on d.core.lines.irr n && not (call_takes n d c)))
  unfolding step acted acts_of turns some_act
  call_latches d (level m true) = act_latches d.core (move (raise m)) ∙ turned (on d.core.lines.irr n) (only m n)
  call_latches d (level m false) = act_latches d.core (move (lower m)) ∙ one (on d.core.lines.irr n) (only m n)
  call_latches d (device.poll m) = act_latches d.core (move (poll m)) ∙ one (on d.core.lines.irr n) false
  call_latches d (read w o) = sym (kept (on d.core.lines.irr n)) ∙ or-false (on d.core.lines.irr n && true)
  call_latches d (write w o v) = write_latches d.core (acts_of d.core (write w o v)) (write_returns_none d.core w o v)
  call_latches d (drain k) = sym (kept (on d.core.lines.irr n)) ∙ or-false (on d.core.lines.irr n && true)
