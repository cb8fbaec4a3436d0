-- One input's asserts, deasserts and service, and the inputs of events: over turns of the lines, acts and calls.
use Rattle.basics.proofs.Prelude.{◌≡◌, refl, ◌∙◌, Bool, not, ◌&&◌, and_comm, List, [], ◌∷◌, ◌++◌, ℕ, ◌+◌, ◌<◌, arith, eqb, on, only}
use Rattle.rules.specs.{Lines.Lines, Lines.Made, Lines.served_in, Core.Core, Core.Act, Core.Move, Core.move, Core.set_isr, Core.store, Core.set_vector, Core.moved, Core.line_turn, Core.turn, Core.turns}
use Rattle.rules.specs.Account.{tally, served_with}
use Rattle.rules.proofs.laws.Counts.{one, size_ext, only_size, tally_append, balanced_move}
use Rattle.histories.{specs.Demands.Each, specs.Demands.done, specs.Demands.also, proofs.laws.Reach.NotIsr}

-- ---- the events of an input

abbrev pub up : ℕ → Made → Bool
up n m = m.asserted && eqb m.input n

abbrev pub down : ℕ → Made → Bool
down n m = not m.asserted && eqb m.input n

module _ (n : ℕ) (below : n < 64) where
  pub record Balanced (l m : Lines) (ms : List Made) : Type 0 where
    pub is : tally (up n) ms + one (on l.isr n) ≡ tally (down n) ms + one (on m.isr n)

  balanced_none : (l : Lines) → Balanced l l []
  unfolding tally
  balanced_none l = record { is = refl }

  balanced_then : {l m o : Lines} (ms ns : List Made) → Balanced l m ms → Balanced m o ns → Balanced l o (ms ++ ns)
  balanced_then ms ns x y = record { is = omega (arith, tally_append (up n) ms ns, tally_append (down n) ms ns, x.is, y.is) }

  -- of the inputs in service one is n, or none
  served_one : (l : Lines) → served_with (only n) l ≡ one (on l.isr n)
  served_one l = size_ext (served_in (only n) l) (λ m. only n m && on l.isr m) (λ i b. and_comm (on l.isr i) (only n i)) ∙ only_size n (on l.isr) below

  -- the balance of a move, of this input and its events
  of_move : (vs : List ℕ) (l : Lines) (m : Move) → Balanced l (moved vs l m).after (moved vs l m).made
  of_move vs l m =
      let t = moved vs l m in
      let whole : tally (up n) t.made + served_with (only n) l ≡ tally (down n) t.made + served_with (only n) t.after = balanced_move vs (only n) (λ x. eqb x.input n) (λ o a k. refl) l m in
      record { is = omega (arith, whole, served_one l, served_one t.after) }

  pub balanced_acts : (c : Core) (xs : List Act) → Each NotIsr xs → Balanced c.lines (turns c xs).after.lines (turns c xs).made
  unfolding turns line_turn
  balanced_acts c [] done = balanced_none c.lines
  balanced_acts c (a ∷ xs) (also t ts) = balanced_then (turn c a).made _ (one_act a t) (balanced_acts (turn c a).after xs ts)
    where
      one_act : (a : Act) → NotIsr a → Balanced c.lines (turn c a).after.lines (turn c a).made
      one_act (move m) t = of_move c.vectors c.lines m
      one_act (set_isr h v) t = absurd t
      one_act (store s) t = balanced_none c.lines
      one_act (set_vector m v) t = balanced_none c.lines
