-- What the functions that move the lines promise, in the rules' terms: the lines after, and what is handed back.
use Rattle.std.specs.Prelude.{◌≡◌, Bool, true, false, List, [], ◌∷◌, ℕ}
use Rattle.basics.specs.Inputs.{on, inputs, only, without}
use Rattle.rules.specs.Lines as lines
use Rattle.rules.specs.Lines.{Turn, stay, with_isr, event, enter, unlatched_in}
use Rattle.rules.specs.Device.{returned}
use Rattle.device.specs.state.View.{lines_view, answer_value}
use Rattle.port.specs.declared.irq_level.Routed.{Routed}

-- the first of a list of inputs leaves service
abbrev pub retire : List ℕ → lines.Lines → List ℕ → Turn
retire vs l [] = stay l
retire vs l (n ∷ ns) = record { after = with_isr l (without l.isr (only n)); made = event vs false false n ∷ [] }

-- what update_irq is asked for: of the inputs in m the lowest that waits enters, or the lowest inactive one leaves
abbrev pub updated : List ℕ → lines.Lines → ℕ → Bool → Turn
updated vs l m true = enter vs false (on m) l
updated vs l m false = retire vs l (inputs (unlatched_in (on m) l))

-- a move that returns its event
pub record Answers (r : Routed) (t : Turn) : Type 0 where
  pub after : lines_view r.lines ≡ t.after
  pub gives : answer_value r.answer ≡ returned t.made
