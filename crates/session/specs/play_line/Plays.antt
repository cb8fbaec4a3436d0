-- What playing a line leaves: the state, the answer's bytes at the front of the buffer, and every other byte as it was.
use Rattle.std.specs.Prelude.{List, [], ◌∷◌, ℕ}
use Rattle.rules.specs.Device.{Device, with_lines}
use Rattle.sessions.specs.Session as session
use Rattle.sessions.specs.Session.{letter_e, digit, vector_said}
use Rattle.device.specs.state.View.{lines_view, Is}
use Rattle.port.specs.declared.irq_level.Routed.{Routed}
use Rattle.device.specs.state.View.{answer_value}
use Rattle.session.specs.reply.Says.{Says}
use Rattle.session.specs.declared.play_line.Played.{Played}

pub record Plays (r : Played) (entry exit : List ℕ) (p : session.Played) : Type 0 where
  pub state : Is r.state p.after
  pub says : Says r.len entry exit p.answer

-- a refusal prints e and its number
abbrev pub refused_with : Device → ℕ → session.Played
refused_with d n = record { after = d; answer = letter_e ∷ digit n ∷ [] }

-- a call on an input prints what it returned
abbrev pub routed_with : Device → Routed → session.Played
routed_with d r = record { after = with_lines d (lines_view r.lines); answer = vector_said (answer_value r.answer) }
