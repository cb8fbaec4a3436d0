-- What a line comes to, with the ending behind its answer.
use Rattle.std.specs.Prelude.{[], ◌∷◌, ◌++◌}
use Rattle.sessions.specs.Session as session
use Rattle.sessions.specs.Session.{newline}

-- a line's answer with its ending
abbrev pub ended : session.Played → session.Played
ended p = record { after = p.after; answer = p.answer ++ (newline ∷ []) }
