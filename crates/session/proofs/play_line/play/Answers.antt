-- `play` is right since each kind of request has its own function, and a line that asks for nothing is answered with a question mark.
use Rattle.basics.proofs.Prelude.{◌≡◌, refl, sym, ap, ◌∙◌, List, ℕ}
use Rattle.std.specs.Prelude.{Some}
use Rattle.rules.specs.Device.{Device}
use Rattle.sessions.specs.Session.{line_of, played_line, played}
use Rattle.device.specs.state.View.{view}
use Rattle.session.specs.{request.Requests.request_view, declared.request.Request.Request}
use Rattle.session.proofs.play_line.Playing.{plays_as}
use Rattle.session.proofs.play_line.play.Goals as goal

-- the request is what the line asks for
asked : (d : Device) (line : List ℕ) {r q : Request} → request_view (Some r) ≡ line_of line → r ≡ q → played_line d (request_view (Some q)) ≡ played d line
unfolding played
asked d line e f = ap (λ (x : Request). played_line d (request_view (Some x))) (sym f) ∙ ap (played_line d) e

pub returns-in-Level : goal.returns-in-Level
returns-in-Level c = plays_as c.play_level.ensures (asked (view c.args.state) c.args.line.now c.in-Some.ensures c.in-Level.is)

pub returns-in-Poll : goal.returns-in-Poll
returns-in-Poll c = plays_as c.play_poll.ensures (asked (view c.args.state) c.args.line.now c.in-Some.ensures c.in-Poll.is)

pub returns-in-Read : goal.returns-in-Read
returns-in-Read c = plays_as c.play_read.ensures (asked (view c.args.state) c.args.line.now c.in-Some.ensures c.in-Read.is)

pub returns-in-Write : goal.returns-in-Write
returns-in-Write c = plays_as c.play_write.ensures (asked (view c.args.state) c.args.line.now c.in-Some.ensures c.in-Write.is)

pub returns-in-Drain : goal.returns-in-Drain
returns-in-Drain c = plays_as c.play_drain.ensures (asked (view c.args.state) c.args.line.now c.in-Some.ensures c.in-Drain.is)

pub returns-in_default : goal.returns-in_default
unfolding played
returns-in_default c =
    plays_as (record { state = record { well = c.requires.0; shows = refl }; says = c.put_unknown-len.ensures })
    (ap (played_line (view c.args.state)) c.in_default.ensures)
