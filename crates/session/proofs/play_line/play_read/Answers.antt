-- `play_read` is right since an unknown width and then an address outside are refused, and of any other access the register's value is said.
use Rattle.basics.proofs.Prelude.{refl, sym, ap, ◌∙◌}
use Rattle.device.{specs.state.View.view, specs.window.Tests.known_view, specs.window.Tests.located_view}
use Rattle.session.proofs.play_line.{Playing.plays_as, Playing.read_done}
use Rattle.session.proofs.play_line.play_read.Goals as goal

pub returns : goal.returns
returns c =
    plays_as (record { state = record { well = c.requires.0; shows = refl }; says = c.put_value-len.ensures })
    (read_done (view c.args.state) c.args.width c.args.address _ _ _ (sym c.width_of.ensures ∙ ap known_view c.in-Some.is) (sym c.locate.ensures.0 ∙ ap (located_view c.args.address) c.in-Some-locate.is) c.read_register-value.ensures)
