-- `play_write` is right since an unknown width and then an address outside are refused, and of any other access the registers do what the rule says.
use Rattle.basics.proofs.Prelude.{sym, ap, ◌∙◌}
use Rattle.device.{specs.state.View.view, specs.window.Tests.known_view, specs.window.Tests.located_view}
use Rattle.session.proofs.play_line.{Playing.plays_as, Playing.write_done}
use Rattle.session.proofs.play_line.play_write.Goals as goal

pub returns : goal.returns
returns c =
    plays_as (record { state = c.write_register-written.ensures.is; says = c.put_ok-len.ensures })
    (write_done (view c.args.state) c.args.width c.args.address c.args.value _ _ (sym c.width_of.ensures ∙ ap known_view c.in-Some.is) (sym c.locate.ensures.0 ∙ ap (located_view c.args.address) c.in-Some-locate.is))
