-- `play`: each refusal leaves where the order of the tests puts it, the image's first; else the records are played on the image as it is.
use Rattle.basics.proofs.Prelude.{refl}
use Rattle.std.proofs.lemmas.Result.{err_from_is_err_and}
use Rattle.traces.specs.plays.Playing.{play_on_ending}
use Rattle.pch_pic_trace.proofs.play_trace.Endings.{no_image, opens_on, unfit, ready, has_played}
use Rattle.pch_pic_trace.proofs.play_on.play.Goals as goal

pub returns-in_err-form : goal.returns-in_err-form
returns-in_err-form c =
    let a = c.args in
    let e = err_from_is_err_and c.from_residual.result c.from_residual.ensures.1 in
    rw (e.1, e.2) (no_image a.trace.now a.image.now a.answers.now a.events.now c.in_err-form.field-0.0 c.in_err-form.ensures)

pub returns-in_err-records : goal.returns-in_err-records
returns-in_err-records c =
    let a = c.args in
    let e = err_from_is_err_and c.from_residual-in_err-records.result c.from_residual-in_err-records.ensures.1 in
    rw (e.1, e.2) (unfit a.trace.now a.image.now a.answers.now a.events.now a.image.now (play_on_ending a.trace.now a.image.now a.answers.now a.events.now)
    (opens_on a.trace.now a.image.now a.answers.now a.events.now c.in_ok-form.ensures.good) c.in_err-records.field-0.0 c.in_err-records.ensures)

pub play_all-requires : goal.play_all-requires
play_all-requires c =
    let a = c.args in
    ready a.trace.now a.image.now a.answers.now a.events.now a.image.now (play_on_ending a.trace.now a.image.now a.answers.now a.events.now)
    (opens_on a.trace.now a.image.now a.answers.now a.events.now c.in_ok-form.ensures.good) c.in_ok-records.ensures refl c.in_ok-form.ensures

pub returns : goal.returns
returns c =
    let a = c.args in
    has_played a.trace.now a.image.now a.answers.now a.events.now a.image.now (play_on_ending a.trace.now a.image.now a.answers.now a.events.now)
    (opens_on a.trace.now a.image.now a.answers.now a.events.now c.in_ok-form.ensures.good) c.in_ok-records.ensures refl c.play_all.ensures
