-- `play`: each refusal leaves where the order of the tests puts it; else the image is reset, and the records are played on it.
use Rattle.basics.proofs.Prelude.{◌≡◌, sym, ap, ◌∙◌, arith, length}
use Rattle.std.proofs.lemmas.Result.{err_from_is_err_and}
use Rattle.images.specs.Form.{known, form_of}
use Rattle.traces.specs.{Played.afresh, plays.Playing.play_ending}
use Rattle.image.specs.Shown.{form_view, form_known}
use Rattle.pch_pic_trace.proofs.play_trace.Endings.{afresh_passes, is_afresh, no_form, opens, unfit, ready, has_played}
use Rattle.pch_pic_trace.proofs.play_trace.play.Goals as goal
use Rattle.pch_pic_trace.proofs.play_trace.play.Goals.{In-Some}

-- the form that the image's length tells
its_form : (c : In-Some) → form_of (length c.args.image.now) ≡ known (form_view c.in-Some.form)
its_form c = sym c.form_of.ensures ∙ ap form_known c.in-Some.is

pub returns-in_default : goal.returns-in_default
returns-in_default c = let a = c.args in no_form a.trace.now a.image.now a.answers.now a.events.now (sym c.form_of.ensures ∙ ap form_known c.in_default.is)

pub returns-in_err-records : goal.returns-in_err-records
returns-in_err-records c =
    let a = c.args in
    let e = err_from_is_err_and c.from_residual.result c.from_residual.ensures.1 in
    rw (e.1, e.2) (unfit a.trace.now a.image.now a.answers.now a.events.now (afresh a.image.now) (play_ending a.trace.now a.image.now a.answers.now a.events.now)
    (opens a.trace.now a.image.now a.answers.now a.events.now (its_form (goal.at.returns-in_err-records c).In-Some)) c.in_err-records.field-0.0 c.in_err-records.ensures)

pub play_all-requires : goal.play_all-requires
play_all-requires c =
    let a = c.args in
    let f = its_form (goal.at.play_all-requires c).In-Some in
    ready a.trace.now a.image.now a.answers.now a.events.now (afresh a.image.now) (play_ending a.trace.now a.image.now a.answers.now a.events.now)
    (opens a.trace.now a.image.now a.answers.now a.events.now f) c.in_ok-records.ensures (is_afresh a.image.now f c.reset.result c.reset.ensures) (afresh_passes a.image.now f)

pub returns : goal.returns
returns c =
    let a = c.args in
    let f = its_form (goal.at.returns c).In-Some in
    has_played a.trace.now a.image.now a.answers.now a.events.now (afresh a.image.now) (play_ending a.trace.now a.image.now a.answers.now a.events.now)
    (opens a.trace.now a.image.now a.answers.now a.events.now f) c.in_ok-records.ensures (is_afresh a.image.now f c.reset.result c.reset.ensures) c.play_all.ensures
