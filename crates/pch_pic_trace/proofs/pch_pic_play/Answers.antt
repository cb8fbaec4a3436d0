-- `pch_pic_play`: 7 where the answer area is short or the play finds no room; else what the play tells stands there.
use Rattle.traces.specs.plays.Playing.{play_ending}
use Rattle.pch_pic_trace.proofs.{Left.from_reset, Left.answer_short, Left.told}
use Rattle.pch_pic_trace.proofs.pch_pic_play.Goals as goal

pub returns-then-answer-lt16 : goal.returns-then-answer-lt16
returns-then-answer-lt16 c = let a = c.args in
    answer_short (play_ending a.trace.now a.image.now a.answers.now a.events.now) a.image.now a.answers.now a.events.now a.answer.now (from_reset a.trace.now a.image.now a.answers.now a.events.now a.answer.now) c.if-answer-lt16.true

pub returns : goal.returns
returns c = let a = c.args in
    told (play_ending a.trace.now a.image.now a.answers.now a.events.now) a.image.now a.answers.now a.events.now a.answer.now (from_reset a.trace.now a.image.now a.answers.now a.events.now a.answer.now) c.if-answer-lt16.false c.play-told.result c.play-told.ensures c.tell_late.ensures
