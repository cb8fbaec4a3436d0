-- `pch_pic_play_on`: 7 where the answer area is short or the play finds no room; else what the play tells stands there.
use Rattle.traces.specs.plays.Playing.{play_on_ending}
use Rattle.pch_pic_trace.proofs.{Left.on_it, Left.answer_short, Left.told}
use Rattle.pch_pic_trace.proofs.pch_pic_play_on.Goals as goal

pub returns-then-answer-lt-ANSWER : goal.returns-then-answer-lt-ANSWER
returns-then-answer-lt-ANSWER c = let a = c.args in
    answer_short (play_on_ending a.trace.now a.image.now a.answers.now a.events.now) a.image.now a.answers.now a.events.now a.answer.now (on_it a.trace.now a.image.now a.answers.now a.events.now a.answer.now) c.if-answer-lt-ANSWER.true

pub returns : goal.returns
returns c = let a = c.args in
    told (play_on_ending a.trace.now a.image.now a.answers.now a.events.now) a.image.now a.answers.now a.events.now a.answer.now (on_it a.trace.now a.image.now a.answers.now a.events.now a.answer.now) c.if-answer-lt-ANSWER.false c.play-told.result c.play-told.ensures c.tell_late.ensures
