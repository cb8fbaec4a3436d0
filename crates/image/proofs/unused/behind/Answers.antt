-- `behind`: words from there on, or what is left of the last word.
use Rattle.basics.proofs.Prelude.{◌*◌, arith}
use Rattle.image.proofs.unused.{Overlaps.by_words, Overlaps.by_shift}
use Rattle.image.proofs.unused.behind.Goals as goal

pub returns-then-count-le12 : goal.returns-then-count-le12
returns-then-count-le12 c =
    by_words c.args.events.now (λ j. omega (arith, c.type_inv.events j)) c.requires.0 (2 * c.args.count) (omega arith)
    c.word_at.ensures c.word_or_last.ensures c.word_or_last-then-count-le12.ensures c.word_at-then-count-le12.ensures

pub returns : goal.returns
returns c = by_shift c.args.events.now (λ j. omega (arith, c.type_inv.events j)) c.requires.0 c.args.count (omega arith) c.requires.1 c.word_at-2.ensures
