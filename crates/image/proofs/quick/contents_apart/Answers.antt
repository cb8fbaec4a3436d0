-- `contents_apart`: nothing is gathered exactly where all four numbers are those of the contents.
use Rattle.basics.proofs.Prelude.{◌∙◌, ◌&&◌, arith}
use Rattle.image.specs.Shown.{form_view}
use Rattle.image.proofs.{unused.Pairs.four, head.Heads.by_words}
use Rattle.image.proofs.quick.contents_apart.Goals as goal

pub returns : goal.returns
returns c =
    four c.apart.result c.apart-2.result c.apart-3.result c.apart-4.result
    ∙ (λ t. ((c.apart.ensures t && c.apart-2.ensures t) && c.apart-3.ensures t) && c.apart-4.ensures t)
    ∙ by_words (form_view c.args.form) c.args.image.now (λ j. omega (arith, c.type_inv.image j)) c.contents_of-c.result c.contents_of-c.ensures c.requires
    c.word_at.ensures c.word_at-2.ensures c.word_at-3.ensures c.word_at-4.ensures
