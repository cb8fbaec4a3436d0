-- `contents_good`: where three numbers agree the last decides.
use Rattle.basics.proofs.Prelude.{sym, ◌∙◌, arith}
use Rattle.image.specs.Shown.{form_view}
use Rattle.image.proofs.head.{Heads.agrees}
use Rattle.image.proofs.head.contents_good.Goals as goal

pub returns : goal.returns
returns c =
    agrees (form_view c.args.form) c.args.image.now (λ j. omega (arith, c.type_inv.image j)) c.contents_of-c.result c.contents_of-c.ensures c.requires
    c.word_at-4.result (sym c.word_at.ensures ∙ c.if-word_at-c.false) (sym c.word_at-2.ensures ∙ c.if-word_at-c-2.false) (sym c.word_at-3.ensures ∙ c.if-word_at-c-3.false) c.word_at-4.ensures
