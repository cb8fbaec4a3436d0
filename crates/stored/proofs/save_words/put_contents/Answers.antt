-- `put_contents`: the numbers are those that the contents spell, and their bytes are the contents; some bytes are written twice. Four bodies take three numbers.
use Rattle.image.specs.Shown.{form_view}
use Rattle.stored.proofs.{saves.Putting.contents_put}
use Rattle.stored.proofs.save_words.put_contents.Goals as goal

pub returns : goal.returns
returns c = contents_put (form_view c.args.form) c.contents_of-c.result c.contents_of-c.ensures c.args.image.now c.put_word.ensures c.put_word-2.ensures c.put_word-3.ensures c.put_word-4.ensures
