-- What an image that passed its tests has: the length of its form, room in its ring, and the device that it loads.
use Rattle.basics.proofs.Prelude.{◌≡◌, sym, ◌∙◌, List, ℕ, ◌≤◌, length}
use Rattle.images.specs.{Form.Form, Form.forms, Form.form_length, Image.decode, Image.numbers_in, Image.count_in}
use Rattle.images.proofs.laws.Tests.{form_known_lem, test_known_lem, accepted_has}
use Rattle.fields.specs.inplace.{Held.Holds, Passed.Passed}
use Rattle.fields.proofs.inplace.Doing.{held}

module _ {f : Form} {i : List ℕ} (p : Passed f i) where
  pub long : length i ≡ form_length f
  long = form_known_lem forms (length i) f p.known

  pub few : count_in f i ≤ 16
  few = (accepted_has f i (sym (test_known_lem i p.known) ∙ p.good)).ruled.counted

  pub here : Holds i (decode i) (numbers_in i)
  here = held i p.bytes p.good
