-- Moving an image to the form of a target's length: what the call hands back, and every byte of target and answer area afterwards (02, C-17).
use Rattle.std.specs.Prelude.{cond, List, [], ℕ, leb, length}
use Rattle.rules.specs.Device.{none}
use Rattle.images.specs.Form.{Form, Known, unknown, known, form_of}
use Rattle.images.specs.Image.{image_test, encode_as, decode, numbers_in}
use Rattle.calls.specs.Calls.{wrong_length, no_room, refusal_number, refusal_value, Tested, pass, refuse, on_pass, image_answer, answer_length, Outcome, leaves, Ending, settled}

-- 4: the form that a length tells, if it tells one
abbrev pub length_test : Known → Tested Form
length_test unknown = refuse wrong_length
length_test (known f) = pass f

-- the image in the form of the target's length: 4 of the image and then of the target come before 5 and 8 to 11 (02, C-17)
unfoldable pub converted : (image target : List ℕ) → Tested (List ℕ)
converted i t =
    on_pass (length_test (form_of (length i))) (λ f. on_pass (length_test (form_of (length t))) (λ g. on_pass (image_answer (image_test i) (decode i)) (λ d. pass (encode_as g d (numbers_in i)))))

-- done: the target has the image and there is no value; refused: the target stays
abbrev pub convert_ended : List ℕ → Tested (List ℕ) → Ending
convert_ended t (pass j) = record { number = 0; value = none; image = j; events = [] }
convert_ended t (refuse r) = record { number = refusal_number r; value = refusal_value r; image = t; events = [] }

abbrev pub convert_ending : (image target : List ℕ) → Ending
convert_ending i t = convert_ended t (converted i t)

-- what is left of target and answer area; refusal 7 comes first and leaves every byte (01, Numbers handed back)
unfoldable pub conversion : (image target answer : List ℕ) → Outcome
conversion i t a = cond (leb answer_length (length a)) (settled a (convert_ending i t)) (leaves (refusal_number no_room) t a [])
