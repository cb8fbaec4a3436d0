-- Who waits: the call that tells which inputs a poll would bring into service. It changes nothing, so that it is no record of a trace and no `Request`: what it
-- leaves of any bytes stands here, by the image's test and the answer area of the six calls.
use Rattle.std.specs.Prelude.{cond, List, [], ℕ, leb, length}
use Rattle.basics.specs.Inputs.{register}
use Rattle.rules.specs.Lines.{Lines, is_pending}
use Rattle.rules.specs.Device.{some}
use Rattle.images.specs.Image.{image_test, decode}
use Rattle.calls.specs.Calls.{no_room, refusal_number, refusal_value, Tested, pass, refuse, on_pass, image_answer, answer_length, Outcome, leaves, Ending, settled}

-- the inputs that are latched, unmasked and not in service, bit n for input n (01, Inputs: poll)
abbrev pub waiting_in : Lines → ℕ
waiting_in l = register (is_pending l)

-- 4, 5, 8 to 11, and then the set (01, Numbers handed back; 02, C-16)
unfoldable pub waiting_told : List ℕ → Tested ℕ
waiting_told i = on_pass (image_answer (image_test i) (decode i)) (λ d. pass (waiting_in d.core.lines))

-- done: the set is its value; either way the image stays
abbrev pub waiting_ended : List ℕ → Tested ℕ → Ending
waiting_ended i (pass w) = record { number = 0; value = some w; image = i; events = [] }
waiting_ended i (refuse r) = record { number = refusal_number r; value = refusal_value r; image = i; events = [] }

abbrev pub waiting_ending : List ℕ → Ending
waiting_ending i = waiting_ended i (waiting_told i)

-- what is left of image and answer area; refusal 7 comes first and leaves every byte (01, Numbers handed back)
unfoldable pub waiting : (image answer : List ℕ) → Outcome
waiting i a = cond (leb answer_length (length a)) (settled a (waiting_ending i)) (leaves (refusal_number no_room) i a [])
