-- Playing a trace (02, C-11): the exported call that each record is, made one after another, on an image or from a reset.
use Rattle.std.specs.Prelude.{cond, List, [], ◌∷◌, ◌++◌, ℕ, zero, suc, ◌*◌, eqb, take, replicate}
use Rattle.rules.specs.Ring.{capacity}
use Rattle.rules.specs.Numbering.{drained_length}
use Rattle.calls.specs.Calls.{Request, Outcome, outcome, answer_length, value_in}
use Rattle.calls.specs.Calls as request
use Rattle.traces.specs.Trace.{Record, record_count, nth}

-- ---- one record

-- calls are made with base 0 and size 65,536
abbrev pub play_base : ℕ
play_base = 0

abbrev pub play_size : ℕ
play_size = 65536

-- a drain of all has room for as many events as can wait
abbrev pub drain_room : ℕ
drain_room = drained_length * capacity

-- the call that a good record is, by its kind: 1 raise, 2 lower, 3 poll, 4 read, 5 write, 6 drain of all
unfoldable pub request_of : Record → Request
request_of r =
    cond (eqb r.kind 1) (request.level r.byte 1)
    (cond (eqb r.kind 2) (request.level r.byte 0)
    (cond (eqb r.kind 3) (request.poll r.byte)
    (cond (eqb r.kind 4) (request.read play_base play_size r.offset r.byte)
    (cond (eqb r.kind 5) (request.write play_base play_size r.offset r.byte r.value) (request.drain (replicate drain_room 0) 0)))))

-- what a call leaves of an image, with an answer area of its own
abbrev pub asked : Request → List ℕ → Outcome
asked q i = outcome q i (replicate answer_length 0)

abbrev pub played_on : List ℕ → Record → Outcome
played_on i r = asked (request_of r) i

-- the events that it drained, four bytes each; its answer says how many, and a refused call drains none
abbrev pub drained_in : Outcome → List ℕ
drained_in o = cond (eqb o.number 0) (take (drained_length * value_in o.answer) o.events) []

-- ---- one after another

-- n records of a trace from number k on
unfoldable pub records_from : List ℕ → ℕ → ℕ → List Record
records_from l zero k = []
records_from l (suc n) k = nth l k ∷ records_from l n (suc k)

abbrev pub records : List ℕ → List Record
records l = records_from l (record_count l) 0

-- what each leaves, of the image that the one before it left; a refused call left it as it was
unfoldable pub outcomes : List ℕ → List Record → List Outcome
outcomes i [] = []
outcomes i (r ∷ rs) = played_on i r ∷ outcomes (played_on i r).image rs

-- the bytes that are left of it all: the image after the last, the answers back to back, the drained events back to back
pub record Played : Type 0 where
  pub image : List ℕ
  pub answers : List ℕ
  pub events : List ℕ

unfoldable pub gathered : List ℕ → List Outcome → Played
gathered i [] = record { image = i; answers = []; events = [] }
gathered i (o ∷ os) =
    let rest = gathered o.image os in
    record { image = rest.image; answers = o.answer ++ rest.answers; events = drained_in o ++ rest.events }

-- what records leave, played on an image
abbrev pub played_all : List ℕ → List Record → Played
played_all i rs = gathered i (outcomes i rs)

-- n records of a trace from number k on
abbrev pub played_from : List ℕ → ℕ → ℕ → List ℕ → Played
played_from l n k i = played_all i (records_from l n k)

-- ---- a trace

-- a good trace played on an image: all its records
abbrev pub played_through : List ℕ → List ℕ → Played
played_through l i = played_all i (records l)

-- the image that a reset makes of bytes of an admitted length
abbrev pub afresh : List ℕ → List ℕ
afresh i = (asked request.reset i).image

-- a good trace played on such bytes from reset: the outcome after each record, and the bytes left
abbrev pub outcomes_of : List ℕ → List ℕ → List Outcome
outcomes_of l i = outcomes (afresh i) (records l)

abbrev pub played : List ℕ → List ℕ → Played
played l i = played_through l (afresh i)
