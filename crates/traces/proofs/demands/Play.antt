-- What 02, C-11 says of playing: from reset, a refused call counting as one that did nothing; and sixteen answer bytes for each record.
use Rattle.basics.proofs.Prelude.{◌≡◌, refl, ap, cond, List, [], ℕ, zero, suc, ◌*◌, arith, length, take, replicate, length-append, ne_eqb, test}
use Rattle.rules.specs.{Device.reset, Numbering.drained_length, Numbering.from_zero}
use Rattle.images.specs.{Form.Form, Form.known, Form.form_of, Image.encode_like}
use Rattle.calls.specs.Calls.{Request, answer_length, answered, value_in, has_room, Ending, outcome}
use Rattle.calls.proofs.{laws.Outcomes.reset_done, demands.Refused.refused_changes_nothing}
use Rattle.traces.specs.{Trace.Record, Trace.record_count, Trace.nth, Played.request_of, Played.asked, Played.played_on, Played.drained_in, Played.played_from, Played.afresh, Played.played}
use Rattle.traces.proofs.laws.Plays.{played_none, played_next}

-- bytes of an admitted length, whatever they are, become the image of the device after reset, in that form, with numbers from 0
pub plays_from_reset : (i : List ℕ) (f : Form) → form_of (length i) ≡ known f → afresh i ≡ encode_like i reset (from_zero 0)
unfolding outcome
plays_from_reset i f e = ap (λ (x : Ending). x.image) (reset_done i f e)

-- a record whose call is refused leaves the image as it was, and drains nothing
pub refused_record : (i : List ℕ) (r : Record) → ((played_on i r).number ≡ 0 → ⊥) → ((played_on i r).image ≡ i) × (drained_in (played_on i r) ≡ [])
refused_record i r n = (
  (refused_changes_nothing (request_of r) i (replicate answer_length 0) n).image,
  ap (λ t. cond t (take (drained_length * value_in (played_on i r).answer) (played_on i r).events) []) (ne_eqb (played_on i r).number 0 n),
)

-- a call writes its sixteen answer bytes
pub sixteen_bytes : (q : Request) (i : List ℕ) → length (asked q i).answer ≡ 16
unfolding outcome answered
sixteen_bytes q i = test (has_room q (replicate answer_length 0)) (λ t. rw t refl) (λ t. rw t refl)

-- so a play has sixteen for each record
pub answers_from : (l : List ℕ) (n k : ℕ) (i : List ℕ) → length (played_from l n k i).answers ≡ 16 * n
answers_from l zero k i = rw (played_none l k i)
answers_from l (suc n) k i =
    rw (played_next l k i n, length-append, sixteen_bytes (request_of (nth l k)) i, answers_from l n (suc k) (played_on i (nth l k)).image) (omega arith)

pub answers_in_all : (l i : List ℕ) → length (played l i).answers ≡ 16 * record_count l
answers_in_all l i = answers_from l (record_count l) 0 (afresh i)
