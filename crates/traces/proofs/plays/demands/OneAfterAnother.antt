-- A day longer than a trace: traces played one after another, each on the image that the one before it left, are their records played in order. To play on is to make the records'
-- calls on that image; and a play from a reset is the reset, and then the trace played on what it left.
use Rattle.basics.proofs.Prelude.{◌≡◌, refl, sym, ap, subst, ◌∙◌, List, [], ◌∷◌, ◌++◌, map, append_assoc, ℕ, ◌*◌, zero-le, arith, length, take, drop, take_at, le-leb, ◌≤◌}
use Rattle.images.specs.{Form.Known, Form.unknown, Form.known, Form.form_of, Image.ImageTest, Image.wrong_length, Image.image_test}
use Rattle.calls.{specs.Calls.Outcome, specs.Calls.Ending, specs.Calls.answer_length, specs.Calls.outcome, proofs.laws.Outcomes.reset_refused, specs.Calls.AnswerRoom}
use Rattle.calls.specs.Untouched.{IsDone}
use Rattle.histories.{specs.exported.Exported.left_by, specs.exported.Exported.left_after, specs.exported.Exported.HandedOn, specs.exported.Alike.made_on, specs.exported.Alike.NoResets, proofs.exported.laws.Handed.made_handed_on}
use Rattle.traces.specs.{Trace.Record, Trace.record_count, Trace.trace_test}
use Rattle.traces.specs.Played.{played_on, drained_in, records, outcomes, Played, gathered, played_all, played_through, afresh, played}
use Rattle.traces.specs.plays.Playing.{play_room, refused, trace_left, length_left, image_left, play_test, play_on_test, PlayLeft, in_front, playing, playing_on}
use Rattle.traces.specs.plays.InTurn.{asking, calls_of, followed_by, day_on, records_of_all, wrote_of, SameIfDone}
use Rattle.traces.proofs.{demands.Play.answers_from, plays.laws.Drained.asked_ends, plays.laws.Keeps.no_reset, plays.laws.Ways.left_if, plays.laws.Ways.trace_named, plays.laws.Ways.lent_way}
use Rattle.traces.proofs.plays.demands.{Accepted.afresh_fits, Ended.has_played, EndedOn.has_played_on}
use Rattle.rules.specs.Device.{none}
use Rattle.calls.specs.Calls as request

-- ---- the records' calls, one after another

-- the outcomes of a play are what these calls leave, the image is that left at last, none is a reset, and each is handed the image of the one before
pub outcomes_of_calls : (i : List ℕ) (rs : List Record) → outcomes i rs ≡ map left_by (calls_of i rs)
unfolding outcomes made_on
outcomes_of_calls i [] = refl
outcomes_of_calls i (r ∷ rs) = ap (λ (os : List Outcome). played_on i r ∷ os) (outcomes_of_calls (played_on i r).image rs)

pub image_of_calls : (i : List ℕ) (rs : List Record) → (played_all i rs).image ≡ left_after i (calls_of i rs)
unfolding outcomes gathered made_on left_after
image_of_calls i [] = refl
image_of_calls i (r ∷ rs) = image_of_calls (played_on i r).image rs

pub calls_handed_on : (i : List ℕ) (rs : List Record) → HandedOn i (calls_of i rs)
unfolding NoResets
calls_handed_on i rs = made_handed_on i (map asking rs) (go rs)
  where
    go : (rs : List Record) → NoResets (map asking rs)
    go [] = tt
    go (r ∷ rs) = (no_reset r, go rs)

-- ---- records behind records

pub played_behind : (i : List ℕ) (rs ss : List Record) → played_all i (rs ++ ss) ≡ followed_by (played_all i rs) (played_all (played_all i rs).image ss)
unfolding outcomes gathered
played_behind i [] ss = refl
played_behind i (r ∷ rs) ss =
    let o = played_on i r in
    let p = played_all o.image rs in
    let q = played_all p.image ss in
    ap (λ (x : Played). record { image = x.image; answers = o.answer ++ x.answers; events = drained_in o ++ x.events }) (played_behind o.image rs ss)
    ∙ (λ t. record {
      image = q.image;
      answers = sym (append_assoc o.answer p.answers q.answers) t;
      events = sym (append_assoc (drained_in o) p.events q.events) t;
    })

-- so of any number of traces
pub day_in_order : (i : List ℕ) (ls : List (List ℕ)) → day_on i ls ≡ played_all i (records_of_all ls)
unfolding day_on records_of_all outcomes gathered
day_in_order i [] = refl
day_in_order i (l ∷ ls) = ap (followed_by (played_through l i)) (day_in_order (played_through l i).image ls) ∙ sym (played_behind i (records l) (records_of_all ls))

-- ---- of exported calls

-- done, a call wrote the whole play in front of what it was lent
wrote : (l b bs es : List ℕ) {a : List ℕ} {n : ℕ} {x : PlayLeft}
    → x ≡ record { number = n; image = (played_through l b).image; answers = in_front (played_through l b).answers bs; events = in_front (played_through l b).events es; answer = a }
    → wrote_of l b x ≡ played_through l b
wrote l b bs es w =
    let p = played_through l b in
    (λ t. record {
      image = (w t).image;
      answers = (ap (λ (x : PlayLeft). take (16 * record_count l) x.answers) w ∙ take_at p.answers (drop (length p.answers) bs) (16 * record_count l) (answers_from l (record_count l) 0 b)) t;
      events = (ap (λ (x : PlayLeft). take (length p.events) x.events) w ∙ take_at p.events (drop (length p.events) es) (length p.events) refl) t;
    })

-- from a reset, and on
pub wrote_all : (l i bs es a : List ℕ) → (playing l i bs es a).number ≡ 0 → wrote_of l (afresh i) (playing l i bs es a) ≡ played l i
wrote_all l i bs es a done = wrote l (afresh i) bs es (has_played l i bs es a done)

pub wrote_all_on : (l i bs es a : List ℕ) → (playing_on l i bs es a).number ≡ 0 → wrote_of l i (playing_on l i bs es a) ≡ played_through l i
wrote_all_on l i bs es a done = wrote l i bs es (has_played_on l i bs es a done)

-- all that it left is what the exported calls leave, made one after another on that image
pub as_the_calls : (l i bs es a : List ℕ) → (playing_on l i bs es a).number ≡ 0 → wrote_of l i (playing_on l i bs es a) ≡ gathered i (map left_by (calls_of i (records l)))
as_the_calls l i bs es a done = wrote_all_on l i bs es a done ∙ ap (gathered i) (outcomes_of_calls i (records l))

-- a second trace is played on the image that a first call left, which played from b on: image, answers and events are those of the records of both in order
module _ (l b : List ℕ) (x : PlayLeft) (whole : wrote_of l b x ≡ played_through l b) (m cs fs c : List ℕ) (again : IsDone (playing_on m x.image cs fs c).number) where
  behind_it : followed_by (wrote_of l b x) (wrote_of m x.image (playing_on m x.image cs fs c)) ≡ played_all b (records l ++ records m)
  behind_it =
      (λ t. followed_by (whole t) ((wrote_all_on m x.image cs fs c again ∙ ap (λ (p : Played). played_through m p.image) whole) t)) ∙ sym (played_behind b (records l) (records m))

module _ (l i bs es a m cs fs c : List ℕ) where
  pub in_turn : (playing_on l i bs es a).number ≡ 0 → (playing_on m (playing_on l i bs es a).image cs fs c).number ≡ 0
      → followed_by (wrote_of l i (playing_on l i bs es a)) (wrote_of m (playing_on l i bs es a).image (playing_on m (playing_on l i bs es a).image cs fs c)) ≡ played_all i (records l ++ records m)
  in_turn done again = behind_it l i (playing_on l i bs es a) (wrote_all_on l i bs es a done) m cs fs c again

  -- the first from a reset
  pub in_turn_from_reset : (playing l i bs es a).number ≡ 0 → (playing_on m (playing l i bs es a).image cs fs c).number ≡ 0
      → followed_by (wrote_of l (afresh i) (playing l i bs es a)) (wrote_of m (playing l i bs es a).image (playing_on m (playing l i bs es a).image cs fs c)) ≡ played_all (afresh i) (records l ++ records m)
  in_turn_from_reset done again = behind_it l (afresh i) (playing l i bs es a) (wrote_all l i bs es a done) m cs fs c again

  -- so where a trace has the records of both, they are that trace played on
  pub as_one_trace : (w ds gs e : List ℕ) → records w ≡ records l ++ records m → (playing_on l i bs es a).number ≡ 0 → (playing_on m (playing_on l i bs es a).image cs fs c).number ≡ 0
      → (playing_on w i ds gs e).number ≡ 0
      → followed_by (wrote_of l i (playing_on l i bs es a)) (wrote_of m (playing_on l i bs es a).image (playing_on m (playing_on l i bs es a).image cs fs c)) ≡ wrote_of w i (playing_on w i ds gs e)
  as_one_trace w ds gs e same done again whole = in_turn done again ∙ ap (played_all i) (sym same) ∙ sym (wrote_all_on w i ds gs e whole)

-- ---- from a reset

-- the reset leaves the same image in any answer area
reset_image : (i c : List ℕ) → AnswerRoom c → (outcome request.reset i c).image ≡ afresh i
unfolding outcome
reset_image i c h = rw (le-leb answer_length (length c) (omega (arith, h)))

-- bytes of no admitted length stay, and are refused by both with 4
module _ (i : List ℕ) (k : form_of (length i) ≡ unknown) where
  stays : afresh i ≡ i
  stays = ap (λ (o : Outcome). o.image) (asked_ends request.reset i zero-le) ∙ ap (λ (x : Ending). x.image) (reset_refused i k)

  no_length : image_test (afresh i) ≡ wrong_length
  unfolding image_test
  no_length = ap image_test stays ∙ rw k

-- both tests come to the same
module _ (l i bs es a : List ℕ) where
  abbrev Same : List ℕ → Type 0
  Same j = SameIfDone (playing l i bs es a) (playing_on l j bs es a)

  by_tests : {k : Known} → form_of (length i) ≡ k → {x : ImageTest} → image_test (afresh i) ≡ x
      → SameIfDone (left_if l (afresh i) i bs es a (length_left k (trace_left (trace_test l) (play_room l bs es)))) (left_if l (afresh i) (afresh i) bs es a (image_left x (trace_left (trace_test l) (play_room l bs es)))) → Same (afresh i)
  unfolding playing playing_on play_test play_on_test
  by_tests e f s = rw (e, f) s

  -- a play is the reset, and then the trace played on what the reset left: in number, answers, events and answer area, and in the image where it is done
  pub reset_then_on : (c : List ℕ) → answer_length ≤ length c → Same (outcome request.reset i c).image
  reset_then_on c h = subst Same (sym (reset_image i c h)) (go (form_of (length i)) refl)
    where
      go : (k : Known) → form_of (length i) ≡ k → Same (afresh i)
      go unknown e = by_tests e (no_length i e) (lent_way l (afresh i) i (afresh i) bs es a (refused 4 none) (λ z. omega (arith, z)))
      go (known f) e = by_tests e (afresh_fits i e).good (lent_way l (afresh i) i (afresh i) bs es a (trace_left (trace_test l) (play_room l bs es)) (trace_named (trace_test l) (play_room l bs es)))
