-- `make` is right since a call that is no drain writes no event, and a drain writes in the bytes that it is lent.
use Rattle.basics.proofs.Prelude.{◌≡◌, refl, sym, ap, ◌∙◌, cond, List, [], ℕ, ◌<◌, arith, take, drop, lt-ltb}
use Rattle.calls.specs.Calls.{Request, leaves, outcome}
use Rattle.replay.specs.records.Records.{call_code, kind_of, lent_events, word_at, event_fill}
use Rattle.replay.specs.replay_call.Recorded.{request_of, made, Makes}
use Rattle.calls.specs.Calls as asked
use Rattle.replay.proofs.replay_call.make.Goals as goal

-- what a call left, by the request that its kind has
as_noted : (r i a e : List ℕ) {j b w : List ℕ} {n : ℕ} (k : ℕ) (q : Request) → k ≡ kind_of r → leaves n j b w ≡ outcome q i a → q ≡ request_of k r e
    → leaves n j b w ≡ made r i a e
as_noted r i a e k q h p f = p ∙ ap (λ (x : Request). outcome x i a) (f ∙ ap (λ (k : ℕ). request_of k r e) h)

-- a call that is no drain is lent none of the event buffer
unlent : (r i a j b : List ℕ) (k n : ℕ) → kind_of r < 6 → k ≡ lent_events (kind_of r) r → leaves n j b [] ≡ made r i a []
    → Makes (record { number = n; events = event_fill }) r k i a j b
unlent r i a j b k n h e p =
    let z : k ≡ 0 = e ∙ ap (λ t. cond t 0 (word_at 24 r)) (lt-ltb (kind_of r) 6 h) in
    record { written = []; buffer = ap (λ (n : ℕ). drop n event_fill) (sym z); left = p ∙ ap (λ (n : ℕ). made r i a (take n event_fill)) (sym z) }

pub returns-in-Reset : goal.returns-in-Reset
returns-in-Reset c = let a = c.args in let r = a.noted.now in let code : 1 ≡ kind_of r = sym (ap call_code c.in-Reset.is) ∙ c.requires.0 in
    unlent r a.image.now a.answer.now _ _ a.k _ (omega (arith, code)) c.requires.1
    (as_noted r a.image.now a.answer.now [] 1 _ code c.pch_pic_reset-number.ensures refl)

pub returns-in-Read : goal.returns-in-Read
returns-in-Read c = let a = c.args in let r = a.noted.now in let code : 2 ≡ kind_of r = sym (ap call_code c.in-Read.is) ∙ c.requires.0 in
    unlent r a.image.now a.answer.now _ _ a.k _ (omega (arith, code)) c.requires.1
    (as_noted r a.image.now a.answer.now [] 2 _ code c.pch_pic_read-number.ensures
    (λ j. asked.read (c.word_at-first.ensures j) (c.word_at-second.ensures j) (c.word_at-address.ensures j) (c.word_at-width.ensures j)))

pub returns-in-Write : goal.returns-in-Write
returns-in-Write c = let a = c.args in let r = a.noted.now in let code : 3 ≡ kind_of r = sym (ap call_code c.in-Write.is) ∙ c.requires.0 in
    unlent r a.image.now a.answer.now _ _ a.k _ (omega (arith, code)) c.requires.1
    (as_noted r a.image.now a.answer.now [] 3 _ code c.pch_pic_write-number.ensures
    (λ j. asked.write (c.word_at-first.ensures j) (c.word_at-second.ensures j) (c.word_at-address.ensures j) (c.word_at-width.ensures j) (c.word_at-value.ensures j)))

pub returns-in-Level : goal.returns-in-Level
returns-in-Level c = let a = c.args in let r = a.noted.now in let code : 4 ≡ kind_of r = sym (ap call_code c.in-Level.is) ∙ c.requires.0 in
    unlent r a.image.now a.answer.now _ _ a.k _ (omega (arith, code)) c.requires.1
    (as_noted r a.image.now a.answer.now [] 4 _ code c.pch_pic_level-number.ensures (λ j. asked.level (c.word_at-first.ensures j) (c.word_at-second.ensures j)))

pub returns-in-Poll : goal.returns-in-Poll
returns-in-Poll c = let a = c.args in let r = a.noted.now in let code : 5 ≡ kind_of r = sym (ap call_code c.in-Poll.is) ∙ c.requires.0 in
    unlent r a.image.now a.answer.now _ _ a.k _ (omega (arith, code)) c.requires.1
    (as_noted r a.image.now a.answer.now [] 5 _ code c.pch_pic_poll-number.ensures (ap asked.poll c.word_at-first.ensures))

pub returns-in-Drain : goal.returns-in-Drain
returns-in-Drain c = let a = c.args in let e = take a.k event_fill in
    record {
      written = c.pch_pic_drain-number.new.events;
      buffer = refl;
      left = as_noted a.noted.now a.image.now a.answer.now e 6 _ (sym (ap call_code c.in-Drain.is) ∙ c.requires.0) c.pch_pic_drain-number.ensures (ap (asked.drain e) c.word_at-first.ensures);
    }
