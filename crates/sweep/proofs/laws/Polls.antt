-- Polls one after another, from any accepted image and with an answer area that has room: each is done and leaves such an image and area (polls-done). The
-- calls of all 64 are a sweep (all-polled), and those of listed inputs are what polling these alone leaves of it (listed-polled).
use Rattle.basics.proofs.Prelude.{◌≡◌, refl, sym, ap, ap₂, ◌∙◌, ⊎_elim, Bool, true, or-true, List, [], ◌∷◌, ◌++◌, map, ℕ, zero, suc, ◌+◌, ◌<◌, ◌≤◌, eq-or-lt_of_le, arith, lit≤, length, eq-eqb, le-leb, lt-ltb, Bytes, on, from, inputs, test}
use Rattle.rules.specs.{Device.Call, Device.poll, Device.up_from, Device.Value, Device.step, Numbering.numbers_after, Numbering.value_with}
use Rattle.rules.proofs.laws.Numbered.{numbers_step}
use Rattle.images.{specs.Image.decode, specs.Image.numbers_in, specs.Image.image_test, specs.Image.accepted, proofs.laws.Saved.bytes_encode}
use Rattle.calls.specs.Calls.{performed, answer_length, answered, outcome, AnswerRoom}
use Rattle.histories.specs.exported.Exported.{Exported, left_by, is_done, HandedOn, done_call, done_calls}
use Rattle.histories.proofs.{laws.WellFormed.step_well, exported.demands.FromCalls.a_call_is_a_step}
use Rattle.sweep.specs.{Sweeps.sweeping, Sweeps.is_poll, Sweeps.every_call, Sweeps.some_call, Sweeps.Sweep, Handed.polls_from, Waited.polling_only, Waited.polls_of}
use Rattle.laws.proofs.laws.Images.{accepted_has, encode_as_lem, encode_decode, decode_well_formed, numbers_well, accepted_encode}
use Rattle.calls.specs.Calls as request

-- ---- their calls

abbrev pub poll_calls : ℕ → ℕ → List Call
poll_calls n k = map poll (up_from n k)

polls_sweep : (n k : ℕ) → every_call sweeping (poll_calls n k) ≡ true
unfolding up_from
polls_sweep n zero = refl
polls_sweep n (suc k) = polls_sweep (suc n) k

polls_some : (n k m : ℕ) → n ≤ m → m < n + k → some_call (is_poll m) (poll_calls n k) ≡ true
unfolding up_from
polls_some n zero m a b = absurd (omega arith)
polls_some n (suc k) m a b =
    ⊎_elim (λ e. rw (eq-eqb n m e)) (λ l. rw (polls_some (suc n) k m l (omega arith)) (or-true (is_poll m (poll n)))) (eq-or-lt_of_le a)

pub all_polled : Sweep (poll_calls 0 64)
all_polled = record { admitted = polls_sweep 0 64; polled = λ m b. polls_some 0 64 m (omega arith) (omega (arith, b)) }

-- ---- they are done

-- bytes that are accepted, and an answer area with room
record Fit (i a : List ℕ) : Type 0 where
  bytes : Bytes i
  is_accepted : image_test i ≡ accepted
  room : AnswerRoom a

pub length_answered : (number : ℕ) (v : Value) (a : List ℕ) → answer_length ≤ length (answered number v a)
unfolding answered
length_answered number v a = omega arith

module _ (n : ℕ) (b : n < 64) (i a : List ℕ) (f : Fit i a) where
  abbrev polling : Exported
  polling = record { given = i; asked = request.poll n; answer = a }

  poll_done : is_done polling ≡ true
  unfolding outcome performed
  poll_done = rw (le-leb answer_length (length a) f.room, f.is_accepted, lt-ltb n 64 b)

  poll_call : done_call polling ≡ poll n ∷ []
  poll_call = rw (poll_done, lt-ltb n 64 b)

  poll_fit : Fit (left_by polling).image (left_by polling).answer
  poll_fit =
      let d = decode i in
      let s = numbers_in i in
      let w = decode_well_formed i f.bytes f.is_accepted in
      let v = numbers_well i f.bytes f.is_accepted in
      let its = accepted_has i f.is_accepted in
      let saved = encode_as_lem its.form i its.has.sized in
      let r = a_call_is_a_step d w s v its.form polling (sym (encode_decode i f.bytes f.is_accepted) ∙ saved d s) refl poll_done in
      let e = (step d r.call).after in
      let t = numbers_after d s r.call in
      let after = step_well d r.call w in
      let numbered = numbers_step d s r.call v in
      let is = r.image ∙ saved e t in
      record {
        bytes = rw is (bytes_encode e after t numbered its.form);
        is_accepted = rw is (accepted_encode e after t numbered its.form);
        room = rw r.answer (length_answered 0 (value_with d s r.call) a);
      }

record Polled (n k : ℕ) (i a : List ℕ) : Type 0 where
  handed_on : HandedOn i (polls_from n k i a)
  calls : done_calls (polls_from n k i a) ≡ poll_calls n k

polled_from : (n k : ℕ) → n + k ≤ 64 → (i a : List ℕ) → Fit i a → Polled n k i a
unfolding polls_from HandedOn done_calls up_from
polled_from n zero l i a f = record { handed_on = tt; calls = refl }
polled_from n (suc k) l i a f =
    let b : n < 64 = omega arith in
    let rest = polled_from (suc n) k (omega arith) _ _ (poll_fit n b i a f) in
    record { handed_on = (refl, refl, rest.handed_on); calls = ap₂ ◌++◌ (poll_call n b i a f) rest.calls }

pub polls_done : (n k : ℕ) → n + k ≤ 64 → (i a : List ℕ) → Bytes i → image_test i ≡ accepted → answer_length ≤ length a
    → HandedOn i (polls_from n k i a) × (done_calls (polls_from n k i a) ≡ poll_calls n k)
polls_done n k l i a b e h =
    let r = polled_from n k l i a (record { bytes = b; is_accepted = e; room = h }) in
    (r.handed_on, r.calls)

-- ---- polls of listed inputs

-- those of the k inputs from n on that are in w are what is left of polling all k
pub listed_polled : (w n k : ℕ) → polling_only w (poll_calls n k) ≡ map poll (from n k (on w))
unfolding up_from from polling_only
listed_polled w n zero = refl
listed_polled w n (suc k) = test (on w n) (λ t. rw t (ap (λ cs. poll n ∷ cs) (listed_polled w (suc n) k))) (λ t. rw t (listed_polled w (suc n) k))

record Listed (ns : List ℕ) (i a : List ℕ) : Type 0 where
  handed_on : HandedOn i (polls_of ns i a)
  calls : done_calls (polls_of ns i a) ≡ map poll ns

listed_from : (f : ℕ → Bool) (n k : ℕ) → n + k ≤ 64 → (i a : List ℕ) → Fit i a → Listed (from n k f) i a
unfolding from polls_of HandedOn done_calls
listed_from f n zero l i a g = record { handed_on = tt; calls = refl }
listed_from f n (suc k) l i a g =
    let b : n < 64 = omega arith in
    test (f n)
    (λ t.
    let rest = listed_from f (suc n) k (omega arith) _ _ (poll_fit n b i a g) in
    rw t (record { handed_on = (refl, refl, rest.handed_on); calls = ap₂ ◌++◌ (poll_call n b i a g) rest.calls }))
    (λ t. rw t (listed_from f (suc n) k (omega arith) i a g))

pub listed_done : (f : ℕ → Bool) (i a : List ℕ) → Bytes i → image_test i ≡ accepted → answer_length ≤ length a
    → HandedOn i (polls_of (inputs f) i a) × (done_calls (polls_of (inputs f) i a) ≡ map poll (inputs f))
listed_done f i a b e h =
    let r = listed_from f 0 64 (lit≤ tt) i a (record { bytes = b; is_accepted = e; room = h }) in
    (r.handed_on, r.calls)
