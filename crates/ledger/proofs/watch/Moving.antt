-- What enters and what leaves, by value: the numbers come to the rules' turns.
use Rattle.basics.proofs.Prelude.{◌≡◌, refl, sym, ap, ◌∙◌, Bool, true, false, cond, not, ◌&&◌, ◌||◌, and_comm, List, [], ◌∷◌, map, ℕ, ◌-◌, ◌*◌, ◌%◌, ◌^◌, ◌<◌, arith, bit_and, bit_or, count_trailing_zeros, eqb, eq-eqb, eqb-true, on, inputs, only, register, without, with_half, test, is_number, on_number, on_none, on_or, on_bit, put_is, without_is, without_only_is, without_ext, register_ext, first_input, no_input_lem}
use Rattle.rules.specs.Lines.{Lines, stay, and_then, with_mask, with_irr, with_isr, event, is_pending, pending_in, served_in, serve, enter, leave, newly_unmasked, newly_masked, polled, raised, lowered, masked, cleared}
use Rattle.rules.specs.Core.{move, poll, raise, lower, clear, set_mask, moved}
use Rattle.laws.proofs.laws.Sets.{only_waiting, only_served, stages}
use Rattle.device.{specs.decide.Sets.waiting_of, specs.decide.Sets.served_of, proofs.decide.Deciding.inputs_of, proofs.decide.Deciding.none_served}
use Rattle.passes.specs.tallies.{Grid.Becomes, Grid.bump, Marks.began, Marks.taken_back, Marks.idle_in, Marks.bumped, Following.Takes, Following.Offers, Following.Turns, Following.Follows}
use Rattle.passes.proofs.tallies.laws.Taking.{takes_none, takes_one, takes_then, takes_same}
use Rattle.passes.proofs.tallies.laws.Turning.{offers_none, offers_same, turns_same, turns_then, follows_move}
use Rattle.ledger.proofs.watch.Visiting.{Deasserted}
use Rattle.passes.specs.tallies.Marks as marks

turns_stay : {wide : Bool} (l : Lines) (b : List ℕ) (k w : ℕ) → Turns wide l b b k w w (λ vs. stay l)
turns_stay l b k w = record { lines = λ vs. refl; events = offers_none b k w }

-- no input has f
none_registered : (f : ℕ → Bool) → ((i : ℕ) → i < 64 → f i ≡ false) → 0 ≡ register f
none_registered f e = is_number 64 0 f (omega arith) (λ i q. on_none i ∙ sym (e i q))

-- ---- enter

module _ (l : Lines) (b : List ℕ) (k w set : ℕ) {p : ℕ} (is : p ≡ register (waiting_of set l.irr l.mask l.isr)) where
  waiting : inputs (on p) ≡ inputs (pending_in (on set) l)
  waiting = inputs_of (waiting_of set l.irr l.mask l.isr) is

  pub enter_none : {wide : Bool} (o : Bool) → p ≡ 0 → Turns wide l b b k w w (λ vs. enter vs o (on set) l)
  enter_none o z = turns_same k (λ vs. stay l) (λ vs. enter vs o (on set) l) (λ vs. ap (serve vs o l) (sym (no_input_lem p z) ∙ waiting)) (turns_stay l b k w)

  pub enter_some : {wide : Bool} → p < 2 ^ 64 → (p ≡ 0 → ⊥) → l.isr < 2 ^ 64 → count_trailing_zeros 64 p < 64 → (o : Bool) {a : List ℕ} {u : ℕ} → Offers wide b a k w u (λ vs. event vs o true (count_trailing_zeros 64 p) ∷ [])
      → Turns wide (with_isr l (bit_or l.isr (1 * 2 ^ count_trailing_zeros 64 p % 2 ^ 64))) b a k w u (λ vs. enter vs o (on set) l)
  enter_some below some h lt o s =
      turns_same k (λ vs. serve vs o l (count_trailing_zeros 64 p ∷ [])) (λ vs. enter vs o (on set) l) (λ vs. ap (serve vs o l) (sym (first_input p below some) ∙ waiting))
      (record { lines = λ vs. ap (with_isr l) (sym (put_is l.isr (count_trailing_zeros 64 p) h lt)); events = s })

-- ---- leave

pub leave_all : {wide : Bool} (l : Lines) {b a : List ℕ} (k : ℕ) {w u : ℕ} (set : ℕ) {p : ℕ} → p ≡ register (served_of set l.isr) → l.isr < 2 ^ 64 → set < 2 ^ 64 → Deasserted wide b a k w u (inputs (on p))
    → Turns wide (with_isr l (bit_and l.isr ((2 ^ 64 - 1) - set))) b a k w u (λ vs. leave vs true (on set) l)
leave_all l k set {p} is h z s = record {
  lines = λ vs. ap (with_isr l) (sym (without_is l.isr set h z));
  events = offers_same k (λ vs. map (event vs true false) (inputs (on p))) (λ vs. map (event vs true false) (inputs (served_in (on set) l))) (λ vs. ap (map (event vs true false)) (inputs_of (served_of set l.isr) is)) s;
}

-- ---- one input

module _ (n : ℕ) (lt : n < 64) where
  abbrev pub bit_of : ℕ
  bit_of = 1 * 2 ^ n % 2 ^ 64

  itself : (b : Bool) → (on bit_of n && b) ≡ b
  itself b = ap (λ c. c && b) (on_bit n lt n ∙ eq-eqb n n refl)

  -- a test of its bit alone
  module _ (f : ℕ → Bool) {p : ℕ} (is : p ≡ register (λ i. on bit_of i && f i)) where
    pub its_bit : f n ≡ on p n
    its_bit = sym (ap (λ x. on x n) is ∙ on_number 64 (λ i. on bit_of i && f i) n lt ∙ itself (f n))

    pub bit_off : p ≡ 0 → f n ≡ false
    bit_off z = its_bit ∙ ap (λ x. on x n) z ∙ on_none n

    pub bit_on : (p ≡ 0 → ⊥) → f n ≡ true
    bit_on some = test (f n) (λ t. t) (λ t. absurd (some (is ∙ sym (none_registered (λ i. on bit_of i && f i) (λ i q. off i q t)))))
      where
        off : (i : ℕ) → i < 64 → f n ≡ false → (on bit_of i && f i) ≡ false
        off i q t = ap (λ c. c && f i) (on_bit n lt i) ∙ test (eqb i n) (λ e. rw e (ap f (eqb-true i n e) ∙ t)) (λ e. rw e refl)

  module _ (l : Lines) (b : List ℕ) (k w : ℕ) where
    -- it waits, or not
    module _ {p : ℕ} (is : p ≡ register (waiting_of bit_of l.irr l.mask l.isr)) where
      found : {c : Bool} → is_pending l n ≡ c → cond c (n ∷ []) [] ≡ inputs (pending_in (only n) l)
      found e = sym (only_waiting n l lt ∙ ap (λ c. cond c (n ∷ []) []) e)

      pub enter_one_none : {wide : Bool} → p ≡ 0 → Turns wide l b b k w w (λ vs. enter vs false (only n) l)
      enter_one_none z = turns_same k (λ vs. stay l) (λ vs. enter vs false (only n) l) (λ vs. ap (serve vs false l) (found (bit_off (is_pending l) is z))) (turns_stay l b k w)

      pub enter_one_some : {wide : Bool} → (p ≡ 0 → ⊥) → l.isr < 2 ^ 64 → {a : List ℕ} → Offers wide b a k w w (λ vs. event vs false true n ∷ []) → Turns wide (with_isr l (bit_or l.isr bit_of)) b a k w w (λ vs. enter vs false (only n) l)
      enter_one_some some h s =
          turns_same k (λ vs. serve vs false l (n ∷ [])) (λ vs. enter vs false (only n) l) (λ vs. ap (serve vs false l) (found (bit_on (is_pending l) is some)))
          (record { lines = λ vs. ap (with_isr l) (sym (put_is l.isr n h lt)); events = s })

    -- it is in service, or not
    module _ {p : ℕ} (is : p ≡ register (served_of bit_of l.isr)) (h : l.isr < 2 ^ 64) where
      turned : p ≡ register (λ i. on bit_of i && on l.isr i)
      turned = is ∙ register_ext _ _ (λ i q. and_comm (on l.isr i) (on bit_of i))

      serving : {c : Bool} → on l.isr n ≡ c → cond c (n ∷ []) [] ≡ inputs (served_in (only n) l)
      serving e = sym (only_served n l lt ∙ ap (λ c. cond c (n ∷ []) []) e)

      pub leave_one_none : {wide : Bool} → p ≡ 0 → Turns wide l b b k w w (λ vs. leave vs false (only n) l)
      leave_one_none z =
          let stays : l.isr ≡ without l.isr (only n) = none_served bit_of l.isr h is z ∙ without_ext l.isr (on bit_of) (only n) (λ i q. on_bit n lt i) in
          let none = serving (bit_off (on l.isr) turned z) in
          turns_same k (λ vs. stay l) (λ vs. leave vs false (only n) l) (λ vs t. record { after = with_isr l (stays t); made = map (event vs false false) (none t) }) (turns_stay l b k w)

      pub leave_one_some : {wide : Bool} → (p ≡ 0 → ⊥) → {a : List ℕ} → Offers wide b a k w w (λ vs. event vs false false n ∷ []) → Turns wide (with_isr l (bit_and l.isr ((2 ^ 64 - 1) - bit_of))) b a k w w (λ vs. leave vs false (only n) l)
      leave_one_some some s = record {
        lines = λ vs. ap (with_isr l) (sym (without_only_is l.isr n h lt));
        events = offers_same k (λ vs. event vs false false n ∷ []) (λ vs. map (event vs false false) (inputs (served_in (only n) l))) (λ vs. ap (map (event vs false false)) (serving (bit_on (on l.isr) turned some))) s;
      }

-- ---- the calls on an input

pub poll_done : {wide : Bool} (n : ℕ) {l m : Lines} {b a : List ℕ} (k : ℕ) {w u : ℕ} → Turns wide m b a k w u (λ vs. enter vs false (only n) l) → Follows wide l w m u b a k (λ c. move (poll n) ∷ [])
unfolding moved polled
poll_done n {l} {m} {b} k t = follows_move (poll n) k (takes_none b) t

module _ (n : ℕ) (lt : n < 64) (l : Lines) (h : l.irr < 2 ^ 64) {m : Lines} {b c a : List ℕ} (k : ℕ) {w u : ℕ} where
  pub raise_done : {wide : Bool} → Takes wide b c (marks.raised n ∷ cond (idle_in l n) (began n k ∷ []) []) → Turns wide m c a k w u (λ vs. enter vs false (only n) (with_irr l (bit_or l.irr (bit_of n lt)))) → Follows wide l w m u b a k (λ x. move (raise n) ∷ [])
  unfolding moved raised polled
  raise_done s t =
      follows_move (raise n) k s
      (turns_same k (λ vs. enter vs false (only n) (with_irr l (bit_or l.irr (bit_of n lt)))) (λ vs. raised vs l n) (λ vs. ap (λ y. enter vs false (only n) (with_irr l y)) (put_is l.irr n h lt)) t)

  pub lower_done : {wide : Bool} → Takes wide b c (marks.lowered n ∷ taken_back n ∷ []) → Turns wide m c a k w u (λ vs. leave vs false (only n) (with_irr l (bit_and l.irr ((2 ^ 64 - 1) - bit_of n lt)))) → Follows wide l w m u b a k (λ x. move (lower n) ∷ [])
  unfolding moved lowered
  lower_done s t =
      follows_move (lower n) k s
      (turns_same k (λ vs. leave vs false (only n) (with_irr l (bit_and l.irr ((2 ^ 64 - 1) - bit_of n lt)))) (λ vs. lowered vs l n) (λ vs. ap (λ y. leave vs false (only n) (with_irr l y)) (without_only_is l.irr n h lt)) t)

-- a raise and a lowering are counted
pub raise_counted : {wide : Bool} {b a : List ℕ} (n : ℕ) → Becomes wide b a (λ f. bump f n 0) → Takes wide b a (marks.raised n ∷ [])
unfolding bumped
raise_counted n s = takes_one (marks.raised n) s

pub lower_counted : {wide : Bool} {b a : List ℕ} (n : ℕ) → Becomes wide b a (λ f. bump f n 1) → Takes wide b a (marks.lowered n ∷ [])
unfolding bumped
lower_counted n s = takes_one (marks.lowered n) s

-- it found the input neither latched nor in service, or it did not
module _ (n : ℕ) (lt : n < 64) (l : Lines) {p : ℕ} (is : p ≡ register (served_of (bit_of n lt) (bit_or l.irr l.isr))) where
  either : p ≡ register (λ i. on (bit_of n lt) i && on (bit_or l.irr l.isr) i)
  either = is ∙ register_ext _ _ (λ i q. and_comm (on (bit_or l.irr l.isr) i) (on (bit_of n lt) i))

  nor : (a b c : Bool) → (a || b) ≡ c → (not a && not b) ≡ not c
  nor true b c e = ap not e
  nor false b c e = ap not e

  idle : {c : Bool} → on (bit_or l.irr l.isr) n ≡ c → idle_in l n ≡ not c
  idle {c} e = nor (on l.irr n) (on l.isr n) c (sym (on_or l.irr l.isr n) ∙ e)

  pub raise_begins : {wide : Bool} → p ≡ 0 → {b c a : List ℕ} (k : ℕ) → Takes wide b c (marks.raised n ∷ []) → Takes wide c a (began n k ∷ []) → Takes wide b a (marks.raised n ∷ cond (idle_in l n) (began n k ∷ []) [])
  raise_begins z k s t = takes_same (ap (λ c. marks.raised n ∷ cond c (began n k ∷ []) []) (sym (idle (bit_off n lt (on (bit_or l.irr l.isr)) either z)))) (takes_then _ _ s t)

  pub raise_found : {wide : Bool} → (p ≡ 0 → ⊥) → {b a : List ℕ} (k : ℕ) → Takes wide b a (marks.raised n ∷ []) → Takes wide b a (marks.raised n ∷ cond (idle_in l n) (began n k ∷ []) [])
  raise_found some k s = takes_same (ap (λ c. marks.raised n ∷ cond c (began n k ∷ []) []) (sym (idle (bit_on n lt (on (bit_or l.irr l.isr)) either some)))) s

-- ---- MASK and CLEAR

module _ (l : Lines) (b : Bool) (v up down : ℕ) {new : ℕ} (is : new ≡ with_half b l.mask v)
    (ups : (n : ℕ) → n < 64 → on up n ≡ newly_unmasked l.mask (with_half b l.mask v) n) (downs : (n : ℕ) → n < 64 → on down n ≡ newly_masked l.mask (with_half b l.mask v) n) where
  as_masked : (vs : List ℕ) → and_then (enter vs true (on up) (with_mask l new)) (leave vs true (on down)) ≡ masked vs l (with_half b l.mask v)
  as_masked vs = ap (λ y. and_then (enter vs true (on up) (with_mask l y)) (leave vs true (on down))) is ∙ stages vs l (with_half b l.mask v) up down ups downs

  pub mask_done : {wide : Bool} {m n : Lines} {o c a : List ℕ} (k : ℕ) {w u x : ℕ} → Turns wide m o c k w u (λ vs. enter vs true (on up) (with_mask l new)) → Turns wide n c a k u x (λ vs. leave vs true (on down) m)
      → Follows wide l w n x o a k (λ _. move (set_mask b v) ∷ [])
  unfolding moved
  mask_done {o} k s t =
      follows_move (set_mask b v) k (takes_none o)
      (turns_same k (λ vs. and_then (enter vs true (on up) (with_mask l new)) (leave vs true (on down))) (λ vs. masked vs l (with_half b l.mask v)) as_masked
      (turns_then k (λ vs. enter vs true (on up) (with_mask l new)) (λ vs. leave vs true (on down)) s t))

pub clear_done : {wide : Bool} (l : Lines) (x : ℕ) → l.irr < 2 ^ 64 → x < 2 ^ 64 → {m : Lines} {b c a : List ℕ} (k : ℕ) {w u : ℕ} → Takes wide b c (map taken_back (inputs (on x)))
    → Turns wide m c a k w u (λ vs. leave vs true (on x) (with_irr l (bit_and l.irr ((2 ^ 64 - 1) - x)))) → Follows wide l w m u b a k (λ _. move (clear x) ∷ [])
unfolding moved cleared
clear_done l x h z k s t =
    follows_move (clear x) k s
    (turns_same k (λ vs. leave vs true (on x) (with_irr l (bit_and l.irr ((2 ^ 64 - 1) - x)))) (λ vs. cleared vs l x) (λ vs. ap (λ y. leave vs true (on x) (with_irr l y)) (without_is l.irr x h z)) t)
