-- The machines against the lines: input by input a step of the machines is what the rules' engine does to the bits of its registers, and what is heard is what it makes.
use Rattle.basics.proofs.Prelude.{agree, agreed, table₃, table₄, false≢true, and-eq-true_iff, ◌≡◌, refl, sym, ap, ap₂, ◌∙◌, Bool, true, false, cond, not, ◌&&◌, ◌||◌, and-true, or-false, List, [], ◌∷◌, ◌++◌, map, ℕ, zero, suc, ◌+◌, ◌/◌, ◌%◌, ◌<◌, ◌≤◌, arith, eqb, ltb, ne_eqb, eqb-true, ltb-true, ltb-false, on, from, inputs, only, put, without, with_half, as_half, test, on_none, on_put, on_without, inputs_ext, no_inputs, only_input, first_has}
use Rattle.rules.specs.Lines.{Lines, Made, Turn, event, is_pending, pending_in, served_in, with_irr, with_isr, with_mask, serve, enter, leave, newly_unmasked, newly_masked, polled, raised, lowered, cleared, masked}
use Rattle.laws.proofs.laws.Halves.{placed, by_halves, on_new_half, on_kept_half}
use Rattle.plain.specs.Machine.{Machine, Signal, quiet, asserts, deasserts, Stepped, rests, polls, raises, lowers}
use Rattle.plain.specs.Plain.{Heard, in_front, heard_from, Steps, at, Brought, nothing, bit, brings, cleared_by, unmasked_by, masked_by, wakable, served_by, Found, nobody, found, lowest_from, is_it}
use Rattle.plain.specs.Sequence.{machine_in}

-- ---- one machine

abbrev pub machine : (latched masked served : Bool) → Machine
machine a b c = record { latched = a; masked = b; in_service = c }

-- input n's machine by its bits
abbrev pub one_of : Lines → ℕ → Machine
one_of l n = machine (on l.irr n) (on l.mask n) (on l.isr n)

pub one_of_lem : (l : Lines) (n : ℕ) → machine_in l n ≡ one_of l n
unfolding on
one_of_lem l n = refl

machine= : {a p b q c r : Bool} → a ≡ p → b ≡ q → c ≡ r → machine a b c ≡ machine p q r
machine= e f g t = machine (e t) (f t) (g t)

-- ---- tables

abbrev stepped : Machine → Signal → Stepped
stepped m s = record { after = m; signal = s }

abbrev same_signal : Signal → Signal → Bool
same_signal quiet = elim [ quiet ↦ true | asserts ↦ false | deasserts ↦ false ]
same_signal asserts = elim [ quiet ↦ false | asserts ↦ true | deasserts ↦ false ]
same_signal deasserts = elim [ quiet ↦ false | asserts ↦ false | deasserts ↦ true ]

signals_same : (s t : Signal) → same_signal s t ≡ true → s ≡ t
signals_same quiet = elim [ quiet ↦ λ e. refl | asserts ↦ λ e. absurd (false≢true e) | deasserts ↦ λ e. absurd (false≢true e) ]
signals_same asserts = elim [ quiet ↦ λ e. absurd (false≢true e) | asserts ↦ λ e. refl | deasserts ↦ λ e. absurd (false≢true e) ]
signals_same deasserts = elim [ quiet ↦ λ e. absurd (false≢true e) | asserts ↦ λ e. absurd (false≢true e) | deasserts ↦ λ e. refl ]

-- a step is told by three marks and what is heard
abbrev same_step : Stepped → Stepped → Bool
same_step x y =
    (agree x.after.latched y.after.latched && agree x.after.masked y.after.masked)
    && (agree x.after.in_service y.after.in_service && same_signal x.signal y.signal)

steps_same : (x y : Stepped) → same_step x y ≡ true → x ≡ y
steps_same x y e =
    let m = x.after in
    let n = y.after in
    let first = agree m.latched n.latched && agree m.masked n.masked in
    let both = (and-eq-true_iff first (agree m.in_service n.in_service && same_signal x.signal y.signal)).0 e in
    let marks = (and-eq-true_iff (agree m.latched n.latched) (agree m.masked n.masked)).0 both.0 in
    let rest = (and-eq-true_iff (agree m.in_service n.in_service) (same_signal x.signal y.signal)).0 both.1 in
    λ t. stepped (machine= (agreed m.latched n.latched marks.0) (agreed m.masked n.masked marks.1) (agreed m.in_service n.in_service rest.0) t)
    (signals_same x.signal y.signal rest.1 t)

-- what an input does that is met (c) or not: r latched, k masked, s in service
polls_is : (c r k s : Bool) → cond c (polls (machine r k s)) (rests (machine r k s))
    ≡ stepped (machine r k (s || (c && (r && not k && not s)))) (cond (c && (r && not k && not s)) asserts quiet)
polls_is = table₄ same_step steps_same _ _ refl

raises_is : (c r k s : Bool) → cond c (raises (machine r k s)) (rests (machine r k s)) ≡ cond c (polls (machine (r || c) k s)) (rests (machine (r || c) k s))
raises_is = table₄ same_step steps_same _ _ refl

lowers_is : (c r k s : Bool) → cond c (lowers (machine r k s)) (rests (machine r k s)) ≡ stepped (machine (r && not c) k (s && not c)) (cond (s && c) deasserts quiet)
lowers_is = table₄ same_step steps_same _ _ refl

-- ---- what is heard

-- the event that is made where an input is heard
abbrev pub made_by : List ℕ → Bool → Heard → Made
made_by vs o h = event vs o h.asserted h.input

pub heard_ext : (n k : ℕ) (s t : ℕ → Signal) → ((i : ℕ) → n ≤ i → i < n + k → s i ≡ t i) → heard_from n k s ≡ heard_from n k t
unfolding heard_from
heard_ext n zero s t e = refl
heard_ext n (suc k) s t e =
    ap₂ (in_front n) (e n (omega arith) (omega arith)) (heard_ext (suc n) k s t (λ i p q. e i (omega arith) (omega arith)))

module _ (vs : List ℕ) (o : Bool) where
  heard_asserts : (n k : ℕ) (f : ℕ → Bool) → map (made_by vs o) (heard_from n k (λ i. cond (f i) asserts quiet)) ≡ map (event vs o true) (from n k f)
  unfolding heard_from from
  heard_asserts n zero f = refl
  heard_asserts n (suc k) f =
      test (f n) (λ t. rw t (ap (λ ms. event vs o true n ∷ ms) (heard_asserts (suc n) k f))) (λ t. rw t (heard_asserts (suc n) k f))

  heard_deasserts : (n k : ℕ) (f : ℕ → Bool) → map (made_by vs o) (heard_from n k (λ i. cond (f i) deasserts quiet)) ≡ map (event vs o false) (from n k f)
  unfolding heard_from from
  heard_deasserts n zero f = refl
  heard_deasserts n (suc k) f =
      test (f n) (λ t. rw t (ap (λ ms. event vs o false n ∷ ms) (heard_deasserts (suc n) k f))) (λ t. rw t (heard_deasserts (suc n) k f))

  heard_nothing : (n k : ℕ) → map (made_by vs o) (heard_from n k (λ i. quiet)) ≡ []
  unfolding heard_from
  heard_nothing n zero = refl
  heard_nothing n (suc k) = heard_nothing (suc n) k

-- steps f that take the lines l to the lines of a turn, input by input, and let its events be heard
pub record Steps-are (vs : List ℕ) (o : Bool) (f : Steps) (l : Lines) (t : Turn) : Type 0 where
  pub after : (n : ℕ) → n < 64 → (f n (one_of l n)).after ≡ one_of t.after n
  pub made : map (made_by vs o) (heard_from 0 64 (λ n. (f n (one_of l n)).signal)) ≡ t.made

-- ---- one input goes into service

first_of : List ℕ → Found
first_of [] = nobody
first_of (n ∷ ns) = found n

serve_one : (vs : List ℕ) (o : Bool) (l : Lines) (ns : List ℕ) (n : ℕ) → n < 64
    → one_of (serve vs o l ns).after n ≡ machine (on l.irr n) (on l.mask n) (on l.isr n || is_it (first_of ns) n)
unfolding first_of
serve_one vs o l [] n b = machine= refl refl (sym (or-false (on l.isr n)))
serve_one vs o l (m ∷ ns) n b = machine= refl refl (on_put l.isr m n b)

-- the first alone is heard
serve_made : (vs : List ℕ) (o : Bool) (l : Lines) (f : ℕ → Bool) (ns : List ℕ) → inputs f ≡ ns
    → map (event vs o true) (inputs (is_it (first_of ns))) ≡ (serve vs o l ns).made
unfolding first_of
serve_made vs o l f [] e = ap (map (event vs o true)) (no_inputs (λ i. false) (λ i b. refl))
serve_made vs o l f (m ∷ ns) e =
    let b = (first_has 0 64 f m ns e).1 in
    ap (map (event vs o true)) (inputs_ext (only m) (λ i. only m i && true) (λ i q. sym (and-true (only m i))) ∙ only_input m (λ i. true) b)

-- poll m
module _ (m : ℕ) (l : Lines) where
  abbrev ns : List ℕ
  ns = inputs (pending_in (only m) l)

  one_or_none : (n : ℕ) → n < 64 → is_it (first_of ns) n ≡ (only m n && is_pending l n)
  unfolding first_of
  one_or_none n b =
      test (ltb m 64)
      (λ t. ap (λ (k : List ℕ). is_it (first_of k) n) (only_input m (is_pending l) (ltb-true m 64 t)) ∙ here (is_pending l m) refl)
      (λ t.
      let g = ltb-false m 64 t in
      ap (λ (k : List ℕ). is_it (first_of k) n) (no_inputs (pending_in (only m) l) (λ i q. ap (λ (c : Bool). c && is_pending l i) (ne_eqb i m (omega arith))))
      ∙ sym (ap (λ (c : Bool). c && is_pending l n) (ne_eqb n m (omega arith))))
    where
      here : (w : Bool) → is_pending l m ≡ w → is_it (first_of (cond w (m ∷ []) [])) n ≡ (only m n && is_pending l n)
      here true e = test (only m n) (λ t. rw t (sym (ap (is_pending l) (eqb-true n m t) ∙ e))) (λ t. rw t)
      here false e = test (only m n) (λ t. rw t (sym (ap (is_pending l) (eqb-true n m t) ∙ e))) (λ t. rw t)

  poll_steps : (vs : List ℕ) → Steps-are vs false (at m polls) l (enter vs false (only m) l)
  poll_steps vs = record {
    after = λ n b.
        ap (λ (x : Stepped). x.after) (polls_is (only m n) (on l.irr n) (on l.mask n) (on l.isr n))
        ∙ machine= refl refl (ap (λ (c : Bool). on l.isr n || c) (sym (one_or_none n b))) ∙ sym (serve_one vs false l ns n b);
    made =
        ap (map (made_by vs false)) (heard_ext 0 64 _ (λ n. cond (is_it (first_of ns) n) asserts quiet) (λ i p b.
        ap (λ (x : Stepped). x.signal) (polls_is (only m i) (on l.irr i) (on l.mask i) (on l.isr i)) ∙ ap (λ (c : Bool). cond c asserts quiet) (sym (one_or_none i b))))
        ∙ heard_asserts vs false 0 64 (is_it (first_of ns)) ∙ serve_made vs false l (pending_in (only m) l) ns refl;
  }

-- raise m: it is latched, and then polled
module _ (m : ℕ) (l : Lines) where
  abbrev latched_lines : Lines
  latched_lines = with_irr l (put l.irr m)

  raise_is_poll : (n : ℕ) → n < 64 → at m raises n (one_of l n) ≡ at m polls n (one_of latched_lines n)
  raise_is_poll n b =
      raises_is (only m n) (on l.irr n) (on l.mask n) (on l.isr n)
      ∙ ap (λ (c : Bool). at m polls n (machine c (on l.mask n) (on l.isr n))) (sym (on_put l.irr m n b))

  raise_steps : (vs : List ℕ) → Steps-are vs false (at m raises) l (raised vs l m)
  unfolding raised polled
  raise_steps vs =
      let p = poll_steps m latched_lines vs in
      record {
        after = λ n b. ap (λ (s : Stepped). s.after) (raise_is_poll n b) ∙ p.after n b;
        made = ap (map (made_by vs false)) (heard_ext 0 64 _ _ (λ i q b. ap (λ (s : Stepped). s.signal) (raise_is_poll i b))) ∙ p.made;
      }

pub polled_steps : (m : ℕ) (l : Lines) (vs : List ℕ) → Steps-are vs false (at m polls) l (polled vs l m)
unfolding polled
polled_steps = poll_steps

pub raised_steps : (m : ℕ) (l : Lines) (vs : List ℕ) → Steps-are vs false (at m raises) l (raised vs l m)
raised_steps = raise_steps

-- ---- inputs of a set are lowered

module _ (f : ℕ → Bool) (l : Lines) where
  leave_steps : (vs : List ℕ) (o : Bool) → Steps-are vs o (λ n m. cond (f n) (lowers m) (rests m)) l (leave vs o f (with_irr l (without l.irr f)))
  leave_steps vs o = record {
    after = λ n b. ap (λ (x : Stepped). x.after) (lowers_is (f n) (on l.irr n) (on l.mask n) (on l.isr n)) ∙ machine= (sym (on_without l.irr f n b)) refl (sym (on_without l.isr f n b));
    made =
        ap (map (made_by vs o)) (heard_ext 0 64 _ (λ n. cond (served_in f l n) deasserts quiet) (λ i p b. ap (λ (x : Stepped). x.signal) (lowers_is (f i) (on l.irr i) (on l.mask i) (on l.isr i))))
        ∙ heard_deasserts vs o 0 64 (served_in f l);
  }

pub lowered_steps : (m : ℕ) (l : Lines) (vs : List ℕ) → Steps-are vs false (at m lowers) l (lowered vs l m)
unfolding lowered
lowered_steps m l vs = leave_steps (only m) l vs false

-- ---- halves

-- what becomes of a bit to which something is brought
abbrev pub becomes : Brought → Bool → Bool
becomes nothing old = old
becomes (bit b) old = b

pub half_bit : (h : Bool) (x v n : ℕ) → n < 64 → on (with_half h x v) n ≡ becomes (brings h v n) (on x n)
unfolding on
half_bit h x v =
    by_halves (λ n. on (with_half h x v) n ≡ becomes (brings h v n) (on x n)) h
    (λ j b. on_new_half h x v j b ∙ sym (new h j b)) (λ j b. on_kept_half h x v j b ∙ sym (old h j b))
  where
    new : (h : Bool) (j : ℕ) → j < 32 → becomes (brings h v (placed h j)) (on x (placed h j)) ≡ on v j
    new true j b =
        let q : (32 + j) / 32 ≡ 1 = omega arith in
        let r : (32 + j) % 32 ≡ j = omega arith in
        rw (q, r)
    new false j b =
        let q : j / 32 ≡ 0 = omega arith in
        let r : j % 32 ≡ j = omega arith in
        rw (q, r)

    old : (h : Bool) (j : ℕ) → j < 32 → becomes (brings h v (placed (not h) j)) (on x (placed (not h) j)) ≡ on x (placed (not h) j)
    old true j b = let q : j / 32 ≡ 0 = omega arith in rw q
    old false j b = let q : (32 + j) / 32 ≡ 1 = omega arith in rw q

-- ---- CLEAR and ISR

pub cleared_steps : (h : Bool) (v : ℕ) (l : Lines) (vs : List ℕ) → Steps-are vs true (λ n. cleared_by (brings h v n)) l (cleared vs l (as_half h v))
unfolding cleared
cleared_steps h v l vs =
    let b = on (as_half h v) in
    let s = leave_steps b l vs true in
    let same : (n : ℕ) → n < 64 → cleared_by (brings h v n) (one_of l n) ≡ cond (b n) (lowers (one_of l n)) (rests (one_of l n)) =
    λ n k. go (brings h v n) (one_of l n) ∙ ap (λ (c : Bool). cond c (lowers (one_of l n)) (rests (one_of l n))) (sym (half_bit h 0 v n k ∙ ap (becomes (brings h v n)) (on_none n)))
    in
    record {
      after = λ n k. ap (λ (x : Stepped). x.after) (same n k) ∙ s.after n k;
      made = ap (map (made_by vs true)) (heard_ext 0 64 _ _ (λ i q k. ap (λ (x : Stepped). x.signal) (same i k))) ∙ s.made;
    }
  where
    go : (x : Brought) (m : Machine) → cleared_by x m ≡ cond (becomes x false) (lowers m) (rests m)
    go nothing m = refl
    go (bit true) m = refl
    go (bit false) m = refl

pub served_steps : (h : Bool) (v : ℕ) (l : Lines) (vs : List ℕ)
    → Steps-are vs true (λ n. served_by (brings h v n)) l (record { after = with_isr l (with_half h l.isr v); made = [] })
served_steps h v l vs = record {
  after = λ n b. after (brings h v n) (on l.irr n) (on l.mask n) (on l.isr n) ∙ machine= refl refl (sym (half_bit h l.isr v n b));
  made = ap (map (made_by vs true)) (heard_ext 0 64 _ (λ n. quiet) (λ i p b. signal (brings h v i) (one_of l i))) ∙ heard_nothing vs true 0 64;
}
  where
    after : (x : Brought) (r k s : Bool) → (served_by x (machine r k s)).after ≡ machine r k (becomes x s)
    after nothing r k s = refl
    after (bit b) r k s = refl

    signal : (x : Brought) (m : Machine) → (served_by x m).signal ≡ quiet
    signal nothing m = refl
    signal (bit b) m = refl

-- ---- MASK

lowest_first : (n k : ℕ) (f : ℕ → Bool) → lowest_from n k f ≡ first_of (from n k f)
unfolding lowest_from from first_of
lowest_first n zero f = refl
lowest_first n (suc k) f = test (f n) (λ t. rw t) (λ t. rw t (lowest_first (suc n) k f))

-- the lowest of the sixty-four is found by the machines of the sixty-four alone
pub lowest_ext : (f g : ℕ → Bool) → ((i : ℕ) → i < 64 → f i ≡ g i) → lowest_from 0 64 f ≡ lowest_from 0 64 g
lowest_ext f g e = lowest_first 0 64 f ∙ ap first_of (inputs_ext f g e) ∙ sym (lowest_first 0 64 g)

module _ (h : Bool) (v : ℕ) (l : Lines) (vs : List ℕ) where
  abbrev pub new : ℕ
  new = with_half h l.mask v

  abbrev pub fresh : ℕ → Bool
  fresh = pending_in (newly_unmasked l.mask new) (with_mask l new)

  abbrev pub begun : Turn
  begun = enter vs true (newly_unmasked l.mask new) (with_mask l new)

  -- the lowest of those that could wake
  abbrev pub woken_in : ℕ → Bool
  woken_in n = is_it (lowest_from 0 64 (λ n. wakable (brings h v n) (one_of l n))) n

  wakable_is : (n : ℕ) → n < 64 → wakable (brings h v n) (one_of l n) ≡ fresh n
  wakable_is n b =
      go (brings h v n) (on l.irr n) (on l.mask n) (on l.isr n)
      ∙ ap (λ (c : Bool). (on l.mask n && not c) && (on l.irr n && not c && not (on l.isr n))) (sym (half_bit h l.mask v n b))
    where
      go : (x : Brought) (r k s : Bool) → wakable x (machine r k s) ≡ ((k && not (becomes x k)) && (r && not (becomes x k) && not s))
      go nothing = table₃ agree agreed _ _ refl
      go (bit true) = table₃ agree agreed _ _ refl
      go (bit false) = table₃ agree agreed _ _ refl

  woken_is : (n : ℕ) → woken_in n ≡ is_it (first_of (inputs fresh)) n
  woken_is n = ap (λ (w : Found). is_it w n) (lowest_first 0 64 _ ∙ ap first_of (inputs_ext _ fresh wakable_is))

  -- only one that could wake is woken
  woken_could : (n : ℕ) → n < 64 → (woken_in n && not (wakable (brings h v n) (one_of l n))) ≡ false
  unfolding first_of
  woken_could n b = ap (λ (c : Bool). c && not (wakable (brings h v n) (one_of l n))) (woken_is n) ∙ go (inputs fresh) refl
    where
      go : (ns : List ℕ) → inputs fresh ≡ ns → (is_it (first_of ns) n && not (wakable (brings h v n) (one_of l n))) ≡ false
      go [] e = refl
      go (m ∷ ns) e =
          test (eqb n m)
          (λ t. rw (t, wakable_is n b) (ap (λ (k : ℕ). not (fresh k)) (eqb-true n m t) ∙ ap not (first_has 0 64 fresh m ns e).0))
          (λ t. rw t)

  -- the two steps, one after another, of a machine that is woken only where it could wake
  abbrev woken : Bool → Brought → Machine → Bool
  woken w x m = w && not (wakable x m)

  unmasks_is : (x : Brought) (w r k s : Bool) → cond (woken w x (machine r k s)) (cond w asserts quiet) (unmasked_by w x (machine r k s)).signal ≡ cond w asserts quiet
  unmasks_is nothing = table₄ same_signal signals_same _ _ refl
  unmasks_is (bit true) = table₄ same_signal signals_same _ _ refl
  unmasks_is (bit false) = table₄ same_signal signals_same _ _ refl

  abbrev masking : (x : Brought) (w r k s : Bool) → Stepped
  masking x w r k s = stepped (machine r (becomes x k) ((s || w) && not (not k && becomes x k))) (cond ((s || w) && (not k && becomes x k)) deasserts quiet)

  masks_is : (x : Brought) (w r k s : Bool) → cond (woken w x (machine r k s)) (masking x w r k s) (masked_by x (unmasked_by w x (machine r k s)).after) ≡ masking x w r k s
  masks_is nothing = table₄ same_step steps_same _ _ refl
  masks_is (bit true) = table₄ same_step steps_same _ _ refl
  masks_is (bit false) = table₄ same_step steps_same _ _ refl

  both_steps : (n : ℕ) → n < 64 → masked_by (brings h v n) (unmasked_by (woken_in n) (brings h v n) (one_of l n)).after
      ≡ masking (brings h v n) (woken_in n) (on l.irr n) (on l.mask n) (on l.isr n)
  both_steps n b =
      let x = brings h v n in
      let m = masking x (woken_in n) (on l.irr n) (on l.mask n) (on l.isr n) in
      sym (λ i. cond (woken_could n b i) m (masked_by x (unmasked_by (woken_in n) x (one_of l n)).after)) ∙ masks_is x (woken_in n) (on l.irr n) (on l.mask n) (on l.isr n)

  -- the machines between the two steps
  abbrev pub middle : ℕ → Machine
  middle n = (unmasked_by (woken_in n) (brings h v n) (one_of l n)).after

  pub unmask_made : map (made_by vs true) (heard_from 0 64 (λ n. (unmasked_by (woken_in n) (brings h v n) (one_of l n)).signal)) ≡ begun.made
  unmask_made =
      ap (map (made_by vs true)) (heard_ext 0 64 _ (λ n. cond (is_it (first_of (inputs fresh)) n) asserts quiet)
      (λ i p b.
      sym (λ j. cond (woken_could i b j) (cond (woken_in i) asserts quiet) (unmasked_by (woken_in i) (brings h v i) (one_of l i)).signal)
      ∙ unmasks_is (brings h v i) (woken_in i) (on l.irr i) (on l.mask i) (on l.isr i) ∙ ap (λ (c : Bool). cond c asserts quiet) (woken_is i)))
      ∙ heard_asserts vs true 0 64 (is_it (first_of (inputs fresh))) ∙ serve_made vs true (with_mask l new) fresh (inputs fresh) refl

  -- the bits between the two steps
  begun_bits : (n : ℕ) → n < 64 → one_of begun.after n ≡ machine (on l.irr n) (becomes (brings h v n) (on l.mask n)) (on l.isr n || woken_in n)
  begun_bits n b =
      serve_one vs true (with_mask l new) (inputs fresh) n b
      ∙ machine= refl (half_bit h l.mask v n b) (ap (λ (c : Bool). on l.isr n || c) (sym (woken_is n)))

  abbrev pub leaving : ℕ → Bool
  leaving = newly_masked l.mask new

  pub mask_after : (n : ℕ) → n < 64 → (masked_by (brings h v n) (middle n)).after ≡ one_of (leave vs true leaving begun.after).after n
  mask_after n b =
      let bits = begun_bits n b in
      ap (λ (x : Stepped). x.after) (both_steps n b)
      ∙ sym (machine= (ap (λ (m : Machine). m.latched) bits) (ap (λ (m : Machine). m.masked) bits)
      (on_without begun.after.isr leaving n b
      ∙ ap₂ (λ (c d : Bool). c && not (not (on l.mask n) && d)) (ap (λ (m : Machine). m.in_service) bits) (half_bit h l.mask v n b)))

  pub mask_made : map (made_by vs true) (heard_from 0 64 (λ n. (masked_by (brings h v n) (middle n)).signal)) ≡ (leave vs true leaving begun.after).made
  mask_made =
      ap (map (made_by vs true)) (heard_ext 0 64 _ (λ n. cond (served_in leaving begun.after n) deasserts quiet)
      (λ i p b. ap (λ (x : Stepped). x.signal) (both_steps i b)
      ∙ ap₂ (λ (c d : Bool). cond (c && (not (on l.mask i) && d)) deasserts quiet)
      (sym (ap (λ (m : Machine). m.in_service) (begun_bits i b))) (sym (half_bit h l.mask v i b))))
      ∙ heard_deasserts vs true 0 64 (served_in leaving begun.after)

  -- both turns are the rules' one
  pub masked_is : masked vs l new ≡ record { after = (leave vs true leaving begun.after).after; made = begun.made ++ (leave vs true leaving begun.after).made }
  unfolding masked
  masked_is = refl
