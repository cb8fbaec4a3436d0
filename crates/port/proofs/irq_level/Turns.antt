-- What the engine's functions come to, over the rules alone: a move that returns its event beside the same move that offers it, the moves over no input, one input.
use Rattle.basics.proofs.Prelude.{apart, ◌≡◌, refl, sym, ap, ◌∙◌, Bool, true, false, cond, not, ◌&&◌, and-false, List, [], ◌∷◌, map, ℕ, ◌*◌, ◌%◌, ◌^◌, ◌<◌, eqb, eq-eqb, eqb-true, on, inputs, only, put, without, test, is_number, put_lt, on_bit, on_without, inputs_ext, no_inputs}
use Rattle.rules.specs.Lines.{Lines, stay, with_isr, with_irr, event, serve, enter, leave, pending_in, served_in, unlatched_in, raised, lowered, polled}
use Rattle.rules.specs.{Ring.offer, Device.none, Device.some, Device.offers, Device.returned}
use Rattle.laws.proofs.laws.Sets.{only_served, only_unlatched, enter_ext}
use Rattle.port.specs.irq_level.Moves.{retire, updated}

-- ---- returned, or offered

-- the lines are the same whether the event is returned or offered
pub serve_after : (vs : List ℕ) (l : Lines) (ns : List ℕ) → (serve vs true l ns).after ≡ (serve vs false l ns).after
serve_after vs l [] = refl
serve_after vs l (n ∷ ns) = refl

-- service stays a register of 64 inputs
pub serve_isr : (vs : List ℕ) (o : Bool) (l : Lines) (ns : List ℕ) → l.isr < 2 ^ 64 → (serve vs o l ns).after.isr < 2 ^ 64
serve_isr vs o l [] h = h
serve_isr vs o l (n ∷ ns) h = put_lt l.isr n

-- an assert that is returned is the one that is offered
pub offers_one : (vs : List ℕ) (l : Lines) (ns : List ℕ) (v : ℕ) → some v ≡ returned (serve vs false l ns).made
    → offers (serve vs true l ns).made ≡ offer (record { vector = v; asserted = true }) ∷ []
unfolding offers
offers_one vs l [] v e = cc
offers_one vs l (n ∷ ns) v e = let h : (event vs true true n).vector ≡ v = cc in ap (λ (w : ℕ). offer (record { vector = w; asserted = true }) ∷ []) h

pub offers_none : (vs : List ℕ) (l : Lines) (ns : List ℕ) → none ≡ returned (serve vs false l ns).made → offers (serve vs true l ns).made ≡ []
unfolding offers
offers_none vs l [] e = refl
offers_none vs l (n ∷ ns) e = cc

-- ---- the moves over no input

pub enter_none : (vs : List ℕ) (o : Bool) (f : ℕ → Bool) (l : Lines) → ((i : ℕ) → i < 64 → f i ≡ false) → enter vs o f l ≡ stay l
enter_none vs o f l e = ap (serve vs o l) (no_inputs (pending_in f l) (λ i h. rw (e i h)))

-- a register without what it does not hold
pub without_none : (x : ℕ) (f : ℕ → Bool) → x < 2 ^ 64 → ((i : ℕ) → i < 64 → (on x i && f i) ≡ false) → without x f ≡ x
unfolding without
without_none x f h e = sym (is_number 64 x (λ m. on x m && not (f m)) h (λ i l. apart (on x i) (f i) (e i l)))

pub leave_none : (vs : List ℕ) (o : Bool) (f : ℕ → Bool) (l : Lines) → l.isr < 2 ^ 64 → ((i : ℕ) → i < 64 → (on l.isr i && f i) ≡ false) → leave vs o f l ≡ stay l
leave_none vs o f l h e =
    let isr = without_none l.isr f h e in
    let left = no_inputs (served_in f l) e in
    λ t. record { after = with_isr l (isr t); made = map (event vs o false) (left t) }

-- ---- one input

-- of one input the lowest that leaves is the one that leaves
pub retire_only : (vs : List ℕ) (l : Lines) (n : ℕ) → n < 64 → l.isr < 2 ^ 64 → on l.irr n ≡ false → retire vs l (inputs (unlatched_in (only n) l)) ≡ leave vs false (only n) l
retire_only vs l n h k e =
    ap (retire vs l) (only_unlatched n l h e)
    ∙ test (on l.isr n)
    (λ t. rw t (sym (ap (λ (ns : List ℕ). record { after = with_isr l (without l.isr (only n)); made = map (event vs false false) ns }) (only_served n l h ∙ ap (λ (b : Bool). cond b (n ∷ []) []) t))))
    (λ t. rw t (sym (leave_none vs false (only n) l k (λ i m. off t i))))
  where
    off : on l.isr n ≡ false → (i : ℕ) → (on l.isr i && only n i) ≡ false
    off t i = test (eqb i n) (λ q. rw (q, eqb-true i n q, t)) (λ q. rw q (and-false (on l.isr i)))

-- the bit of n, as the code makes it
abbrev pub bit : ℕ → ℕ
bit n = 1 * 2 ^ n % 2 ^ 64

module _ (vs : List ℕ) (n : ℕ) (h : n < 64) where
  pub poll_is : (l : Lines) → updated vs l (bit n) true ≡ polled vs l n
  unfolding polled
  poll_is l = enter_ext vs false (on (bit n)) (only n) l (λ i m. on_bit n h i)

  pub raise_is : (l m : Lines) → m ≡ with_irr l (put l.irr n) → updated vs m (bit n) true ≡ raised vs l n
  unfolding raised
  raise_is l m e = poll_is m ∙ ap (λ (k : Lines). polled vs k n) e

  pub lower_is : (l m : Lines) → l.isr < 2 ^ 64 → m ≡ with_irr l (without l.irr (only n)) → updated vs m (bit n) false ≡ lowered vs l n
  unfolding lowered
  lower_is l m k e =
      ap (λ (p : Lines). updated vs p (bit n) false) e
      ∙ ap (retire vs (with_irr l (without l.irr (only n)))) (inputs_ext _ _ (λ i q. rw (on_bit n h i)))
      ∙ retire_only vs (with_irr l (without l.irr (only n))) n h k (on_without l.irr (only n) n h ∙ rw (eq-eqb n n refl) (and-false (on l.irr n)))
