-- Counts over the inputs and over events, and the balance of the two moves of the lines: whatever is counted, asserts and what was in service before
-- come to deasserts and what is in service after. p says which inputs count, q which events: that of each input as that input.
use Rattle.basics.proofs.Prelude.{agree, agreed, swap, table₃, ◌≡◌, refl, sym, ap, ◌∙◌, Bool, true, false, cond, not, ◌&&◌, ◌||◌, List, [], ◌∷◌, ◌++◌, map, ℕ, zero, suc, ◌+◌, ◌<◌, arith, length, eqb-true, on, from, inputs, only, put, without, with_half, test, on_put, on_without, inputs_ext, only_input, first_has}
use Rattle.rules.specs.Lines.{Lines, Made, Turn, stay, and_then, event, pending_in, served_in, serve, enter, leave, with_irr, with_mask, newly_unmasked, newly_masked, polled, raised, lowered, cleared, masked}
use Rattle.rules.specs.Core.{Move, poll, raise, lower, clear, set_mask, moved}
use Rattle.rules.specs.Account.{tally, asserts_with, deasserts_with, served_with, has_vector, carries, asserts, deasserts}

-- ---- how many inputs

abbrev pub one : Bool → ℕ
one b = cond b 1 0

length_from : (n k : ℕ) (f : ℕ → Bool) → length (from n (suc k) f) ≡ one (f n) + length (from (suc n) k f)
unfolding from
length_from n k f = test (f n) (λ e. rw e (omega arith)) (λ e. rw e (omega arith))

one_split : (a b : Bool) → one a ≡ one (a && b) + one (a && not b)
one_split true true = refl
one_split true false = refl
one_split false b = refl

-- those with g, and those without
pub split : (n k : ℕ) (f g : ℕ → Bool) → length (from n k f) ≡ length (from n k (λ m. f m && g m)) + length (from n k (λ m. f m && not (g m)))
unfolding from
split n zero f g = refl
split n (suc k) f g =
    let with-g = length_from n k (λ m. f m && g m) in
    let without-g = length_from n k (λ m. f m && not (g m)) in
    omega (arith, length_from n k f, with-g, without-g, one_split (f n) (g n), split (suc n) k f g)

pub size_ext : (f g : ℕ → Bool) → ((i : ℕ) → i < 64 → f i ≡ g i) → length (inputs f) ≡ length (inputs g)
size_ext f g e = ap length (inputs_ext f g e)

pub only_size : (n : ℕ) (f : ℕ → Bool) → n < 64 → length (inputs (λ m. only n m && f m)) ≡ one (f n)
only_size n f b = ap length (only_input n f b) ∙ counted (f n)
  where
    counted : (c : Bool) → length (cond c (n ∷ []) []) ≡ one c
    counted true = refl
    counted false = refl

-- ---- how many events

pub tally_append : {A : Type 0} (q : A → Bool) (xs ys : List A) → tally q (xs ++ ys) ≡ tally q xs + tally q ys
unfolding tally
tally_append q [] ys = omega arith
tally_append q (x ∷ xs) ys = omega (arith, tally_append q xs ys)

pub tally_nil : {A : Type 0} (q : A → Bool) → tally q [] ≡ 0
unfolding tally
tally_nil q = refl

pub tally_none : (q : Made → Bool) (e : ℕ → Made) → ((n : ℕ) → q (e n) ≡ false) → (l : List ℕ) → tally q (map e l) ≡ 0
unfolding tally
tally_none q e h [] = refl
tally_none q e h (n ∷ l) = rw (h n) (omega (arith, tally_none q e h l))

tally_from : (q : Made → Bool) (e : ℕ → Made) (n k : ℕ) (f : ℕ → Bool)
    → tally q (map e (from n (suc k) f)) ≡ one (f n && q (e n)) + tally q (map e (from (suc n) k f))
unfolding tally from
tally_from q e n k f = test (f n) (λ t. rw t) (λ t. rw t (omega arith))

-- of the events of the inputs that have f, those that have q: one for each input that has both
tally_map : (q : Made → Bool) (e : ℕ → Made) (n k : ℕ) (f : ℕ → Bool) → tally q (map e (from n k f)) ≡ length (from n k (λ m. f m && q (e m)))
unfolding from
tally_map q e n zero f = tally_nil q
tally_map q e n (suc k) f = omega (arith, tally_from q e n k f, tally_map q e (suc n) k f, length_from n k (λ m. f m && q (e m)))

-- ---- the balance of a turn

-- a: in service before; p: counted; e: the input that enters
entered : (a p e : Bool) → (((a || e) && p) && e) ≡ (e && p)
entered = table₃ agree agreed _ _ refl

others : (a p e : Bool) → (e ≡ true → a ≡ false) → (((a || e) && p) && not e) ≡ (a && p)
others true true true h = sym (h refl)
others true false true h = refl
others true true false h = refl
others true false false h = refl
others false true true h = refl
others false false true h = refl
others false p false h = refl

module _ (vs : List ℕ) (p : ℕ → Bool) (q : Made → Bool) (h : (o a : Bool) (n : ℕ) → q (event vs o a n) ≡ p n) where
  abbrev pub Balanced : Lines → Turn → Type 0
  Balanced l t = asserts_with q t.made + served_with p l ≡ deasserts_with q t.made + served_with p t.after

  balanced_stay : (l : Lines) → Balanced l (stay l)
  unfolding tally
  balanced_stay l = refl

  -- each input that leaves service makes its deassert
  balanced_leave : (o : Bool) (f : ℕ → Bool) (l : Lines) → Balanced l (leave vs o f l)
  balanced_leave o f l =
      let none = tally_none (λ m. m.asserted && q m) (event vs o false) (λ n. refl) (inputs (served_in f l)) in
      let left = tally_map (λ m. not m.asserted && q m) (event vs o false) 0 64 (served_in f l) in
      let same = size_ext (λ m. served_in f l m && q (event vs o false m)) (λ m. served_in p l m && f m)
      (λ i b. rw (h o false i) (swap (on l.isr i) (f i) (p i))) in
      let stayed = size_ext (served_in p (leave vs o f l).after) (λ m. served_in p l m && not (f m))
      (λ i b. rw (on_without l.isr f i b) (swap (on l.isr i) (not (f i)) (p i))) in
      omega (arith, none, left, same, split 0 64 (served_in p l) f, stayed)

  -- an input that was not in service enters it and makes its assert
  balanced_one : (o : Bool) (l : Lines) (n : ℕ) (ns : List ℕ) → n < 64 → on l.isr n ≡ false → Balanced l (serve vs o l (n ∷ ns))
  unfolding tally
  balanced_one o l n ns b off =
      let after = (serve vs o l (n ∷ ns)).after in
      let whole = split 0 64 (served_in p after) (only n) in
      let new = size_ext (λ m. served_in p after m && only n m) (λ m. only n m && p m)
      (λ i g. rw (on_put l.isr n i g) (entered (on l.isr i) (p i) (only n i))) in
      let old = size_ext (λ m. served_in p after m && not (only n m)) (served_in p l)
      (λ i g. rw (on_put l.isr n i g) (others (on l.isr i) (p i) (only n i) (λ t. rw (eqb-true i n t) off))) in
      omega (arith, whole, new, old, only_size n p b, ap one (h o true n))

  balanced_enter : (o : Bool) (f : ℕ → Bool) (l : Lines) → Balanced l (enter vs o f l)
  balanced_enter o f l = go (inputs (pending_in f l)) refl
    where
      last : (a b c d : Bool) → (a && ((b && c) && not d)) ≡ true → d ≡ false
      last true true true true u = sym u
      last true true true false u = refl
      last true true false d u = cc
      last true false c d u = cc
      last false b c d u = cc

      go : (ns : List ℕ) → inputs (pending_in f l) ≡ ns → Balanced l (serve vs o l ns)
      go [] e = balanced_stay l
      go (n ∷ ns) e =
          let r = first_has 0 64 (pending_in f l) n ns e in
          balanced_one o l n ns r.1 (last (f n) (on l.irr n) (not (on l.mask n)) (on l.isr n) r.0)

  balanced_then : (l : Lines) (t : Turn) (f : Lines → Turn) → Balanced l t → Balanced t.after (f t.after) → Balanced l (and_then t f)
  balanced_then l t f x y =
      let two = (f t.after).made in
      omega (arith, tally_append (λ m. m.asserted && q m) t.made two, tally_append (λ m. not m.asserted && q m) t.made two, x, y)

  pub balanced_move : (l : Lines) (m : Move) → Balanced l (moved vs l m)
  unfolding moved polled raised lowered cleared masked
  balanced_move l (poll n) = balanced_enter false (only n) l
  balanced_move l (raise n) = balanced_enter false (only n) (with_irr l (put l.irr n))
  balanced_move l (lower n) = balanced_leave false (only n) (with_irr l (without l.irr (only n)))
  balanced_move l (clear b) = balanced_leave true (on b) (with_irr l (without l.irr (on b)))
  balanced_move l (set_mask g v) =
      let new = with_half g l.mask v in
      let one = enter vs true (newly_unmasked l.mask new) (with_mask l new) in
      balanced_then (with_mask l new) one (leave vs true (newly_masked l.mask new)) (balanced_enter true (newly_unmasked l.mask new) (with_mask l new))
      (balanced_leave true (newly_masked l.mask new) one.after)

-- of the events of one vector, and of the inputs that carry it: an event has the vector byte of the input that makes it
pub vector_balanced : (v : ℕ) (vs : List ℕ) (l : Lines) (m : Move)
    → asserts v (moved vs l m).made + served_with (carries v vs) l ≡ deasserts v (moved vs l m).made + served_with (carries v vs) (moved vs l m).after
vector_balanced v vs = balanced_move vs (carries v vs) (has_vector v) (λ o b n. refl)
