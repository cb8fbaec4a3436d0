-- What an aligned Dword write does to the vector bytes: outside them nothing; among them the four bytes from its offset on become the value's. So four tests tell
-- whether it would change a byte whose input is in service.
use Rattle.basics.proofs.Prelude.{four_bytes_lem, ◌≡◌, refl, sym, ap, ◌∙◌, Bool, true, false, not, ◌&&◌, ◌||◌, true≢false, and-false, List, [], ◌∷◌, ◌++◌, ℕ, zero, suc, ◌+◌, ◌-◌, ◌%◌, ◌<◌, ◌≤◌, arith, eqb, lit<, length, get_or, set, length-set, sets, get_or-set_same, get_or-set_other, eq-eqb, number_of, bytes_of, byte_of, Bytes, on, half, test, bytes_of_number_of}
use Rattle.rules.specs.{Core.Core, Core.Act, Core.set_vector, Core.vectors_after, Core.turns, Map.Register, Map.bytes, Map.within, Map.in_vectors, Map.cell_at}
use Rattle.rules.specs.Access.{dword, read_dword, read_cell, register_acts, cell_acts, write_acts}
use Rattle.rules.specs.Device.{Device, WellFormed, write, acts_of, acted, step}
use Rattle.histories.{specs.Demands.Each, specs.Demands.in_service, proofs.laws.Reach.LeavesVectors, proofs.laws.Reach.entry_has, proofs.laws.Reach.register_has, proofs.laws.Reach.dword_has}
use Rattle.histories.proofs.laws.Folds.{fold_acts, vectors_stay_lem}
use Rattle.laws.proofs.laws.{Maps.inside, Maps.inside_from, Maps.unlisted_vector, Widths.entry_vector, Widths.dword_of, Writes.entry_acts_vector, Writes.dword_acts_of}
use Rattle.hoists.specs.{Profile.some_input, Profile.changes_vector, Profile.changes_served, Four.changes_byte, Four.some_of_four, Four.changes_four}
use Rattle.hoists.proofs.laws.Inputs.{some_there, none_there}

-- ---- outside the vector bytes

vectors_left : (c : Core) {xs : List Act} → Each LeavesVectors xs → (turns c xs).after.vectors ≡ c.vectors
vectors_left c = fold_acts (λ d ms e. e.vectors ≡ d.vectors) (λ d. refl) (λ d e f xs ys x y. y ∙ x) LeavesVectors (λ d a t. vectors_stay_lem d.vectors a t) c

pub no_vector_written : (d : Device) (o v : ℕ) → o % 4 ≡ 0 → in_vectors o ≡ false → (step d (write dword o v)).after.core.vectors ≡ d.core.vectors
unfolding step acted acts_of write_acts
no_vector_written d o v aligned e =
    vectors_left d.core
    (dword_has LeavesVectors o (half false v) (λ r h c. halves r h) (λ i a b. entry_has LeavesVectors i (λ x l. tt) (λ t. absurd (no_vector i a b t))))
  where
    halves : (r : Register) (h : Bool) → Each LeavesVectors (register_acts r h (half false v))
    halves r h = register_has LeavesVectors (λ g y. tt) (λ y. tt) (λ p g y. tt) r h (half false v) (λ e. tt)

    no_vector : (i : ℕ) → o ≤ i → i < o + 4 → in_vectors i ≡ true → ⊥
    no_vector i a b t =
        let r = inside_from 0x200 0x240 i t in
        true≢false (sym (inside 0x200 0x240 o (omega arith) (omega arith)) ∙ e)

-- ---- a run of stores

sets_other : (vs l : List ℕ) (i j : ℕ) → (i ≤ j → j < i + length vs → ⊥) → get_or (sets l i vs) j 0 ≡ get_or l j 0
sets_other [] l i j n = refl
sets_other (a ∷ vs) l i j n = sets_other vs (set l i a) (suc i) j (λ p q. n (omega arith) (omega arith)) ∙ get_or-set_other l i j a 0 (λ e. n (omega arith) (omega arith))

sets_there : (vs l : List ℕ) (i k : ℕ) → i + length vs ≤ length l → k < length vs → get_or (sets l i vs) (i + k) 0 ≡ get_or vs k 0
sets_there [] l i k h b = absurd (omega arith)
sets_there (a ∷ vs) l i zero h b =
    let z : i + 0 ≡ i = omega arith in
    ap (λ j. get_or (sets (set l i a) (suc i) vs) j 0) z ∙ sets_other vs (set l i a) (suc i) i (λ p q. omega arith) ∙ get_or-set_same l i a 0 (omega arith)
sets_there (a ∷ vs) l i (suc k) h b =
    let s = length-set l i a in
    let z : i + suc k ≡ suc i + k = omega arith in
    ap (λ j. get_or (sets (set l i a) (suc i) vs) j 0) z ∙ sets_there vs (set l i a) (suc i) k (omega arith) (omega arith)

-- ---- among the vector bytes

-- bytes stand there
vector_cell : (o : ℕ) → 0x200 ≤ o → o < 0x240 → cell_at o ≡ bytes
vector_cell o a b = unlisted_vector o (
  (
    (
      (
        (
          (
            (
              (
                (
                  (
                    ((((((((((tt, λ e. omega arith), λ e. omega arith), λ e. omega arith), λ e. omega arith), λ e. omega arith), λ e. omega arith), λ e. omega arith), λ e. omega arith), λ e. omega arith), λ e. omega arith),
                    λ e. omega arith,
                  ),
                  λ e. omega arith,
                ),
                λ e. omega arith,
              ),
              λ e. omega arith,
            ),
            λ e. omega arith,
          ),
          λ e. omega arith,
        ),
        λ e. omega arith,
      ),
      λ e. omega arith,
    ),
    λ e. omega arith,
  ),
  λ e. omega arith,
) a b

abbrev four_bytes : ℕ → List ℕ
four_bytes v = byte_of v 0 ∷ byte_of v 1 ∷ byte_of v 2 ∷ byte_of v 3 ∷ []

-- a number that four bytes spell has them as its bytes
in_turn : (x : ℕ) → four_bytes x ≡ bytes_of 4 x
in_turn x = let b = four_bytes_lem x in (λ t. b.0 t ∷ b.1 t ∷ b.2 t ∷ b.3 t ∷ [])

four_below : (p q r s : ℕ) → p < 256 → q < 256 → r < 256 → s < 256 → Bytes (p ∷ q ∷ r ∷ s ∷ [])
four_below p q r s e f g h zero = e
four_below p q r s e f g h (suc zero) = f
four_below p q r s e f g h (suc (suc zero)) = g
four_below p q r s e f g h (suc (suc (suc zero))) = h
four_below p q r s e f g h (suc (suc (suc (suc i)))) = lit< tt

spelled_four : (p q r s : ℕ) → p < 256 → q < 256 → r < 256 → s < 256 → four_bytes (number_of (p ∷ q ∷ r ∷ s ∷ [])) ≡ p ∷ q ∷ r ∷ s ∷ []
spelled_four p q r s e f g h = in_turn (number_of (p ∷ q ∷ r ∷ s ∷ [])) ∙ bytes_of_number_of (p ∷ q ∷ r ∷ s ∷ []) (four_below p q r s e f g h)

-- byte k of a number, of the four
byte_at : (x k : ℕ) → k < 4 → get_or (four_bytes x) k 0 ≡ byte_of x k
byte_at x zero h = refl
byte_at x (suc zero) h = refl
byte_at x (suc (suc zero)) h = refl
byte_at x (suc (suc (suc zero))) h = refl
byte_at x (suc (suc (suc (suc k)))) h = absurd (omega arith)

at_four : (f : ℕ → ℕ) (k : ℕ) → k < 4 → get_or (f 0 ∷ f 1 ∷ f 2 ∷ f 3 ∷ []) k 0 ≡ f k
at_four f zero h = refl
at_four f (suc zero) h = refl
at_four f (suc (suc zero)) h = refl
at_four f (suc (suc (suc zero))) h = refl
at_four f (suc (suc (suc (suc k)))) h = absurd (omega arith)

-- some of four
module _ (g : ℕ → Bool) where
  pub data Found : Type 0 where
    found : (k : ℕ) → k < 4 → g k ≡ true → Found

  some_found : some_of_four g ≡ true → Found
  some_found e =
      test (g 0) (λ t. found 0 (lit< tt) t)
      (λ t. test (g 1) (λ u. found 1 (lit< tt) u)
      (λ u. test (g 2) (λ s. found 2 (lit< tt) s)
      (λ s. found 3 (lit< tt) (rw (t, u, s) at e))))

  none_found : some_of_four g ≡ false → (k : ℕ) → k < 4 → g k ≡ false
  none_found e k h = go (g 0) (g 1) (g 2) (g 3) refl refl refl refl e k h
    where
      go : (x y z w : Bool) → g 0 ≡ x → g 1 ≡ y → g 2 ≡ z → g 3 ≡ w → (x || (y || (z || w))) ≡ false → (k : ℕ) → k < 4 → g k ≡ false
      go true y z w p q r s e k h = absurd (true≢false e)
      go false true z w p q r s e k h = absurd (true≢false e)
      go false false true w p q r s e k h = absurd (true≢false e)
      go false false false w p q r s e zero h = p
      go false false false w p q r s e (suc zero) h = q
      go false false false w p q r s e (suc (suc zero)) h = r
      go false false false w p q r s e (suc (suc (suc zero))) h = s ∙ e
      go false false false w p q r s e (suc (suc (suc (suc k)))) h = absurd (omega arith)

module _ (d : Device) (w : WellFormed d) (o v : ℕ) (a : 0x200 ≤ o) (b : o + 4 ≤ 0x240) where
  abbrev input : ℕ
  input = o - 0x200

  -- the four become the value's
  pub vectors_written : (step d (write dword o v)).after.core.vectors ≡ sets d.core.vectors input (four_bytes (half false v))
  unfolding step acted acts_of write_acts cell_acts turns vectors_after
  vectors_written =
      let x = half false v in
      let o1 : o + 1 - 0x200 ≡ suc input = omega arith in
      let o2 : o + 2 - 0x200 ≡ suc (suc input) = omega arith in
      let o3 : o + 3 - 0x200 ≡ suc (suc (suc input)) = omega arith in
      ap (λ xs. (turns d.core xs).after.vectors)
      (sym (dword_acts_of o x (sym (vector_cell o a (omega arith))))
      ∙ (λ t. entry_acts_vector o (byte_of x 0) a (omega arith) t ++ (entry_acts_vector (o + 1) (byte_of x 1) (omega arith) (omega arith) t
      ++ (entry_acts_vector (o + 2) (byte_of x 2) (omega arith) (omega arith) t ++ entry_acts_vector (o + 3) (byte_of x 3) (omega arith) (omega arith) t)))
      ∙ (λ t. set_vector input (byte_of x 0) ∷ set_vector (o1 t) (byte_of x 1) ∷ set_vector (o2 t) (byte_of x 2) ∷ set_vector (o3 t) (byte_of x 3) ∷ []))

  -- and the Dword that stands there spells the four that were
  vectors_read : read_dword d.core o ≡ number_of (get_or d.core.vectors input 0 ∷ get_or d.core.vectors (input + 1) 0 ∷ get_or d.core.vectors (input + 2) 0 ∷ get_or d.core.vectors (input + 3) 0 ∷ [])
  unfolding read_cell
  vectors_read =
      let vs = d.core.vectors in
      let o1 : o + 1 - 0x200 ≡ input + 1 = omega arith in
      let o2 : o + 2 - 0x200 ≡ input + 2 = omega arith in
      let o3 : o + 3 - 0x200 ≡ input + 3 = omega arith in
      let e = entry_vector d.core in
      sym (dword_of d.core o (sym (vector_cell o a (omega arith))))
      ∙ (λ t. number_of (e o a (omega arith) t ∷ e (o + 1) (omega arith) (omega arith) t ∷ e (o + 2) (omega arith) (omega arith) t ∷ e (o + 3) (omega arith) (omega arith) t ∷ []))
      ∙ (λ t. number_of (get_or vs input 0 ∷ get_or vs (o1 t) 0 ∷ get_or vs (o2 t) 0 ∷ get_or vs (o3 t) 0 ∷ []))

  -- so of the input of byte k
  module _ (k : ℕ) (h : k < 4) where
    after_is : get_or (step d (write dword o v)).after.core.vectors (input + k) 0 ≡ byte_of (half false v) k
    after_is =
        let s = w.vectors in
        ap (λ vs. get_or vs (input + k) 0) vectors_written ∙ sets_there (four_bytes (half false v)) d.core.vectors input k (omega arith) h ∙ byte_at (half false v) k h

    before_is : byte_of (read_dword d.core o) k ≡ get_or d.core.vectors (input + k) 0
    before_is =
        let vs = d.core.vectors in
        let each = w.vector_bytes in
        let z : input + 0 ≡ input = omega arith in
        sym (byte_at (read_dword d.core o) k h) ∙ ap (λ x. get_or (four_bytes x) k 0) vectors_read
        ∙ ap (λ l. get_or l k 0) (spelled_four (get_or vs input 0) (get_or vs (input + 1) 0) (get_or vs (input + 2) 0) (get_or vs (input + 3) 0) (each input) (each (input + 1)) (each (input + 2)) (each (input + 3)))
        ∙ (λ t. get_or (get_or vs (sym z t) 0 ∷ get_or vs (input + 1) 0 ∷ get_or vs (input + 2) 0 ∷ get_or vs (input + 3) 0 ∷ []) k 0) ∙ at_four (λ m. get_or vs (input + m) 0) k h

    byte_is : (in_service (input + k) d.core.lines && changes_vector d (write dword o v) (input + k)) ≡ changes_byte d.core.lines.isr input (read_dword d.core o) (half false v) k
    byte_is = (λ t. on d.core.lines.isr (input + k) && not (eqb (after_is t) (sym before_is t)))

  -- the others stay
  beside : (i : ℕ) → (input ≤ i → i < input + 4 → ⊥) → changes_vector d (write dword o v) i ≡ false
  beside i n = ap not (eq-eqb _ _ (ap (λ vs. get_or vs i 0) vectors_written ∙ sets_other (four_bytes (half false v)) d.core.vectors input i n))

  abbrev changes : ℕ → Bool
  changes = changes_byte d.core.lines.isr input (read_dword d.core o) (half false v)

  abbrev served : ℕ → Bool
  served n = in_service n d.core.lines && changes_vector d (write dword o v) n

  -- four tests
  pub served_four : changes_served d (write dword o v) ≡ changes_four d.core.lines.isr input (read_dword d.core o) (half false v)
  unfolding changes_served changes_four
  served_four =
      test (some_of_four changes) (λ t. yes (some_found changes t) ∙ sym t) (λ t. none_there served (all t) ∙ sym t)
    where
      yes : Found changes → some_input served ≡ true
      yes (found k h t) = some_there served (input + k) (omega arith) (byte_is k h ∙ t)

      all : some_of_four changes ≡ false → (i : ℕ) → i < 64 → served i ≡ false
      all t i l =
          test (within input (input + 4) i)
          (λ s.
          let r = inside_from input (input + 4) i s in
          let e : input + (i - input) ≡ i = omega arith in
          rw e at (byte_is (i - input) (omega arith) ∙ none_found changes t (i - input) (omega arith)))
          (λ s. rw (beside i (λ p q. true≢false (sym (inside input (input + 4) i p q) ∙ s))) (and-false (in_service i d.core.lines)))

-- outside them none is changed
pub none_changed : (d : Device) (o v : ℕ) → o % 4 ≡ 0 → in_vectors o ≡ false → changes_served d (write dword o v) ≡ false
unfolding changes_served
none_changed d o v aligned e =
    none_there (λ n. in_service n d.core.lines && changes_vector d (write dword o v) n)
    (λ i l. rw (eq-eqb (get_or (step d (write dword o v)).after.core.vectors i 0) (get_or d.core.vectors i 0) (ap (λ vs. get_or vs i 0) (no_vector_written d o v aligned e))) (and-false (in_service i d.core.lines)))
