-- The rules of the bodies, given what is looked at first; and a ring all of whose pairs and numbers are zero.
use Rattle.basics.proofs.Prelude.{twice, ◌≡◌, refl, sym, ap, ◌∙◌, Bool, true, false, ◌&&◌, and-eq-true_iff, List, ℕ, ◌+◌, ◌-◌, ◌*◌, ◌/◌, ◌%◌, ◌≤◌, arith, bit_and, bit_or, or_add_and, and_le_l, and_le_r, eqb, leb, eq-eqb, le-leb, lit≤, length, drop, drop_of_length-le, get_or, get_or-take, get_or-drop, part, Bytes, length_part, bytes_part, test}
use Rattle.rules.specs.Ring.{capacity}
use Rattle.images.specs.Form.{Form, one, two, numbered, word, irr, copy, count, pairs, numbers, has, place, form_length, read}
use Rattle.images.{specs.Image.register_at, specs.Image.count_in, proofs.laws.Layout.field_fits}
use Rattle.image.specs.{Shown.PlacesOf, declared.form.Places.Places, bodies.Good.ring_good, bodies.Good.spare_at, bodies.Good.bodies_good}
use Rattle.image.specs.unused.Events.{all_zero, flags_good, pairs_good, numbers_good, bits_of}
use Rattle.image.proofs.{Forms.always_at, Forms.always_fits, Forms.always_within, bodies.Tested.rules_tested, unused.Pairs.flag_bits, unused.Pairs.flags_flags_good, unused.Pairs.pairs_empty, unused.Pairs.pairs_flagged, unused.Pairs.pairs_unused}

-- of two numbers that are nothing together both are
pub nothing : (x y : ℕ) → bit_or x y ≡ 0 → (x ≡ 0) × (y ≡ 0)
nothing x y z = (omega (arith, or_add_and x y, and_le_r x y), omega (arith, or_add_and x y, and_le_l x y))

-- no image is long; the numbers or, without them, the pairs end within it
pub short : (f : Form) → form_length f ≤ 290
short one = lit≤ tt
short two = lit≤ tt
short numbered = lit≤ tt

module _ (f : Form) where
  pub spare_numbers : has f numbers ≡ true → spare_at f ≡ place f numbers
  spare_numbers h = rw h

  pub spare_fits : spare_at f + 32 ≤ form_length f
  spare_fits = test (has f numbers) (λ h. rw h (field_fits f numbers h)) (λ h. rw h (always_fits f pairs refl))

-- the rules, given what the first two say
module _ (f : Form) (l : List ℕ) (s : length l ≡ form_length f) (p : Places) (o : PlacesOf f p) where
  pub counts : get_or l p.count 0 ≡ count_in f l
  counts = ap (λ a. get_or l a 0) (always_at f l s p o count refl)

  pub pairs_read : part p.pairs (p.pairs + 32 - p.pairs) l ≡ read f l pairs
  pairs_read = let w : p.pairs + 32 - p.pairs ≡ 32 = omega arith in λ i. part (always_at f l s p o pairs refl i) (w i) l

  module _ {x y : ℕ} (e : x ≡ register_at p.last_intirr l) (g : y ≡ register_at p.intirr l) where
    pub tested : {t u v : Bool} → eqb x y ≡ t → leb (get_or l p.count 0) capacity ≡ u → ring_good f (get_or l p.count 0) l ≡ v → (t && (u && v)) ≡ bodies_good f l
    tested h k q =
        let at : (a b : ℕ) → a ≡ b → register_at a l ≡ register_at b l = λ a b. ap (λ n. register_at n l) in
        (λ i. sym h i && ((sym k ∙ ap (λ n. leb n capacity) counts) i && (sym q ∙ ap (λ n. ring_good f n l) counts) i))
        ∙ sym (rules_tested f l s x y (λ c. e ∙ at _ _ (o.fields (word copy) c)) (λ c. e ∙ at _ _ (o.copy c) ∙ sym g) (g ∙ at _ _ (always_at f l s p o (word irr) refl)))

    -- the copy is IRR, no more than fit wait, and the ring decides
    pub by_ring : x ≡ y → get_or l p.count 0 ≤ capacity → {r : Bool} → ring_good f (get_or l p.count 0) l ≡ r → r ≡ bodies_good f l
    by_ring h k q = tested (eq-eqb x y h) (le-leb (get_or l p.count 0) capacity k) q

  -- no pair has a bit, and no number: whatever waits, both rules of the ring hold
  module _ (b : Bytes l) (n : ℕ) (few : n ≤ capacity) where
    empty : (a : ℕ) → a + 32 ≤ length l → bits_of 4 (part a 32 l) ≡ 0 → true ≡ pairs_good n (part a 32 l)
    empty a h z = pairs_empty (part a 32 l) (bytes_part l a 32 b) n (length_part l a 32 h) few refl z

    no_numbers_left : bits_of 4 (part (spare_at f) 32 l) ≡ 0 → numbers_good f n l ≡ true
    no_numbers_left z =
        test (has f numbers)
        (λ h. rw h ((and-eq-true_iff (flags_good n (read f l numbers)) (all_zero (drop (2 * n) (read f l numbers)))).0
        (sym (empty (place f numbers) (omega (arith, field_fits f numbers h)) (ap (λ a. bits_of 4 (part a 32 l)) (sym (spare_numbers f h)) ∙ z)))).1)
        (λ h. rw h)

    pub quiet : {x y a : ℕ} → x ≡ bits_of 4 (part p.pairs (p.pairs + 32 - p.pairs) l) → a ≡ spare_at f → y ≡ bits_of 4 (part a (a + 32 - a) l) → bit_or x y ≡ 0 → ring_good f n l ≡ true
    quiet {x} {y} {a} e at g z =
        let none : x ≡ 0 = omega (arith, or_add_and x y, and_le_r x y) in
        let nor : y ≡ 0 = omega (arith, or_add_and x y, and_le_l x y) in
        let w : a + 32 - a ≡ 32 = omega arith in
        let first = sym (empty (place f pairs) (omega (arith, always_fits f pairs refl)) (sym (e ∙ ap (bits_of 4) pairs_read) ∙ none)) in
        let second = no_numbers_left (sym (g ∙ (λ i. bits_of 4 (part (at i) (w i) l))) ∙ nor) in
        λ i. first i && second i

    -- the flags tell, and then the unused pairs and numbers
    module _ {x : ℕ} (e : x ≡ bits_of 4 (part p.pairs (p.pairs + 32 - p.pairs) l)) where
      bits : x ≡ bits_of 4 (read f l pairs)
      bits = e ∙ ap (bits_of 4) pairs_read

      its : length (read f l pairs) ≡ 2 * capacity
      its = length_part l (place f pairs) 32 (omega (arith, always_fits f pairs refl))

      pub flagged : (bit_and x flag_bits ≡ 0 → ⊥) → ring_good f n l ≡ false
      flagged z = ap (λ t. t && numbers_good f n l) (sym (pairs_flagged (read f l pairs) (bytes_part l (place f pairs) 32 b) n its few bits z))

      spare_decides : (all_zero (drop (2 * n) (read f l pairs)) && all_zero (drop (2 * n) (part (spare_at f) 32 l))) ≡ (all_zero (drop (2 * n) (read f l pairs)) && numbers_good f n l)
      spare_decides = test (has f numbers) (λ h. rw h) (λ h. rw h (twice (all_zero (drop (2 * n) (read f l pairs)))))

      pub by_unused : bit_and x flag_bits ≡ 0 → {a : ℕ} → a ≡ spare_at f → {r : Bool}
          → r ≡ (all_zero (drop (2 * n) (part p.pairs (p.pairs + 32 - p.pairs) l)) && all_zero (drop (2 * n) (part a (a + 32 - a) l))) → ring_good f n l ≡ r
      by_unused z {a} at g =
          let w : a + 32 - a ≡ 32 = omega arith in
          let good = pairs_unused (read f l pairs) (bytes_part l (place f pairs) 32 b) n its few bits z in
          ap (λ t. t && numbers_good f n l) (sym good)
          ∙ sym (g ∙ (λ i. all_zero (drop (2 * n) (pairs_read i)) && all_zero (drop (2 * n) (part (at i) (w i) l))) ∙ spare_decides)

  -- the copy is IRR, nothing waits, no pair has a bit and no number: all rules hold
  pub silent : Bytes l → (d : ℕ) {x y n u v a : ℕ} → x ≡ register_at p.last_intirr l → y ≡ register_at p.intirr l → eqb d 0 ≡ eqb x y → n ≡ get_or l p.count 0
      → u ≡ bits_of 4 (part p.pairs (p.pairs + 32 - p.pairs) l) → a ≡ spare_at f → v ≡ bits_of 4 (part a (a + 32 - a) l) → bit_or (bit_or (bit_or d n) u) v ≡ 0 → (bodies_good f l ≡ true) × (count_in f l ≡ 0)
  silent b d {x} {y} {n} {u} {v} e g same c h at k z =
      let first = nothing (bit_or (bit_or d n) u) v z in
      let second = nothing (bit_or d n) u first.0 in
      let third = nothing d n second.0 in
      let none : get_or l p.count 0 ≡ 0 = sym c ∙ third.1 in
      let few : get_or l p.count 0 ≤ capacity = omega (arith, none) in (
        sym (tested e g (sym same ∙ eq-eqb d 0 third.0) (le-leb (get_or l p.count 0) capacity few)
            (quiet b (get_or l p.count 0) few h at k (rw (second.1, first.1)))),
        sym counts ∙ none,
      )

  -- sixteen wait: none is unused, and the flags decide
  pub full : Bytes l → get_or l p.count 0 ≡ capacity → {x : ℕ} → x ≡ bits_of 4 (part p.pairs (p.pairs + 32 - p.pairs) l) → bit_and x flag_bits ≡ 0 → ring_good f (get_or l p.count 0) l ≡ true
  full b n e z =
      let few : get_or l p.count 0 ≤ capacity = omega (arith, n) in
      let used : (a : ℕ) → a + 32 ≤ length l → true ≡ all_zero (drop (2 * get_or l p.count 0) (part a (a + 32 - a) l)) =
      λ a h.
      let end : length (part a (a + 32 - a) l) ≤ 2 * get_or l p.count 0 = omega (arith, n, length_part l a (a + 32 - a) (omega arith)) in
      sym (ap all_zero (drop_of_length-le (part a (a + 32 - a) l) end)) in
      by_unused b (get_or l p.count 0) few e z {a = spare_at f} refl
      (λ i. used p.pairs (omega (arith, always_within f l s p o pairs refl)) i && used (spare_at f) (omega (arith, spare_fits f)) i)

  -- good flags, and nothing behind those that wait: the rules of the ring hold
  in_order : (n : ℕ) → flags_good n (read f l pairs) ≡ true → all_zero (drop (2 * n) (part p.pairs (p.pairs + 32 - p.pairs) l)) ≡ true
      → {a : ℕ} → a ≡ spare_at f → all_zero (drop (2 * n) (part a (a + 32 - a) l)) ≡ true → ring_good f n l ≡ true
  in_order n flags z {a} at k =
      let w : a + 32 - a ≡ 32 = omega arith in
      let spare : all_zero (drop (2 * n) (part (spare_at f) 32 l)) ≡ true = (λ i. all_zero (drop (2 * n) (part (sym at i) (sym w i) l))) ∙ k in
      let numbers-good : numbers_good f n l ≡ true = test (has f numbers) (λ h. rw h (rw h at spare)) (λ h. rw h) in
      λ i. (flags i && (ap (λ m. all_zero (drop (2 * n) m)) (sym pairs_read) ∙ z) i) && numbers-good i

  -- all flags are good, the copy is IRR, fewer than four wait and nothing is behind them
  pub few_wait : Bytes l → (d v w : ℕ) {x y u a : ℕ} → x ≡ register_at p.last_intirr l → y ≡ register_at p.intirr l → eqb d 0 ≡ eqb x y
      → u ≡ bits_of 4 (part p.pairs (p.pairs + 32 - p.pairs) l) → eqb v 0 ≡ all_zero (drop (2 * (get_or l p.count 0 % 4)) (part p.pairs (p.pairs + 32 - p.pairs) l))
      → a ≡ spare_at f → eqb w 0 ≡ all_zero (drop (2 * (get_or l p.count 0 % 4)) (part a (a + 32 - a) l))
      → bit_or (bit_or (bit_or (bit_or d (get_or l p.count 0 / 4)) (bit_and u flag_bits)) v) w ≡ 0 → bodies_good f l ≡ true
  few_wait b d v w {x} {y} {u} {a} e g same h behind at spare z =
      let n = get_or l p.count 0 in
      let first = nothing (bit_or (bit_or (bit_or d (n / 4)) (bit_and u flag_bits)) v) w z in
      let second = nothing (bit_or (bit_or d (n / 4)) (bit_and u flag_bits)) v first.0 in
      let third = nothing (bit_or d (n / 4)) (bit_and u flag_bits) second.0 in
      let fourth = nothing d (n / 4) third.0 in
      let all : n % 4 ≡ n = omega (arith, fourth.1) in
      let few : n ≤ capacity = omega (arith, fourth.1) in
      sym (tested e g (sym same ∙ eq-eqb d 0 fourth.0) (le-leb n capacity few)
      (by_unused b n few h third.1 at
      (λ i. (sym (eq-eqb v 0 second.1) ∙ behind ∙ ap (λ k. all_zero (drop (2 * k) (part p.pairs (p.pairs + 32 - p.pairs) l))) all) i
      && (sym (eq-eqb w 0 first.1) ∙ spare ∙ ap (λ k. all_zero (drop (2 * k) (part a (a + 32 - a) l))) all) i)))

  -- one waits: its flag is good, the copy is IRR and nothing is behind it
  pub one_waits : count_in f l ≡ 1 → (d v w : ℕ) {x y k a : ℕ} → x ≡ register_at p.last_intirr l → y ≡ register_at p.intirr l → eqb d 0 ≡ eqb x y → k ≡ get_or l (p.pairs + 1) 0 / 2
      → eqb v 0 ≡ all_zero (drop (2 * 1) (part p.pairs (p.pairs + 32 - p.pairs) l)) → a ≡ spare_at f → eqb w 0 ≡ all_zero (drop (2 * 1) (part a (a + 32 - a) l))
      → bit_or (bit_or (bit_or d k) v) w ≡ 0 → bodies_good f l ≡ true
  one_waits only d v w {x} {y} {k} {a} e g same half behind at spare z =
      let flag = get_or l (p.pairs + 1) 0 in
      let first = nothing (bit_or (bit_or d k) v) w z in
      let second = nothing (bit_or d k) v first.0 in
      let third = nothing d k second.0 in
      let n : get_or l p.count 0 ≡ 1 = counts ∙ only in
      let here : get_or (read f l pairs) 1 0 ≡ flag = ap (λ m. get_or m 1 0) (sym pairs_read) ∙ get_or-take (p.pairs + 32 - p.pairs) (drop p.pairs l) 1 0 (omega arith) ∙ get_or-drop p.pairs l 1 0 in
      let ring : ring_good f 1 l ≡ true = in_order 1 (flags_flags_good 1 (read f l pairs) (λ i h. let here-alone : 2 * i + 1 ≡ 1 = omega arith in rw here-alone (omega (arith, here, half, third.1))))
      (sym behind ∙ eq-eqb v 0 second.1) at (sym spare ∙ eq-eqb w 0 first.1) in
      sym (tested e g (sym same ∙ eq-eqb d 0 third.0) (le-leb (get_or l p.count 0) capacity (omega (arith, n))) (ap (λ k. ring_good f k l) n ∙ ring))
