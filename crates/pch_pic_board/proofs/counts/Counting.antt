-- The loop that counts the inputs of a set, each by the vector that it carries.
use Rattle.std.proofs.Common.{Option, None}
use Rattle.basics.proofs.Prelude.{one_less, and-true, and-false, swap, ◌≡◌, refl, sym, ap, ap₂, ◌∙◌, Bool, true, false, not, ◌&&◌, List, ◌++◌, ℕ, ◌+◌, ◌-◌, ◌^◌, ◌<◌, ◌≤◌, lt_of_le_of_lt, arith, bit_and, and_le_l, count_trailing_zeros, eqb, length, take, drop, set, get_or, replicate, length-set, length-append, length-drop, length-replicate, take-append-drop, get_or-replicate, List·getD-append, length-take-le, get_or-take, get_or-set_same, get_or-set_other, drop-set-lt, drop_at, eq-eqb, eqb-true, eqb-false, put_mid, Bytes, part, on, inputs, only, test, on_none, on_without, lowest, lowest_dropped, no_inputs}
use Rattle.rules.specs.{Device.Device, Numbering.Numbers, Account.carries, Account.carrying}
use Rattle.rules.proofs.laws.Counts.{one, split, size_ext, only_size}
use Rattle.laws.proofs.laws.{Losses.from_few, Images.accepted_has}
use Rattle.images.{specs.Form.unknown, specs.Form.known, specs.Form.form_of, specs.Image.image_test, specs.Image.accepted, specs.Image.decode, specs.Image.numbers_in, proofs.laws.Tests.form_found}
use Rattle.image.specs.{Shown.form_known, declared.form.Form.Form}
use Rattle.fields.{specs.inplace.Held.Holds, specs.inplace.Held.Reads, proofs.inplace.Doing.held}
use Rattle.boards.{specs.Boarding.recounted, specs.Boarding.board_after, proofs.laws.Counts.counts_are}

-- of a set those inputs that carry v in the vector bytes vs
abbrev counted : ℕ → List ℕ → ℕ → ℕ
counted v vs x = length (inputs (λ n. on x n && carries v vs n))

-- ---- the lowest input of a set, and the others

module _ (x : ℕ) (below : x < 2 ^ 64) (some : x ≡ 0 → ⊥) where
  abbrev first : ℕ
  first = count_trailing_zeros 64 x

  abbrev others : ℕ
  others = bit_and x (x - 1)

  -- it counts for the vector that it carries
  first_counts : (v : ℕ) (vs : List ℕ) → counted v vs x ≡ one (carries v vs first) + counted v vs others
  first_counts v vs =
      let l = lowest 64 x below some in
      let f : ℕ → Bool = λ n. on x n && carries v vs n in
      let here = size_ext (λ n. f n && only first n) (λ n. only first n && carries v vs n)
      (λ i h. test (only first i) (λ t. rw (t, eqb-true i first t, l.has) (and-true (carries v vs first))) (λ t. rw t (and-false (f i)))) in
      let there = size_ext (λ n. f n && not (only first n)) (λ n. on others n && carries v vs n)
      (λ i h. swap (on x i) (carries v vs i) (not (only first i)) ∙ ap (λ b. b && carries v vs i) (sym (ap (λ y. on y i) (lowest_dropped x below some) ∙ on_without x (only first) i h))) in
      omega (arith, split 0 64 f (only first), here, there, only_size first (carries v vs) l.below)

-- ---- what holds at each turn

-- of the set those in `left` are still to be counted: so many more at most, and of whatever device the image holds, the counts and what is left come to all
pub record Counting (i b₀ b : List ℕ) (set left : ℕ) : Type 0 where
  pub below : left < 2 ^ 64
  pub sized : length b ≡ length b₀
  pub past : drop 256 b ≡ drop 256 b₀
  pub few : (v : ℕ) → v < 256 → get_or b v 0 + length (inputs (on left)) ≤ 64
  pub sofar : (d : Device) (s : Numbers) → Holds i d s → (v : ℕ) → v < 256 → get_or b v 0 + counted v d.core.vectors left ≡ counted v d.core.vectors set

-- at first all counts are zero
module _ (b ys : List ℕ) (room : 256 ≤ length b) (e : ys ≡ replicate (length (part 0 256 b)) 0) where
  zeros : ys ≡ replicate 256 0
  zeros = e ∙ ap (λ n. replicate n 0) (length-take-le 256 b room)

  zeros_length : length ys ≡ 256
  zeros_length = ap length zeros ∙ length-replicate {A = ℕ} 256 0

  pub zeroed_length : length (put_mid 0 256 b ys) ≡ length b
  zeroed_length = omega (arith, length-append ys (drop 256 b), zeros_length, length-drop 256 b)

  pub zeroed_past : drop 256 (put_mid 0 256 b ys) ≡ drop 256 b
  zeroed_past = drop_at ys (drop 256 b) 256 zeros_length

  pub counting_starts : (i : List ℕ) (x : ℕ) → x < 2 ^ 64 → Counting i (put_mid 0 256 b ys) (put_mid 0 256 b ys) x x
  counting_starts i x h = record {
    below = h;
    sized = refl;
    past = refl;
    few = λ v l. omega (arith, zero_at v l, from_few 0 64 (on x));
    sofar = λ d s g v l. omega (arith, zero_at v l);
  }
    where
      zero_at : (v : ℕ) → v < 256 → get_or (ys ++ drop 256 b) v 0 ≡ 0
      zero_at v l = List·getD-append ys (drop 256 b) 0 v (omega (arith, zeros_length)) ∙ ap (λ z. get_or z v 0) zeros ∙ get_or-replicate 256 v 0 0 l

module _ {i b₀ b : List ℕ} {all x : ℕ} (q : Counting i b₀ b all x) where
  -- one more still fits in a byte
  pub one_fits : (x ≡ 0 → ⊥) → (v : ℕ) → v < 256 → get_or b v 0 + 1 < 256
  one_fits some v l = omega (arith, q.few v l, one_less x q.below some)

  pub counting_next : (some : x ≡ 0 → ⊥) → 256 ≤ length b → (v : ℕ) → v < 256 → Reads i v (λ d. get_or d.core.vectors (count_trailing_zeros 64 x) 0)
      → Counting i b₀ (set b v (get_or b v 0 + 1)) all (bit_and x (x - 1))
  counting_next some room v l e = record {
    below = lt_of_le_of_lt (and_le_l x (x - 1)) q.below;
    sized = length-set b v (get_or b v 0 + 1) ∙ q.sized;
    past = drop-set-lt 256 b v (get_or b v 0 + 1) l ∙ q.past;
    few = λ u h. omega (arith, count_after u, one_most (eqb v u), q.few u h, one_less x q.below some);
    sofar = λ d s g u h.
        let vs = d.core.vectors in
        let same : one (eqb v u) ≡ one (carries u vs (count_trailing_zeros 64 x)) = ap (λ w. one (eqb w u)) (e d s g) in
        omega (arith, count_after u, same, first_counts x q.below some u vs, q.sofar d s g u h);
  }
    where
      one_most : (t : Bool) → one t ≤ 1
      one_most true = omega arith
      one_most false = omega arith

      count_after : (u : ℕ) → get_or (set b v (get_or b v 0 + 1)) u 0 ≡ get_or b u 0 + one (eqb v u)
      count_after u =
          test (eqb v u)
          (λ t. rw (t, ← eqb-true v u t) (get_or-set_same b v (get_or b v 0 + 1) 0 (omega arith)))
          (λ t. rw t (get_or-set_other b v u (get_or b v 0 + 1) 0 (λ z. eqb-false v u t (sym z)) ∙ omega arith))

  -- none is left: the counts are the fresh ones
  pub counting_done : x ≡ 0 → 256 ≤ length b₀ → Reads i all (λ d. d.core.lines.isr) → (rest : List ℕ) → drop 256 b₀ ≡ drop 256 rest
      → Reads i b (λ d. recounted d.core rest)
  counting_done z room e rest r d s g =
      let vs = d.core.vectors in
      let front = counts_are (take 256 b) (λ v. carrying v d.core) (length-take-le 256 b (omega (arith, q.sized)))
      (λ v l.
      let none : counted v vs x ≡ 0 = ap length (no_inputs (λ n. on x n && carries v vs n) (λ j h. rw (z, on_none j))) in
      let whole : counted v vs all ≡ carrying v d.core = ap (counted v vs) (e d s g) in
      get_or-take 256 b v 0 l ∙ omega (arith, q.sofar d s g v l, none, whole)) in
      sym (take-append-drop 256 b) ∙ ap₂ ◌++◌ front (q.past ∙ r)

-- ---- after a call

module _ (n : ℕ) (i b : List ℕ) (z : n ≡ 0) (good : n ≡ 0 → image_test i ≡ accepted) where
  -- done, the image left is accepted: so it has a form, and holds the device that it loads
  pub has_form : (k : Option Form) → form_known k ≡ form_of (length i) → k ≡ None → ⊥
  has_form k e u =
      let h = accepted_has i (good z) in
      let no : unknown ≡ known h.form = sym (ap form_known u) ∙ e ∙ ap form_of h.has.sized ∙ form_found h.form in
      let nothing : ◌≡◌ {A = ℕ} 0 1 = cc in
      omega (arith, nothing)

  pub done_counts : {c : List ℕ} → Bytes i → Reads i c (λ d. recounted d.core b) → c ≡ board_after n i b
  done_counts bytes r = rw (eq-eqb n 0 z) (r (decode i) (numbers_in i) (held i bytes (good z)))
