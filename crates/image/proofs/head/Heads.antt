-- Contents known by four numbers: the contents spell these, and bytes that spell them are the contents.
use Rattle.basics.proofs.Prelude.{◌≡◌, refl, sym, ap, ◌∙◌, subst, false, ◌&&◌, List, ◌++◌, ℕ, ◌+◌, ◌-◌, ◌≤◌, zero-add, arith, eqb-true, eqb-false, eqb, length, take_all, number_of, part, Bytes, part_add, part_part, equal_same, differ_same, part_known, test}
use Rattle.images.{specs.Form.Form, specs.Form.form_length, specs.Form.contents_length, specs.Form.contents_of, specs.Image.register_at, proofs.laws.Layout.length_contents}
use Rattle.images.proofs.laws.Saved.{bytes_contents}
use Rattle.image.specs.{Shown.ContentsOf, declared.form.Contents.Contents, head.Good.head_good}

-- lists of bytes whose eight bytes from 0, from 8, from 14 and the last ones spell the same numbers are the same; the last begin at a
module _ (l m : List ℕ) (b : Bytes l) (c : Bytes m) (n a : ℕ) (e : a + 8 ≡ n) (low : 14 ≤ a) (high : a ≤ 22) (h : n ≤ length l) (k : n ≤ length m) where
  eight : (at : ℕ) → at + 8 ≤ n → register_at at l ≡ register_at at m → part at 8 l ≡ part at 8 m
  eight at w f = part_known l at 8 b (omega arith) (register_at at m) f ∙ sym (part_known m at 8 c (omega arith) (register_at at m) refl)

  -- the first u bytes, and then what is left of the eight from `at` on
  cut : (u at : ℕ) → at ≤ u → u ≤ at + 8 → (x : List ℕ) → part 0 (at + 8) x ≡ part 0 u x ++ part (u - at) (at + 8 - u) (part at 8 x)
  cut u at v w x =
      let whole : u + (at + 8 - u) ≡ at + 8 = omega arith in
      let start : at + (u - at) ≡ u = omega arith in
      ap (λ j. part 0 j x) (sym whole) ∙ sym (part_add x 0 u (at + 8 - u)) ∙ ap (λ j. part 0 u x ++ part j (at + 8 - u) x) (zero-add u ∙ sym start)
      ∙ ap (λ t. part 0 u x ++ t) (sym (part_part x at 8 (u - at) (at + 8 - u) (omega arith)))

  -- where the first u bytes are the same, eight more that begin among them or behind them are
  more : (u at : ℕ) → at ≤ u → u ≤ at + 8 → at + 8 ≤ n → part 0 u l ≡ part 0 u m → register_at at l ≡ register_at at m → part 0 (at + 8) l ≡ part 0 (at + 8) m
  more u at v w r f g = cut u at v w l ∙ (λ i. f i ++ part (u - at) (at + 8 - u) (eight at r g i)) ∙ sym (cut u at v w m)

  pub words_known : register_at 0 l ≡ register_at 0 m → register_at 8 l ≡ register_at 8 m → register_at 14 l ≡ register_at 14 m → register_at a l ≡ register_at a m
      → part 0 n l ≡ part 0 n m
  words_known f g t q =
      let two = more 8 8 (omega arith) (omega arith) (omega arith) (more 0 0 (omega arith) (omega arith) (omega arith) refl f) g in
      let three = more 16 14 (omega arith) (omega arith) (omega arith) two t in
      subst (λ j. part 0 j l ≡ part 0 j m) e (more 22 a (omega arith) (omega arith) (omega arith) three q)

module _ (f : Form) (l : List ℕ) where
  -- a number of eight bytes that differs from that of the contents
  pub differs : (a x y : ℕ) → a + 8 ≤ contents_length f → x ≡ register_at a l → y ≡ register_at a (contents_of f) → (x ≡ y → ⊥) → false ≡ head_good f l
  differs a x y h e g n =
      let inner : (m : List ℕ) → part a 8 (part 0 (contents_length f) m) ≡ part a 8 m = λ m. rw zero-add at (part_part m 0 (contents_length f) a 8 h) in
      sym (differ_same (part 0 (contents_length f) l) (contents_of f) (λ q. n (e ∙ ap number_of (sym (inner l) ∙ ap (part a 8) q) ∙ sym g)))

  -- the first three agree, and the last decides
  module _ (b : Bytes l) (c : Contents) (o : ContentsOf f c) (s : length l ≡ form_length f) where
    pub agrees : (x : ℕ) → register_at 0 l ≡ c.first → register_at 8 l ≡ c.second → register_at 14 l ≡ c.third → x ≡ register_at c.last_at l → eqb x c.last ≡ head_good f l
    agrees x e g r h =
        let whole : part 0 (contents_length f) (contents_of f) ≡ contents_of f = take_all (contents_length f) (contents_of f) (omega (arith, length_contents f)) in
        test (eqb x c.last)
        (λ t. t ∙ sym (equal_same _ _ (words_known l (contents_of f) b (bytes_contents f) (contents_length f) c.last_at o.ends o.low o.high (omega arith) (omega (arith, length_contents f))
        (e ∙ o.first) (g ∙ o.second) (r ∙ o.third) (sym h ∙ eqb-true x c.last t ∙ o.last) ∙ whole)))
        (λ t. t ∙ differs c.last_at x c.last (omega (arith, o.ends)) h o.last (eqb-false x c.last t))

    -- all four at once
    pub by_words : {x y z w : ℕ} → x ≡ register_at 0 l → y ≡ register_at 8 l → z ≡ register_at 14 l → w ≡ register_at c.last_at l
        → (((eqb x c.first && eqb y c.second) && eqb z c.third) && eqb w c.last) ≡ head_good f l
    by_words {x} {y} {z} {w} e g r h =
        test (eqb x c.first)
        (λ t. test (eqb y c.second)
        (λ u. test (eqb z c.third)
        (λ v. rw (t, u, v) (agrees w (sym e ∙ eqb-true x c.first t) (sym g ∙ eqb-true y c.second u) (sym r ∙ eqb-true z c.third v) h))
        (λ v. rw (t, u, v) (differs 14 z c.third (omega (arith, o.ends, o.low)) r o.third (eqb-false z c.third v))))
        (λ u. rw (t, u) (differs 8 y c.second (omega (arith, o.ends, o.low)) g o.second (eqb-false y c.second u))))
        (λ t. rw t (differs 0 x c.first (omega (arith, o.ends, o.low)) e o.first (eqb-false x c.first t)))
