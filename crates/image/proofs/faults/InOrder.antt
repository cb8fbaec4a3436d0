-- The rules of the bodies in their order, by what code reads: the first that finds something is told, with its place.
use Rattle.basics.proofs.Prelude.{◌≡◌, refl, sym, ap, ◌∙◌, true, false≢true, List, ℕ, ◌+◌, ◌*◌, ◌<◌, ◌≤◌, add-zero, arith, length, get_or, ne_eqb, lt-ltb, part, test}
use Rattle.rules.specs.Ring.{capacity}
use Rattle.images.specs.Form.{Form, word, copy, irr, count, pairs, numbers, has, place, form_length, read}
use Rattle.images.specs.Image.{register_at, word_in, count_in, copy_differs, many_wait, bad_flag, unused_set, Fault, Finding, clear, found, copy_rule, count_rule, flag_rule, unused_rule, rules, search, finding, or_else, first_fault, ImageTest, accepted, broken, body_test}
use Rattle.images.proofs.laws.{Layout.has_all, Tests.search_first, Tests.finds_nothing, Tests.length_read, Tests.count_read, Tests.hold_copy, Tests.hold_count}
use Rattle.image.specs.{Shown.PlacesOf, declared.form.Places.Places, faults.Found.pair_fault, head.Good.is_accepted}
use Rattle.image.proofs.Forms.{always_at}

-- three rules that are looked at one after another, the first two together
two_and_one : (x y z : Finding) → or_else x (or_else y (or_else z clear)) ≡ or_else (or_else x y) z
two_and_one clear clear clear = refl
two_and_one clear clear (found k a) = refl
two_and_one clear (found k a) z = refl
two_and_one (found k a) y z = refl

-- the first two decide, or else the third
first_two : (x y : Finding) → (body_test x ≡ accepted → ⊥) → body_test x ≡ body_test (or_else x y)
first_two clear y n = absurd (n refl)
first_two (found k a) y n = refl

then_third : (x y : Finding) → body_test x ≡ accepted → body_test y ≡ body_test (or_else x y)
then_third clear y e = refl
then_third (found k a) y e = absurd (false≢true (ap is_accepted e))

module _ (f : Form) (l : List ℕ) (s : length l ≡ form_length f) (p : Places) (o : PlacesOf f p) where
  abbrev copies : Finding
  copies = finding f l (copy_rule (word_in f l copy) (word_in f l irr))

  abbrev rest : Finding
  rest =
      or_else (finding f l (flag_rule (count_in f l)))
      (or_else (finding f l (unused_rule pairs (count_in f l))) (or_else (finding f l (unused_rule numbers (count_in f l))) clear))

  counts : get_or l p.count 0 ≡ count_in f l
  counts = ap (λ a. get_or l a 0) (always_at f l s p o count refl)

  module _ {x y : ℕ} (e : x ≡ register_at p.last_intirr l) (g : y ≡ register_at p.intirr l) where
    -- what is compared is the copy and IRR, where the form has a copy
    is_copy : has f (word copy) ≡ true → x ≡ word_in f l copy
    is_copy h = e ∙ ap (λ a. register_at a l) (o.fields (word copy) h)

    is_irr : y ≡ word_in f l irr
    is_irr = g ∙ ap (λ a. register_at a l) (always_at f l s p o (word irr) refl)

    pub copy_told : (x ≡ y → ⊥) → broken copy_differs p.last_intirr ≡ body_test (first_fault f l (rules f l))
    copy_told n =
        test (has f (word copy))
        (λ h.
        let differs : word_in f l copy ≡ word_in f l irr → ⊥ = λ q. n (is_copy h ∙ q ∙ sym is_irr) in
        let at : place f (word copy) + 0 ≡ p.last_intirr = add-zero (place f (word copy)) ∙ sym (o.fields (word copy) h) in
        let told : search copy_differs (copy_rule (word_in f l copy) (word_in f l irr)).bad (place f (word copy)) (read f l (word copy)) ≡ found copy_differs p.last_intirr =
        search_first copy_differs (copy_rule (word_in f l copy) (word_in f l irr)).bad (place f (word copy)) (read f l (word copy)) 0 (omega (arith, length_read f l s (word copy) h))
        (λ m k. absurd (omega arith)) (rw (ne_eqb (word_in f l copy) (word_in f l irr) differs))
        ∙ ap (found copy_differs) at in
        sym (rw (h, told)))
        (λ h. absurd (n (e ∙ ap (λ a. register_at a l) (o.copy h) ∙ sym g)))

    module _ (alike : x ≡ y) where
      copy_clear : copies ≡ clear
      copy_clear =
          finds_nothing f l (copy_rule (word_in f l copy) (word_in f l irr)) (λ h. hold_copy (word_in f l copy) (word_in f l irr) (read f l (word copy)) (sym (is_copy h) ∙ alike ∙ is_irr))

      pub count_told : capacity < get_or l p.count 0 → broken many_wait p.count ≡ body_test (first_fault f l (rules f l))
      count_told h =
          let there = has_all f count refl in
          let many : capacity < get_or (read f l count) 0 0 = omega (arith, count_read f l, counts) in
          let at : place f count + 0 ≡ p.count = add-zero (place f count) ∙ sym (always_at f l s p o count refl) in
          let told : search many_wait count_rule.bad (place f count) (read f l count) ≡ found many_wait p.count =
          search_first many_wait count_rule.bad (place f count) (read f l count) 0 (omega (arith, length_read f l s count there)) (λ m k. absurd (omega arith))
          (lt-ltb capacity (get_or (read f l count) 0 0) many)
          ∙ ap (found many_wait) at in
          let found-count : finding f l count_rule ≡ found many_wait p.count = rw (there, told) in
          sym (λ i. body_test (or_else (copy_clear i) (or_else (found-count i) rest)))

      -- the rules of the pairs and then that of the numbers are left
      module _ (h : get_or l p.count 0 ≤ capacity) where
        abbrev of_pairs : Finding
        of_pairs = pair_fault p.pairs (get_or l p.count 0) (part p.pairs (2 * capacity) l)

        abbrev of_numbers : Finding
        of_numbers = finding f l (unused_rule numbers (get_or l p.count 0))

        left_over : body_test (or_else of_pairs of_numbers) ≡ body_test (first_fault f l (rules f l))
        left_over =
            let there = has_all f pairs refl in
            let few : count_in f l ≤ capacity = omega (arith, counts) in
            let n = count_in f l in
            let count-clear : finding f l count_rule ≡ clear =
            finds_nothing f l count_rule (λ k. hold_count (read f l count) (length_read f l s count k) (omega (arith, few, count_read f l))) in
            let flags : finding f l (flag_rule n) ≡ search bad_flag (flag_rule n).bad (place f pairs) (read f l pairs) = rw there in
            let unused : finding f l (unused_rule pairs n) ≡ search unused_set (unused_rule pairs n).bad (place f pairs) (read f l pairs) = rw there in
            (λ i. body_test (or_else (pair_fault (always_at f l s p o pairs refl i) (counts i) (part (always_at f l s p o pairs refl i) (2 * capacity) l)) (finding f l (unused_rule numbers (counts i)))))
            ∙ sym (ap body_test (two_and_one (search bad_flag (flag_rule n).bad (place f pairs) (read f l pairs)) (search unused_set (unused_rule pairs n).bad (place f pairs) (read f l pairs)) (finding f l (unused_rule numbers n))))
            ∙ sym (λ i. body_test (or_else (copy_clear i) (or_else (count-clear i) (or_else (flags i) (or_else (unused i) (or_else (finding f l (unused_rule numbers n)) clear))))))

        pub by_pairs : {k : Fault} {a : ℕ} → broken k a ≡ body_test of_pairs → broken k a ≡ body_test (first_fault f l (rules f l))
        by_pairs q = q ∙ first_two of_pairs of_numbers (λ t. false≢true (ap is_accepted (q ∙ t))) ∙ left_over

        pub by_numbers : accepted ≡ body_test of_pairs → {t : ImageTest} → t ≡ body_test of_numbers → t ≡ body_test (first_fault f l (rules f l))
        by_numbers q u = u ∙ then_third of_pairs of_numbers (sym q) ∙ left_over
