-- The rules of the bodies as one test.
use Rattle.basics.proofs.Prelude.{◌≡◌, refl, sym, ap, ◌∙◌, Bool, true, false, ◌&&◌, false≢true, and-eq-true_iff, List, ℕ, eqb, leb, length, eq-eqb, eqb-true, le-leb, leb-true, test}
use Rattle.rules.specs.Ring.{capacity}
use Rattle.images.specs.Form.{Form, word, copy, irr, pairs, has, form_length, read}
use Rattle.images.specs.Image.{word_in, count_in, rules, Finding, clear, found, first_fault}
use Rattle.images.proofs.laws.Tests.{clear_ruled, ruled_clear}
use Rattle.image.specs.{bodies.Good.is_clear, bodies.Good.bodies_good, unused.Events.pairs_good, unused.Events.numbers_good}
use Rattle.image.proofs.unused.{Overlaps.both, Pairs.pairs_good_flags, Pairs.pairs_good_unused, Pairs.good_pairs, Pairs.numbers_good_unused, Pairs.good_numbers}

pub is_clear_lem : (x : Finding) → is_clear x ≡ true → x ≡ clear
is_clear_lem clear e = refl
is_clear_lem (found k a) e = absurd (false≢true e)

-- x and y stand for what code compares: the copy and IRR, or IRR twice in a form without a copy
module _ (f : Form) (l : List ℕ) (s : length l ≡ form_length f) (x y : ℕ)
    (there : has f (word copy) ≡ true → x ≡ word_in f l copy) (lacks : has f (word copy) ≡ false → x ≡ y) (line : y ≡ word_in f l irr) where
  abbrev pub body_tests : Bool
  body_tests = pairs_good (count_in f l) (read f l pairs) && numbers_good f (count_in f l) l

  abbrev pub rule_tests : Bool
  rule_tests = eqb x y && (leb (count_in f l) capacity && body_tests)

  pub rules_tested : bodies_good f l ≡ rule_tests
  rules_tested = both (bodies_good f l) rule_tests one_way other_way
    where
      one_way : bodies_good f l ≡ true → rule_tests ≡ true
      one_way e =
          let r = clear_ruled f l s (is_clear_lem (first_fault f l (rules f l)) e) in
          let same : x ≡ y = test (has f (word copy)) (λ h. there h ∙ r.copied h ∙ sym line) lacks in
          rw (
            eq-eqb x y same,
            le-leb (count_in f l) capacity r.counted,
            good_pairs (count_in f l) (read f l pairs) r.flagged r.unused,
            good_numbers f (count_in f l) l r.spare,
          )

      other_way : rule_tests ≡ true → bodies_good f l ≡ true
      other_way t =
          let p = (and-eq-true_iff (eqb x y) (leb (count_in f l) capacity && body_tests)).0 t in
          let q = (and-eq-true_iff (leb (count_in f l) capacity) body_tests).0 p.1 in
          let r = (and-eq-true_iff (pairs_good (count_in f l) (read f l pairs)) (numbers_good f (count_in f l) l)).0 q.1 in
          ap is_clear (ruled_clear f l s (record {
            copied = λ h. sym (there h) ∙ eqb-true x y p.0 ∙ line;
            counted = leb-true (count_in f l) capacity q.0;
            flagged = pairs_good_flags (count_in f l) (read f l pairs) r.0;
            unused = pairs_good_unused (count_in f l) (read f l pairs) r.0;
            spare = numbers_good_unused f (count_in f l) l r.1;
          }))
