-- What the rules find, by what the first bad bytes are.
use Rattle.basics.proofs.Prelude.{◌≡◌, sym, ap, ◌∙◌, subst, Bool, true, List, ℕ, ◌+◌, ◌*◌, ◌<◌, ◌≤◌, arith, length, part, length_part}
use Rattle.rules.specs.Ring.{capacity}
use Rattle.images.specs.Form.{pairs, Form, size, has, place, form_length, read}
use Rattle.images.specs.Image.{Fault, bad_flag, unused_set, clear, found, Rule, flag_rule, unused_rule, search, finding, accepted, broken, body_test}
use Rattle.images.proofs.laws.Tests.{clean_search, search_first, length_read}
use Rattle.image.specs.{bad_bytes.First.First, faults.Found.pair_fault}

module _ (k : Fault) (bad : ℕ → ℕ → Bool) (a : ℕ) (l : List ℕ) (j : ℕ) (f : First bad l j) where
  pub first_found : j < length l → search k bad a l ≡ found k (a + j)
  first_found h = search_first k bad a l j h f.before (f.here h)

  pub first_clear : length l ≤ j → search k bad a l ≡ clear
  first_clear h = clean_search k bad a l (λ m g. f.before m (omega arith))

-- a rule that finds its first bad byte in the w bytes of its field
module _ (f : Form) (l : List ℕ) (s : length l ≡ form_length f) (r : Rule) where
  module _ (h : has f r.field ≡ true) {a w j : ℕ} (at : a ≡ place f r.field) (e : w ≡ size r.field) (u : First r.bad (part a w l) j) where
    in_field : First r.bad (read f l r.field) j
    in_field = subst (λ m. First r.bad m j) (λ t. part (at t) (e t) l) u

    pub rule_told : j < size r.field → found r.fault (a + j) ≡ finding f l r
    rule_told t = sym (rw h (first_found r.fault r.bad (place f r.field) (read f l r.field) j in_field (omega (arith, length_read f l s r.field h)) ∙ ap (λ b. found r.fault (b + j)) (sym at)))

    pub rule_clear : size r.field ≤ j → clear ≡ finding f l r
    rule_clear t = sym (rw h (first_clear r.fault r.bad (place f r.field) (read f l r.field) j in_field (omega (arith, length_read f l s r.field h))))

-- the rules of n waiting pairs and the unused ones, in the w bytes from place a on; flags first
module _ (a n : ℕ) (i : List ℕ) (h : a + 2 * capacity ≤ length i) {w : ℕ} (e : w ≡ 2 * capacity) where
  abbrev bytes : List ℕ
  bytes = part a (2 * capacity) i

  sized : length bytes ≡ 2 * capacity
  sized = length_part i a (2 * capacity) h

  module _ {j : ℕ} (f : First (flag_rule n).bad (part a w i) j) where
    flags_first : First (flag_rule n).bad bytes j
    flags_first = subst (λ m. First (flag_rule n).bad (part a m i) j) e f

    pub flag_told : j < 2 * capacity → broken bad_flag (a + j) ≡ body_test (pair_fault a n bytes)
    flag_told t = sym (rw (first_found bad_flag (flag_rule n).bad a bytes j flags_first (omega (arith, sized))))

    module _ (good : 2 * capacity ≤ j) {b : ℕ} (u : First (unused_rule pairs n).bad (part a w i) b) where
      unused_first : First (unused_rule pairs n).bad bytes b
      unused_first = subst (λ m. First (unused_rule pairs n).bad (part a m i) b) e u

      flags_clear : search bad_flag (flag_rule n).bad a bytes ≡ clear
      flags_clear = first_clear bad_flag (flag_rule n).bad a bytes j flags_first (omega (arith, sized))

      pub unused_told : b < 2 * capacity → broken unused_set (a + b) ≡ body_test (pair_fault a n bytes)
      unused_told t = sym (rw (flags_clear, first_found unused_set (unused_rule pairs n).bad a bytes b unused_first (omega (arith, sized))))

      pub pairs_clear : 2 * capacity ≤ b → accepted ≡ body_test (pair_fault a n bytes)
      pairs_clear t = sym (rw (flags_clear, first_clear unused_set (unused_rule pairs n).bad a bytes b unused_first (omega (arith, sized))))
