-- A block in each round: what is found of it, and what is counted.
use Rattle.basics.proofs.Prelude.{◌≡◌, refl, sym, ap, ◌∙◌, Bool, true, false, false≢true, List, ℕ, ◌+◌, ◌-◌, ◌*◌, ◌<◌, ◌≤◌, arith, eqb, length, get_or, set, get_or-set_same, get_or-set_other, eqb-true, eqb-false, test}
use Rattle.traces.specs.Trace.{most_blocks, most_records, record_length, block_count, listed_at, block_at, record_at, is_bad, first_bad}
use Rattle.traces.specs.salvages.Kept.{body_of, bodies_from, bodies, records_of, bad_in, all_good, kept, joined}
use Rattle.traces.proofs.laws.{Contents.contents_have, Firsts.first_found}
use Rattle.traces.proofs.salvages.laws.Chosen.{kept_or_dropped, kept_shorter, joined_none, length_joined}
use Rattle.traces.proofs.salvages.laws.Taken.{Within, within, entry_within, its_length, its_records, its_bad, next_kept, next_torn, none_kept, all_left, bodies_fit}
use Rattle.std.specs.Prelude.{Option, Some, is_some}
use Rattle.pch_pic_salvage.specs.torn.Found.{Lists, BadIn, Seen, left_of, bad_unless}

-- ---- a block that is listed

module _ (l : List ℕ) {n : ℕ} (k : Lists l n) (b : ℕ) (h : b < n) where
  listed : b < block_count l
  listed = omega (arith, h, k.count)

  pub few_blocks : n ≤ most_blocks
  few_blocks = omega (arith, k.count, (contents_have l k.contents).few)

  pub its_entry : listed_at b + 4 ≤ length l
  its_entry = omega (arith, entry_within l k.contents b listed)

  pub lies : Within l most_records b
  lies = within l k.contents b listed

  pub size : length (body_of b l) ≡ record_length * (block_at b l).records
  size = its_length l k.contents b listed

  pub records_are : records_of (body_of b l) ≡ (block_at b l).records
  records_are = its_records l k.contents b listed

  -- the first bad record from its place on is the first bad one in it
  pub bad_is : {place m r : ℕ} → place ≡ (block_at b l).offset → m ≡ (block_at b l).records → r ≡ first_bad (λ j. is_bad (record_at (place + record_length * j) l)) m 0 → r ≡ bad_in (body_of b l)
  bad_is p q e = e ∙ (λ t. first_bad (λ j. is_bad (record_at (p t + record_length * j) l)) (q t) 0) ∙ sym (its_bad l k.contents b listed)

  -- no further than behind its records
  pub short : bad_in (body_of b l) ≤ most_records
  short = omega (arith, (first_found (λ j. is_bad (record_at (record_length * j) (body_of b l))) (records_of (body_of b l)) 0).reach, records_are, lies.few)

  -- what the survey knows of it
  pub seen : (bads : List ℕ) → BadIn bads l n → Seen bads l b
  seen bads f = record { entry = its_entry; few = omega (arith, few_blocks); size = records_are; bad = f b h; short = short }

-- ---- what is left is never more than there is

module _ (l : List ℕ) {n : ℕ} (k : Lists l n) where
  pub few_left : length (left_of n l) ≤ most_blocks
  few_left = omega (arith, (bodies_fit l k.contents).few, kept_or_dropped 0 (bodies l), ap (λ m. length (left_of m l)) k.count)

  pub few_records : length (joined (left_of n l)) ≤ record_length * most_records
  few_records = omega (arith, (bodies_fit l k.contents).most, kept_shorter (bodies l), ap (λ m. length (joined (left_of m l))) k.count)

-- ---- a round of the survey

pub none_found : (bads l : List ℕ) → BadIn bads l 0
none_found bads l b h = absurd (omega arith)

pub one_found : (bads l : List ℕ) (b : ℕ) {r : ℕ} → b < length bads → BadIn bads l b → r ≡ bad_in (body_of b l) → BadIn (set bads b r) l (b + 1)
one_found bads l b {r} long f e c h =
    test (eqb c b)
    (λ t. let z = eqb-true c b t in ap (λ k. get_or (set bads b r) k 0) z ∙ get_or-set_same bads b r 0 long ∙ e ∙ ap (λ k. bad_in (body_of k l)) (sym z))
    (λ t. let z = eqb-false c b t in get_or-set_other bads b c r 0 z ∙ f c (omega (arith, z)))

-- ---- a round of the count

-- those counted, and those among the blocks that are left
pub record Counted (l : List ℕ) (n b left all : ℕ) : Type 0 where
  pub upto : b ≤ n
  pub blocks : left + length (kept (bodies_from (n - b) b l)) ≡ length (kept (bodies_from n 0 l))
  pub records : record_length * all + length (joined (kept (bodies_from (n - b) b l))) ≡ length (joined (kept (bodies_from n 0 l)))

pub none_counted : (l : List ℕ) (n : ℕ) → Counted l n 0 0 0
none_counted l n =
    let z = all_left l n in
    record { upto = omega arith; blocks = omega (arith, ap (λ xs. length (kept xs)) z); records = omega (arith, ap (λ xs. length (joined (kept xs))) z) }

pub as_counted : (l : List ℕ) (n b : ℕ) {left all left₂ all₂ : ℕ} → Counted l n b left all → left₂ ≡ left → all₂ ≡ all → Counted l n b left₂ all₂
as_counted l n b c p q = record { upto = c.upto; blocks = omega (arith, c.blocks, p); records = omega (arith, c.records, q) }

pub all_counted : (l : List ℕ) (n b left all : ℕ) → Counted l n b left all → n ≤ b
    → (left ≡ length (kept (bodies_from n 0 l))) × (record_length * all ≡ length (joined (kept (bodies_from n 0 l))))
all_counted l n b left all c h =
    let e = none_kept l n b h in
    (omega (arith, c.blocks, ap length e), omega (arith, c.records, ap (λ xs. length (joined xs)) e, ap length joined_none))

module _ (l : List ℕ) {n : ℕ} (k : Lists l n) (b : ℕ) (h : b < n) (left all : ℕ) (c : Counted l n b left all) where
  pub left_below : left ≤ most_blocks
  left_below = omega (arith, c.blocks, few_left l k)

  pub all_below_lem : all ≤ most_records
  all_below_lem = omega (arith, c.records, few_records l k)

  pub kept_counted : {m : ℕ} → m ≡ (block_at b l).records → all_good (body_of b l) ≡ true → Counted l n (b + 1) (left + 1) (all + m)
  kept_counted q t =
      let e = next_kept l n b h t in
      record {
        upto = omega arith;
        blocks = omega (arith, c.blocks, ap length e);
        records = omega (arith, c.records, ap (λ xs. length (joined xs)) e, length_joined (body_of b l) (kept (bodies_from (n - (b + 1)) (b + 1) l)), size l k b h, q);
      }

  pub torn_passed : all_good (body_of b l) ≡ false → Counted l n (b + 1) left all
  torn_passed t =
      let e = next_torn l n b h t in
      record { upto = omega arith; blocks = omega (arith, c.blocks, ap length e); records = omega (arith, c.records, ap (λ xs. length (joined xs)) e) }

-- ---- what is told of a block, if anything is bad in it

pub none_bad : {o : Option ℕ} (t : Bool) (k : ℕ) → o ≡ bad_unless t k → is_some o ≡ false → t ≡ true
none_bad true k e f = refl
none_bad false k e f = absurd (false≢true (sym f ∙ ap is_some e))

pub some_bad : {o : Option ℕ} (t : Bool) (k : ℕ) → o ≡ bad_unless t k → is_some o ≡ true → t ≡ false
some_bad true k e f = absurd (false≢true (sym (ap is_some e) ∙ f))
some_bad false k e f = refl

pub bad_told : {m : ℕ} (t : Bool) (k : ℕ) → Some m ≡ bad_unless t k → (t ≡ false) × (m ≡ k)
bad_told true k e = absurd (cc)
bad_told false k e = (refl, cc)
