-- How a salvage ends, by the test that decides it: one law for each way; and the sizes that are tested.
use Rattle.basics.proofs.Prelude.{◌≡◌, refl, sym, ap, ◌∙◌, Bool, true, false, ◌&&◌, and-false, List, ℕ, ◌+◌, ◌-◌, ◌*◌, ◌<◌, ◌≤◌, arith, leb, length, eq-eqb, ne_eqb, le-leb, lt-leb, put_mid, part}
use Rattle.std.proofs.Common.{Ok, Err, Some, None}
use Rattle.trace.specs.declared.contents.Records.{Records}
use Rattle.trace.specs.contents.Found.{contents_if, contents_as}
use Rattle.rules.specs.Device.{some}
use Rattle.traces.specs.{Trace.block_count, Trace.first_place, Trace.record_count, Trace.contents_good, plays.Playing.in_front}
use Rattle.traces.specs.salvages.Kept.{bodies_from, bodies, kept, dropped_from, joined, trace_of, new_trace, drop_list}
use Rattle.traces.specs.salvages.Salvaging.{is_empty, salvage_ends, salvage_ending}
use Rattle.traces.proofs.{laws.Contents.contents_have, plays.laws.InFront.front_rest, salvages.laws.Chosen.kept_or_dropped, salvages.laws.Chosen.length_entries}
use Rattle.traces.proofs.salvages.{laws.Built.length_contents, laws.Built.length_trace, laws.Taken.length_bodies, demands.Left.by_tests}
use Rattle.answer.specs.declared.refusals.Refusal.TheVariants.{TraceContents, NothingLeft, NoRoom}
use Rattle.pch_pic_salvage.proofs.torn.Rounds.{few_left, few_records}
use Rattle.pch_pic_salvage.specs.{torn.Found.Lists, torn.Found.left_of, torn.Found.Counts, declared.torn.Left.Left, rebuilt.Given.new_contents, rebuilt.Given.new_blocks, rebuilt.Given.new_list, salvage.Ends.ends}

-- ---- the answer about the contents

pub told_wrong : (l : List ℕ) → None ≡ contents_as l → contents_good l ≡ false
told_wrong l = go (contents_good l)
  where
    go : (t : Bool) → None ≡ contents_if t (first_place l) (record_count l) → t ≡ false
    go true e = absurd (cc)
    go false e = refl

pub told_good : (l : List ℕ) {r : Records} → Some r ≡ contents_as l → contents_good l ≡ true
told_good l {r} = go (contents_good l)
  where
    go : (t : Bool) → Some r ≡ contents_if t (first_place l) (record_count l) → t ≡ true
    go true e = refl
    go false e = absurd (cc)

pub listed_by : (l : List ℕ) {r : Records} → Some r ≡ contents_as l → {n : ℕ} → n ≡ block_count l → Lists l n
listed_by l e c = record { contents = told_good l e; count = c }

pub has_count : (l : List ℕ) → contents_good l ≡ true → 2 ≤ length l
has_count l g = omega (arith, (contents_have l g).ends)

-- ---- sizes

module _ (l : List ℕ) {n : ℕ} (k : Lists l n) where
  -- what is left of so many blocks as the contents list
  same_left : left_of n l ≡ kept (bodies l)
  same_left = ap (λ m. left_of m l) k.count

  same_list : new_list n l ≡ drop_list l
  same_list = ap (λ m. new_list m l) k.count

  pub size_contents : length (new_contents n l) ≡ 2 + 4 * length (left_of n l)
  size_contents = length_contents (left_of n l)

  pub size_new : length (trace_of (left_of n l)) ≡ 2 + 4 * length (left_of n l) + length (joined (left_of n l))
  size_new = length_trace (left_of n l)

  all_accounted : length (left_of n l) + length (dropped_from 0 (bodies_from n 0 l)) ≡ n
  all_accounted = kept_or_dropped 0 (bodies_from n 0 l) ∙ length_bodies l n 0

  pub size_list : length (new_list n l) ≡ 4 * (n - length (left_of n l))
  size_list = omega (arith, length_entries (dropped_from 0 (bodies_from n 0 l)), all_accounted)

  pub left_of_all : length (left_of n l) ≤ n
  left_of_all = omega (arith, all_accounted)

  -- the blocks behind the contents are the new trace
  pub contents_then_blocks : (ks : List ℕ) {m at : ℕ} {ks₁ zs : List ℕ} → ks₁ ≡ in_front (new_contents n l) ks → at ≡ length (new_contents n l) → m ≡ length ks₁ - at → zs ≡ in_front (new_blocks n l) (part at m ks₁)
      → put_mid at m ks₁ zs ≡ in_front (trace_of (left_of n l)) ks
  contents_then_blocks ks {m} {at} {ks₁} e p q f =
      ap (put_mid at m ks₁) f ∙ (λ t. put_mid (p t) m (e t) (in_front (new_blocks n l) (part (p t) m (e t))))
      ∙ front_rest (new_contents n l) ks (new_blocks n l) m (q ∙ (λ t. length (e t) - p t))

  -- what is left, counted
  module _ {r : Left} (q : Counts r l n) where
    pub few : r.blocks ≤ 64
    few = omega (arith, q.blocks, few_left l k)

    pub short : 16 * r.records ≤ 64000
    short = omega (arith, q.records, few_records l k)

    pub its_length : 2 + 4 * r.blocks + 16 * r.records ≡ length (trace_of (left_of n l))
    its_length = omega (arith, q.blocks, q.records, size_new)

-- ---- the ways that it ends

module _ (l ks ds : List ℕ) where
  pub no_contents : contents_good l ≡ false → ends (Err TraceContents) ks ds ≡ salvage_ending l ks ds
  no_contents g = sym (ap (λ t. salvage_ends t l ks ds) (by_tests l ks ds g refl refl))

  module _ {n : ℕ} (k : Lists l n) where
    pub no_block : length (left_of n l) ≡ 0 → ends (Err NothingLeft) ks ds ≡ salvage_ending l ks ds
    no_block e = sym (ap (λ t. salvage_ends t l ks ds) (by_tests l ks ds k.contents (eq-eqb (length (kept (bodies l))) 0 (ap length (sym (same_left l k)) ∙ e)) refl))

    module _ (some_left : length (left_of n l) ≡ 0 → ⊥) where
      any : is_empty l ≡ false
      any = ne_eqb (length (kept (bodies l))) 0 (λ z. some_left (ap length (same_left l k) ∙ z))

      new : length (new_trace l) ≡ length (trace_of (left_of n l))
      new = ap (λ xs. length (trace_of xs)) (sym (same_left l k))

      dropped : length (drop_list l) ≡ length (new_list n l)
      dropped = ap length (sym (same_list l k))

      pub no_second : length ks < length (trace_of (left_of n l)) → ends (Err NoRoom) ks ds ≡ salvage_ending l ks ds
      no_second h =
          let t : leb (length (new_trace l)) (length ks) ≡ false = lt-leb (length (new_trace l)) (length ks) (omega (arith, h, new)) in
          sym (ap (λ t. salvage_ends t l ks ds) (by_tests l ks ds k.contents any (ap (λ b. b && leb (length (drop_list l)) (length ds)) t)))

      pub no_list : length ds < length (new_list n l) → ends (Err NoRoom) ks ds ≡ salvage_ending l ks ds
      no_list h =
          let t : leb (length (drop_list l)) (length ds) ≡ false = lt-leb (length (drop_list l)) (length ds) (omega (arith, h, dropped)) in
          sym (ap (λ t. salvage_ends t l ks ds) (by_tests l ks ds k.contents any (ap (λ b. leb (length (new_trace l)) (length ks) && b) t ∙ and-false (leb (length (new_trace l)) (length ks)))))

      pub salvaged : length (trace_of (left_of n l)) ≤ length ks → length (new_list n l) ≤ length ds → {m : ℕ} → m ≡ length (trace_of (left_of n l))
          → {ks₂ ds₂ : List ℕ} → ks₂ ≡ in_front (trace_of (left_of n l)) ks → ds₂ ≡ in_front (new_list n l) ds → ends (Ok (Some m)) ks₂ ds₂ ≡ salvage_ending l ks ds
      salvaged h g e p q =
          (λ s. record {
            number = 0;
            value = some ((e ∙ sym new) s);
            second = (p ∙ ap (λ xs. in_front (trace_of xs) ks) (same_left l k)) s;
            list = (q ∙ ap (λ x. in_front x ds) (same_list l k)) s;
          })
          ∙ sym (ap (λ t. salvage_ends t l ks ds) (by_tests l ks ds k.contents any
          (λ s. le-leb (length (new_trace l)) (length ks) (omega (arith, h, new)) s && le-leb (length (drop_list l)) (length ds) (omega (arith, g, dropped)) s)))
