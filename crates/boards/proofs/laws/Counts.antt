-- Counts: a board by its counts, and what the touched inputs take away and add.
use Rattle.basics.proofs.Prelude.{agree, agreed, table₃, ◌≡◌, refl, sym, ap, ◌∙◌, ◌⊎◌, inl, inr, Bool, true, false, cond, not, ◌&&◌, ◌||◌, and-false, false≢true, List, [], ◌∷◌, map, ℕ, zero, suc, ◌+◌, ◌<◌, ◌≤◌, arith, eqb, length, take, get_or, length-take, length-map, ext_get_or, eqb-true, on, inputs, test, first_has}
use Rattle.rules.{specs.Lines.served_in, specs.Core.Core, specs.Device.up_from, specs.Account.carries, specs.Account.carrying, proofs.laws.Counts.split, proofs.laws.Counts.size_ext}
use Rattle.boards.specs.Board.{counts_by, recount, touched, carrying_with, brought_count, brought_by, Touching}
use Rattle.images.proofs.laws.Saved.{length_up_from}
use Rattle.histories.proofs.laws.Admitting.{counts_up}
use Rattle.boards.proofs.laws.Computed as computed

-- ---- a board by its counts

map_get : (f : ℕ → ℕ) (l : List ℕ) (i : ℕ) → i < length l → get_or (map f l) i 0 ≡ f (get_or l i 0)
map_get f [] i h = absurd (omega arith)
map_get f (x ∷ l) zero h = refl
map_get f (x ∷ l) (suc i) h = map_get f l i (omega arith)

pub counts_length : (f : ℕ → ℕ) → length (counts_by f) ≡ 256
unfolding counts_by
counts_length f = length-map (up_from 0 256) f ∙ length_up_from 0 256

-- so a board that is right for a core has all its counts
pub right_is_whole : (b : List ℕ) (c : Core) → take 256 b ≡ recount c → 256 ≤ length b
right_is_whole b c e = omega (arith, length-take 256 b, ap length e, counts_length (λ v. carrying v c))

pub counts_get : (f : ℕ → ℕ) (v : ℕ) → v < 256 → get_or (counts_by f) v 0 ≡ f v
unfolding counts_by
counts_get f v h = map_get f (up_from 0 256) v (omega (arith, length_up_from 0 256)) ∙ ap f (counts_up 0 256 v h ∙ omega arith)

pub counts_are : (b : List ℕ) (f : ℕ → ℕ) → length b ≡ 256 → ((v : ℕ) → v < 256 → get_or b v 0 ≡ f v) → b ≡ counts_by f
counts_are b f l e =
    ext_get_or 0 b (counts_by f) (l ∙ sym (counts_length f)) (λ v h. let below : v < 256 = omega (arith, l) in e v below ∙ sym (counts_get f v below))

pub counts_ext : (f g : ℕ → ℕ) → ((v : ℕ) → v < 256 → f v ≡ g v) → counts_by f ≡ counts_by g
counts_ext f g e = counts_are (counts_by f) g (counts_length f) (λ v h. counts_get f v h ∙ e v h)

-- ---- what the touched inputs take away and add

swap : (a p t : Bool) → ((a && p) && t) ≡ (a && (t && p))
swap = table₃ agree agreed _ _ refl

-- an input that is not touched counts as it counted
as_before : (a b : Bool) (x y v : ℕ) → let t = cond a (not b) b || not (eqb x y) in ((a && eqb x v) && not t) ≡ ((b && eqb y v) && not t)
as_before true true x y v = test (eqb x y) (λ e. rw (e, eqb-true x y e)) (λ e. rw e (and-false (eqb x v) ∙ sym (and-false (eqb y v))))
as_before true false x y v = and-false (eqb x v)
as_before false true x y v = sym (and-false (eqb y v))
as_before false false x y v = refl

module _ (v : ℕ) (c d : Core) where
  -- of those in service that carry v in c, or in d, the touched ones and the others
  abbrev untouched : Core → ℕ
  untouched e = length (inputs (λ n. served_in (carries v e.vectors) e.lines n && not (touched c d n)))

  in_parts : (e : Core) → carrying v e ≡ carrying_with (touched c d) v e + untouched e
  in_parts e =
      let served = served_in (carries v e.vectors) e.lines in
      let same = size_ext (λ n. served n && touched c d n) (served_in (λ n. touched c d n && carries v e.vectors n) e.lines)
      (λ i b. swap (on e.lines.isr i) (carries v e.vectors i) (touched c d i)) in
      omega (arith, split 0 64 served (touched c d), same)

  untouched_stay : untouched c ≡ untouched d
  untouched_stay =
      size_ext (λ n. served_in (carries v c.vectors) c.lines n && not (touched c d n)) (λ n. served_in (carries v d.vectors) d.lines n && not (touched c d n))
      (λ i b. as_before (on c.lines.isr i) (on d.lines.isr i) (get_or c.vectors i 0) (get_or d.vectors i 0) v)

  -- a right count comes to a right count
  pub brought_count_lem : brought_count c d v (carrying v c) ≡ carrying v d
  brought_count_lem = omega (arith, in_parts c, in_parts d, untouched_stay)

  -- one of the touched inputs carried v or carries it, or the count is as it was
  pub touching_or_same : Touching v c d ⊎ (carrying v d ≡ carrying v c)
  touching_or_same = before (inputs (served_in (λ n. touched c d n && carries v c.vectors n) c.lines)) refl
    where
      both : (a t p : Bool) → (a && (t && p)) ≡ true → (t ≡ true) × (p ≡ true)
      both true true true e = (refl, refl)
      both true true false e = (refl, e)
      both true false p e = absurd (false≢true e)
      both false t p e = absurd (false≢true e)

      after : carrying_with (touched c d) v c ≡ 0 → (ns : List ℕ) → inputs (served_in (λ n. touched c d n && carries v d.vectors n) d.lines) ≡ ns
          → Touching v c d ⊎ (carrying v d ≡ carrying v c)
      after z [] e = inr (omega (arith, in_parts c, in_parts d, untouched_stay, z, ap length e))
      after z (n ∷ ns) e =
          let r = first_has 0 64 (served_in (λ n. touched c d n && carries v d.vectors n) d.lines) n ns e in
          let p = both (on d.lines.isr n) (touched c d n) (carries v d.vectors n) r.0 in
          inl (record { input = n; below = r.1; changed = p.0; carried = test (carries v c.vectors n) (λ t. rw t) (λ t. rw t p.1) })

      before : (ns : List ℕ) → inputs (served_in (λ n. touched c d n && carries v c.vectors n) c.lines) ≡ ns → Touching v c d ⊎ (carrying v d ≡ carrying v c)
      before [] e = after (ap length e) (inputs (served_in (λ n. touched c d n && carries v d.vectors n) d.lines)) refl
      before (n ∷ ns) e =
          let r = first_has 0 64 (served_in (λ n. touched c d n && carries v c.vectors n) c.lines) n ns e in
          let p = both (on c.lines.isr n) (touched c d n) (carries v c.vectors n) r.0 in
          inl (record { input = n; below = r.1; changed = p.0; carried = rw p.1 })

-- a right board comes to a right board
pub brought_right : (c d : Core) → brought_by c d (recount c) ≡ recount d
brought_right c d =
    counts_ext (λ v. brought_count c d v (get_or (recount c) v 0)) (λ v. carrying v d)
    (λ v h. ap (brought_count c d v) (counts_get (λ u. carrying u c) v h) ∙ brought_count_lem v c d)
