-- The records of a trace as the items of a day, one more at a time.
use Rattle.basics.proofs.Prelude.{◌≡◌, refl, sym, ap, subst, ◌∙◌, List, [], ◌∷◌, ◌++◌, map, append-nil, append_assoc, ℕ, zero, suc, ◌+◌, zero-add, arith, eqb, length, test}
use Rattle.rules.specs.Device.{Device, WellFormed, Call}
use Rattle.calls.specs.Calls.{Tested, pass, refuse, Asked, calls, asked_by}
use Rattle.histories.proofs.laws.WellFormed.{step_well}
use Rattle.plain.specs.Sequence.{Item, call, load, refused}
use Rattle.traces.specs.{Trace.Record, Trace.nth, Played.request_of, Played.records_from}
use Rattle.sheets.specs.Day.{as_item, item_of}
use Rattle.passes.specs.{tallies.Marks.Mark, tallies.Marks.item_marks, tallies.Marks.item_after, tallies.Marks.day_marks, Slots.NoLoad, Finish.after_items}

-- ---- one record more

pub after_last : (xs : List Item) (x : Item) (d : Device) → after_items d (xs ++ (x ∷ [])) ≡ item_after (after_items d xs) x
unfolding after_items
after_last [] x d = refl
after_last (y ∷ xs) x d = after_last xs x (item_after d y)

pub marks_last : (xs : List Item) (x : Item) (k : ℕ) (d : Device) → day_marks k d (xs ++ (x ∷ [])) ≡ day_marks k d xs ++ item_marks (k + length xs) (after_items d xs) x
unfolding day_marks after_items
marks_last [] x k d = append-nil (item_marks k d x) ∙ (let z : k ≡ k + 0 = omega arith in ap (λ j. item_marks j d x) z)
marks_last (y ∷ xs) x k d =
    let z : k + 1 + length xs ≡ k + length (y ∷ xs) = omega arith in
    ap (λ (ms : List Mark). item_marks k d y ++ ms) (marks_last xs x (k + 1) (item_after d y) ∙ ap (λ j. day_marks (k + 1) (item_after d y) xs ++ item_marks j (after_items (item_after d y) xs) x) z)
    ∙ sym (append_assoc (item_marks k d y) (day_marks (k + 1) (item_after d y) xs) (item_marks (k + length (y ∷ xs)) (after_items (item_after d y) xs) x))

records_last : (l : List ℕ) (n k : ℕ) → map item_of (records_from l (suc n) k) ≡ map item_of (records_from l n k) ++ (item_of (nth l (k + n)) ∷ [])
unfolding records_from
records_last l zero k = let z : k ≡ k + 0 = omega arith in ap (λ j. item_of (nth l j) ∷ []) z
records_last l (suc n) k =
    let z : suc k + n ≡ k + suc n = omega arith in
    ap (λ xs. item_of (nth l k) ∷ xs) (records_last l n (suc k) ∙ ap (λ j. map item_of (records_from l n (suc k)) ++ (item_of (nth l j) ∷ [])) z)

pub items_last : (l : List ℕ) (k : ℕ) → map item_of (records_from l (k + 1) 0) ≡ map item_of (records_from l k 0) ++ (item_of (nth l k) ∷ [])
items_last l k =
    let z : k + 1 ≡ suc k = omega arith in
    ap (λ j. map item_of (records_from l j 0)) z ∙ records_last l k 0 ∙ ap (λ j. map item_of (records_from l k 0) ++ (item_of (nth l j) ∷ [])) (zero-add k)

pub items_length : (l : List ℕ) (n k : ℕ) → length (map item_of (records_from l n k)) ≡ n
unfolding records_from
items_length l zero k = refl
items_length l (suc n) k = omega (arith, items_length l n (suc k))

-- ---- no record is a load

record Called (a : Asked) : Type 0 where
  what : Tested Call
  is : a ≡ calls what

request_called : (r : Record) → Called (asked_by (request_of r))
unfolding request_of
request_called r =
    test (eqb r.kind 1) (λ t. rw t (record { what = _; is = refl }))
    (λ t. test (eqb r.kind 2) (λ u. rw (t, u) (record { what = _; is = refl }))
    (λ u. test (eqb r.kind 3) (λ v. rw (t, u, v) (record { what = _; is = refl }))
    (λ v. test (eqb r.kind 4) (λ w. rw (t, u, v, w) (record { what = _; is = refl }))
    (λ w. test (eqb r.kind 5) (λ x. rw (t, u, v, w, x) (record { what = _; is = refl })) (λ x. rw (t, u, v, w, x) (record { what = _; is = refl }))))))

asked_loadless : (t : Tested Call) (xs : List Item) → NoLoad xs → NoLoad (as_item (calls t) ∷ xs)
asked_loadless (pass c) xs l = l
asked_loadless (refuse r) xs l = l

pub item_loadless : (r : Record) (xs : List Item) → NoLoad xs → NoLoad (item_of r ∷ xs)
item_loadless r xs l = let c = request_called r in subst (λ a. NoLoad (as_item a ∷ xs)) (sym c.is) (asked_loadless c.what xs l)

pub items_loadless : (rs : List Record) → NoLoad (map item_of rs)
items_loadless [] = tt
items_loadless (r ∷ rs) = item_loadless r (map item_of rs) (items_loadless rs)

pub item_well : (x : Item) (d : Device) → NoLoad (x ∷ []) → WellFormed d → WellFormed (item_after d x)
item_well (call c) d l w = step_well d c w
item_well (load e) d l w = absurd l
item_well refused d l w = w
