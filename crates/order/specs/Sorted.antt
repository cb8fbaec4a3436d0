-- Numbered events put in order (02, C-19, C-20): in whatever order they were collected, by an order of any two of them; and by the difference of their numbers from that of one.
use Rattle.std.specs.Prelude.{Bool, true, false, cond, List, [], ◌∷◌, ℕ, zero, suc}
use Rattle.std.specs.Int.Signed.{le_z}
use Rattle.rules.specs.Numbering.{Numbered}
use Rattle.difference.specs.Difference.{difference_of}
use Rattle.order.specs.Fates.{Fate, is_returned, is_kept, is_dropped, Placed}

-- the same elements in another order: neighbours are exchanged, as often as one will
pub data Rearranged {A : Type 0} : (xs ys : List A) → Type 0 where
  same : {xs : List A} → Rearranged xs xs
  behind : {x : A} {xs ys : List A} → Rearranged xs ys → Rearranged (x ∷ xs) (x ∷ ys)
  exchanged : {x y : A} {xs : List A} → Rearranged (x ∷ y ∷ xs) (y ∷ x ∷ xs)
  both : {xs ys zs : List A} → Rearranged xs ys → Rearranged ys zs → Rearranged xs zs

-- one put among others: in front of the first that it does not come after
unfoldable pub put_by : (not_after : Numbered → Numbered → Bool) → Numbered → List Numbered → List Numbered
put_by not_after x [] = x ∷ []
put_by not_after x (y ∷ ys) = cond (not_after x y) (x ∷ y ∷ ys) (y ∷ put_by not_after x ys)

unfoldable pub sorted_by : (not_after : Numbered → Numbered → Bool) → List Numbered → List Numbered
sorted_by not_after [] = []
sorted_by not_after (x ∷ xs) = put_by not_after x (sorted_by not_after xs)

-- by how far they are ahead of the event with the number `from`, as pch_pic_difference tells it
abbrev pub not_ahead : (from : ℕ) → Numbered → Numbered → Bool
not_ahead from x y = le_z (difference_of x.number from) (difference_of y.number from)

abbrev pub by_difference : (from : ℕ) → List Numbered → List Numbered
by_difference from xs = sorted_by (not_ahead from) xs

-- ---- what was handed back, in the order of making

-- a returned event was handed back, and a kept one where not all of the m drained ones came before it
abbrev pub is_out : Fate → ℕ → Bool
is_out is_returned m = true
is_out is_kept zero = false
is_out is_kept (suc m) = true
is_out is_dropped m = false

-- how many of the drained ones are to come after it
abbrev pub still_drained : Fate → ℕ → ℕ
still_drained is_returned m = m
still_drained is_kept zero = 0
still_drained is_kept (suc m) = m
still_drained is_dropped m = m

-- of the events made those that were handed back, where m were drained
unfoldable pub handed_back_of : ℕ → List Placed → List Placed
handed_back_of m [] = []
handed_back_of m (x ∷ xs) =
    let rest = handed_back_of (still_drained x.fate m) xs in
    cond (is_out x.fate m) (x ∷ rest) rest
