-- The sheet: a row of ten numbers for each input, and one for the total (02, C-21).
use Rattle.std.specs.Prelude.{Bool, true, false, not, ◌&&◌, List, [], ◌∷◌, ◌++◌, ℕ, zero, suc, ◌+◌, ◌*◌, max, eqb, get_or}
use Rattle.basics.specs.Numbers.{bytes_of}
use Rattle.rules.specs.Account.{tally}
use Rattle.plain.specs.Events.{Fate, returned, kept, dropped, Note}
use Rattle.sheets.specs.Day.{Day, day_of}
use Rattle.sheets.specs.Waits.{raises, lowers, assert_of, deassert_of, waits, greatest, is_withdrawn, is_open}

-- ---- a row

pub record Row : Type 0 where
  pub raises : ℕ
  pub lowers : ℕ
  pub asserts : ℕ
  pub deasserts : ℕ
  pub returned : ℕ
  pub offered : ℕ
  pub dropped : ℕ
  pub greatest : ℕ
  pub withdrawn : ℕ
  pub still_open : ℕ

-- a row's numbers in their order
abbrev pub column_of : Row → ℕ → ℕ
column_of r c =
    get_or (r.raises ∷ r.lowers ∷ r.asserts ∷ r.deasserts ∷ r.returned ∷ r.offered ∷ r.dropped ∷ r.greatest ∷ r.withdrawn ∷ r.still_open ∷ []) c 0

-- an event was returned, or offered; of the offered ones some were dropped
abbrev pub is_returned : Fate → Bool
is_returned returned = true
is_returned kept = false
is_returned dropped = false

abbrev pub is_dropped : Fate → Bool
is_dropped returned = false
is_dropped kept = false
is_dropped dropped = true

abbrev pub returned_of : ℕ → Note → Bool
returned_of n x = is_returned x.fate && eqb x.input n

abbrev pub offered_of : ℕ → Note → Bool
offered_of n x = not (is_returned x.fate) && eqb x.input n

abbrev pub dropped_of : ℕ → Note → Bool
dropped_of n x = is_dropped x.fate && eqb x.input n

-- input n's row: records that were done, events of the history, asserts and deasserts alike, and waits
unfoldable pub row_of : Day → ℕ → Row
row_of d n = record {
  raises = tally (raises n) d.moments;
  lowers = tally (lowers n) d.moments;
  asserts = tally (assert_of n) d.history;
  deasserts = tally (deassert_of n) d.history;
  returned = tally (returned_of n) d.history;
  offered = tally (offered_of n) d.history;
  dropped = tally (dropped_of n) d.history;
  greatest = greatest (waits n d.moments);
  withdrawn = tally is_withdrawn (waits n d.moments);
  still_open = tally is_open (waits n d.moments);
}

-- ---- the total

abbrev pub empty_row : Row
empty_row = record { raises = 0; lowers = 0; asserts = 0; deasserts = 0; returned = 0; offered = 0; dropped = 0; greatest = 0; withdrawn = 0; still_open = 0 }

-- two rows in one: the sum of each column, and of the waits the greater
abbrev pub together : Row → Row → Row
together x y = record {
  raises = x.raises + y.raises;
  lowers = x.lowers + y.lowers;
  asserts = x.asserts + y.asserts;
  deasserts = x.deasserts + y.deasserts;
  returned = x.returned + y.returned;
  offered = x.offered + y.offered;
  dropped = x.dropped + y.dropped;
  greatest = max x.greatest y.greatest;
  withdrawn = x.withdrawn + y.withdrawn;
  still_open = x.still_open + y.still_open;
}

-- the rows below n in one
unfoldable pub total_below : ℕ → (ℕ → Row) → Row
total_below zero f = empty_row
total_below (suc n) f = together (total_below n f) (f n)

-- ---- the bytes

-- ten numbers of so many bytes each, little end first
abbrev pub bytes_of_row : ℕ → Row → List ℕ
bytes_of_row w r =
    bytes_of w r.raises ++ (bytes_of w r.lowers ++ (bytes_of w r.asserts ++ (bytes_of w r.deasserts ++ (bytes_of w r.returned
    ++ (bytes_of w r.offered ++ (bytes_of w r.dropped ++ (bytes_of w r.greatest ++ (bytes_of w r.withdrawn ++ bytes_of w r.still_open))))))))

-- the rows below n, one after another
unfoldable pub rows_below : ℕ → ℕ → (ℕ → Row) → List ℕ
rows_below w zero f = []
rows_below w (suc n) f = rows_below w n f ++ bytes_of_row w (f n)

-- inputs 0 to 63, and the total
abbrev pub sheet_bytes : ℕ → (ℕ → Row) → List ℕ
sheet_bytes w f = rows_below w 64 f ++ bytes_of_row w (total_below 64 f)

-- how many bytes: 65 rows of ten numbers, of four bytes each
abbrev pub sheet_length : ℕ
sheet_length = 65 * (10 * 4)

-- the sheet of a good trace
abbrev pub sheet_of : List ℕ → List ℕ
sheet_of l = sheet_bytes 4 (row_of (day_of l))
