-- What the Rust keeps or asks beside the rules, and C-17 takes out: `last_intirr` as a number of its own, and the index of a route or vector byte with its limit.
use Rattle.std.specs.Prelude.{cond, List, [], ◌∷◌, ℕ, ◌-◌, ◌<◌, ltb}
use Rattle.basics.specs.Inputs.{on, only, put, without}
use Rattle.rules.specs.Core.{Move, poll, raise, lower, clear, set_mask, Act, move, set_isr, store, set_plain, set_route, set_vector}
use Rattle.rules.specs.Device.{Device, Call, Value, none, some, acts_of, step}

-- ---- the copy (02, C-17)

-- set_irq_level sets and removes the bit of its input, clear_irq removes the bits cleared; no other function writes it
abbrev pub copy_moved : ℕ → Move → ℕ
copy_moved x (poll n) = x
copy_moved x (raise n) = put x n
copy_moved x (lower n) = without x (only n)
copy_moved x (clear b) = without x (on b)
copy_moved x (set_mask h v) = x

abbrev pub copy_after : ℕ → Act → ℕ
copy_after x (move m) = copy_moved x m
copy_after x (set_isr h v) = x
copy_after x (store s) = x
copy_after x (set_vector n v) = x

-- acts, one after another
unfoldable pub copy_acted : ℕ → List Act → ℕ
copy_acted x [] = x
copy_acted x (a ∷ xs) = copy_acted (copy_after x a) xs

-- calls, one after another, from a device and a copy
unfoldable pub copy_through : Device → ℕ → List Call → ℕ
copy_through d x [] = x
copy_through d x (c ∷ cs) = copy_through (step d c).after (copy_acted x (acts_of d.core c)) cs

-- ---- the index (02, C-17)

-- the Rust's PCH_PIC_IRQ_COUNT
abbrev pub irq_count : ℕ
irq_count = 64

-- the Rust's pch_pic_irq_index: which byte an offset is, counted from where the bytes start; none from 64 on
abbrev pub index_from : ℕ → ℕ → Value
index_from base o = cond (ltb (o - base) irq_count) (some (o - base)) none

-- an act that stores a route or a vector byte stores it at an index below 64
abbrev pub IndexBelow : Act → Type 0
IndexBelow (move m) = Unit {0}
IndexBelow (set_isr h v) = Unit {0}
IndexBelow (store (set_plain p h v)) = Unit {0}
IndexBelow (store (set_route n v)) = n < irq_count
IndexBelow (set_vector n v) = n < irq_count
