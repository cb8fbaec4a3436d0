-- What the functions of this crate hand back, as the rules see it.
use Rattle.std.specs.Prelude.{◌≡◌, ℕ, ◌+◌, ◌≤◌, true, false, cond, Option, Some, None}
use Rattle.rules.specs.Core.{htmsi_en, edge, pol, auto0, auto1}
use Rattle.images.specs.Form.{mask, irr, isr, copy, stored, Field, word, routes, vectors, count, drops, pairs, next, numbers, one, two, numbered}
use Rattle.images.specs.Form.{has, size, place, contents_length, contents_of, unknown, known}
use Rattle.images.specs.Form as rules-form
use Rattle.images.specs.Image.{register_at}
use Rattle.image.specs.declared.form.Form.{Form}
use Rattle.image.specs.declared.form.Form.TheVariants.{One, Two, Numbered}
use Rattle.image.specs.declared.form.Places.{Places}
use Rattle.image.specs.declared.form.Contents.{Contents}

abbrev pub form_view : Form → rules-form.Form
form_view One = one
form_view Two = two
form_view Numbered = numbered

abbrev pub form_known : Option Form → rules-form.Known
form_known None = unknown
form_known (Some f) = known (form_view f)

-- the place that is said of a field
abbrev pub place_in : Places → Field → ℕ
place_in p (word mask) = p.int_mask
place_in p (word irr) = p.intirr
place_in p (word isr) = p.intisr
place_in p (word copy) = p.last_intirr
place_in p (word (stored htmsi_en)) = p.htmsi_en
place_in p (word (stored edge)) = p.intedge
place_in p (word (stored pol)) = p.int_polarity
place_in p (word (stored auto0)) = p.auto_ctrl0
place_in p (word (stored auto1)) = p.auto_ctrl1
place_in p routes = p.routes
place_in p vectors = p.vectors
place_in p count = p.count
place_in p drops = p.drops
place_in p pairs = p.pairs
place_in p next = p.next
place_in p numbers = p.numbers

-- the bytes of the copy of IRR, if the form has one
abbrev pub copy_length : rules-form.Form → ℕ
copy_length f = cond (has f (word copy)) (size (word copy)) 0

-- the places of a form; where it has no copy of IRR, that of IRR stands for it
pub record PlacesOf (f : rules-form.Form) (p : Places) : Type 0 where
  pub fields : (q : Field) → has f q ≡ true → place_in p q ≡ place f q
  pub copy : has f (word copy) ≡ false → p.last_intirr ≡ p.intirr

-- the contents of a form as four numbers: the third overlaps the second, and the last the third, or begins where it ends
pub record ContentsOf (f : rules-form.Form) (c : Contents) : Type 0 where
  pub first : c.first ≡ register_at 0 (contents_of f)
  pub second : c.second ≡ register_at 8 (contents_of f)
  pub third : c.third ≡ register_at 14 (contents_of f)
  pub last : c.last ≡ register_at c.last_at (contents_of f)
  pub ends : c.last_at + 8 ≡ contents_length f
  pub low : 14 ≤ c.last_at
  pub high : c.last_at ≤ 22
