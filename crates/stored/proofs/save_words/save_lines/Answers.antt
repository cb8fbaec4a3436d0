-- `save_lines`: four words are put into their fields, and all else stays.
use mathlib.Core.Bool.{true}
use mathlib.Core.Path.{◌≡◌, refl, sym, ap, ◌∙◌}
use Prim.Native.Nat.{◌+◌, ◌≤◌}
use lib.ListN.{length}
use borrow.Author.Rules.{rules}
use Rattle.basics.specs.Numbers.{bytes_of}
use Rattle.images.specs.Form.{mask, irr, isr, Field, word, size}
use Rattle.images.proofs.laws.Layout.{always}
use Rattle.image.specs.Shown.{form_view, place_in}
use Rattle.image.proofs.Forms.{always_within, copy_within}
use Rattle.stored.proofs.saves.Putting.{puts_then, puts_number, puts_latched}
use Rattle.stored.proofs.save_words.save_lines.Goals as goal
use Rattle.stored.proofs.save_words.save_lines.Goals.{After-places_of-p}

-- a field ends within the image
within : (c : After-places_of-p) (q : Field) → always q ≡ true → place_in c.places_of-p.result q + size q ≤ length c.args.image.now
within c = always_within (form_view c.args.form) c.args.image.now c.requires c.places_of-p.result c.places_of-p.ensures

pub returns : goal.returns
returns c d ns e =
    let n = c.args.lines in
    let f = form_view c.args.form in
    let line = sym (ap (λ l. l.irr) e) in
    let first = puts_number f d ns c.places_of-p.result c.places_of-p.ensures (word mask) refl n.int_mask c.requires (ap (bytes_of 8) (sym (ap (λ l. l.mask) e))) c.put_word.ensures in
    let latched = puts_latched f d ns c.places_of-p.result c.places_of-p.ensures n.intirr (first.size ∙ c.requires) line c.put_word-2.ensures c.put_word-3.ensures in
    let both = puts_then f d ns first latched in
    puts_then f d ns both (puts_number f d ns c.places_of-p.result c.places_of-p.ensures (word isr) refl n.intisr (both.size ∙ c.requires) (ap (bytes_of 8) (sym (ap (λ l. l.isr) e))) c.put_word-4.ensures)

pub put_word-requires : goal.put_word-requires
put_word-requires c = within (goal.at.put_word-requires c).After-places_of-p (word mask) refl

pub put_word-requires-2 : goal.put_word-requires-2
put_word-requires-2 c = let h = copy_within (form_view c.args.form) c.args.image.now c.requires c.places_of-p.result c.places_of-p.ensures in
    search rules

pub put_word-requires-3 : goal.put_word-requires-3
put_word-requires-3 c = let h = within (goal.at.put_word-requires-3 c).After-places_of-p (word irr) refl in search rules

pub put_word-requires-4 : goal.put_word-requires-4
put_word-requires-4 c = let h = within (goal.at.put_word-requires-4 c).After-places_of-p (word isr) refl in search rules
