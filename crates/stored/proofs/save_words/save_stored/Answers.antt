-- `save_stored`: five words are put into their fields, and all else stays.
use Rattle.basics.proofs.Prelude.{true, ◌≡◌, refl, sym, ap, ◌∙◌, ◌+◌, ◌≤◌, length, rules, bytes_of}
use Rattle.rules.specs.Core.{htmsi_en, edge, pol, auto0, auto1}
use Rattle.images.{specs.Form.stored, specs.Form.Field, specs.Form.word, specs.Form.size, proofs.laws.Layout.always}
use Rattle.image.{specs.Shown.form_view, specs.Shown.place_in, proofs.Forms.always_within}
use Rattle.stored.proofs.{saves.Putting.puts_then, saves.Putting.puts_number}
use Rattle.stored.proofs.save_words.save_stored.Goals as goal
use Rattle.stored.proofs.save_words.save_stored.Goals.{After-places_of-p}

-- a field ends within the image
within : (c : After-places_of-p) (q : Field) → always q ≡ true → place_in c.places_of-p.result q + size q ≤ length c.args.image.now
within c = always_within (form_view c.args.form) c.args.image.now c.requires c.places_of-p.result c.places_of-p.ensures

pub put_word-requires : goal.put_word-requires
put_word-requires c = within (goal.at.put_word-requires c).After-places_of-p (word (stored htmsi_en)) refl

pub put_word-requires-2 : goal.put_word-requires-2
put_word-requires-2 c = let h = within (goal.at.put_word-requires-2 c).After-places_of-p (word (stored edge)) refl in search rules

pub put_word-requires-3 : goal.put_word-requires-3
put_word-requires-3 c = let h = within (goal.at.put_word-requires-3 c).After-places_of-p (word (stored pol)) refl in search rules

pub put_word-requires-4 : goal.put_word-requires-4
put_word-requires-4 c = let h = within (goal.at.put_word-requires-4 c).After-places_of-p (word (stored auto0)) refl in search rules

pub put_word-requires-5 : goal.put_word-requires-5
put_word-requires-5 c = let h = within (goal.at.put_word-requires-5 c).After-places_of-p (word (stored auto1)) refl in search rules

pub returns : goal.returns
returns c d ns e = let n = c.args.stored in
    let f = form_view c.args.form in
    let a1 = puts_number f d ns c.places_of-p.result c.places_of-p.ensures (word (stored htmsi_en)) refl n.htmsi_en c.requires (ap (bytes_of 8) (sym (ap (λ t. t.htmsi_en) e))) c.put_word.ensures in
    let a2 = puts_then f d ns a1 (puts_number f d ns c.places_of-p.result c.places_of-p.ensures (word (stored edge)) refl n.intedge (a1.size ∙ c.requires) (ap (bytes_of 8) (sym (ap (λ t. t.edge) e))) c.put_word-2.ensures) in
    let a3 = puts_then f d ns a2 (puts_number f d ns c.places_of-p.result c.places_of-p.ensures (word (stored pol)) refl n.int_polarity (a2.size ∙ c.requires) (ap (bytes_of 8) (sym (ap (λ t. t.pol) e))) c.put_word-3.ensures) in
    let a4 = puts_then f d ns a3 (puts_number f d ns c.places_of-p.result c.places_of-p.ensures (word (stored auto0)) refl n.auto_ctrl0 (a3.size ∙ c.requires) (ap (bytes_of 8) (sym (ap (λ t. t.auto0) e))) c.put_word-4.ensures) in
    puts_then f d ns a4 (puts_number f d ns c.places_of-p.result c.places_of-p.ensures (word (stored auto1)) refl n.auto_ctrl1 (a4.size ∙ c.requires) (ap (bytes_of 8) (sym (ap (λ t. t.auto1) e))) c.put_word-5.ensures)
