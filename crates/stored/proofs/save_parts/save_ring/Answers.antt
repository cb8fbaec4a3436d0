-- `save_ring`: the count, the drops and the pairs are put into their fields, and all else stays.
use mathlib.Core.Bool.{true}
use mathlib.Core.Path.{◌≡◌, refl, sym, ap, ◌∙◌}
use mathlib.Core.List.{[], ◌∷◌}
use Prim.Native.Nat.{◌+◌, ◌%◌, ◌≤◌}
use native.Mathlib.Nat.{mod-eq_of_lt}
use native.Mathlib.Omega.{arith}
use lib.ListN.{length}
use borrow.Author.Rules.{rules}
use Rattle.basics.specs.Numbers.{bytes_of}
use Rattle.rules.specs.Ring.{capacity, event_twos}
use Rattle.images.specs.Form.{Field, count, drops, pairs, size}
use Rattle.images.proofs.laws.Layout.{always}
use Rattle.image.specs.Shown.{form_view, place_in}
use Rattle.images.specs.Image.{sixteen}
use Rattle.images.proofs.laws.Twos.{length_sixteen}
use Rattle.device.proofs.state.Slots.{slots_length}
use Rattle.image.proofs.Forms.{always_within}
use Rattle.stored.proofs.saves.Putting.{puts_then, puts_number, puts_part}
use Rattle.stored.proofs.save_parts.save_ring.Goals as goal
use Rattle.stored.proofs.save_parts.save_ring.Goals.{After-places_of-p}

-- a field ends within the image
within : (c : After-places_of-p) (q : Field) → always q ≡ true → place_in c.places_of-p.result q + size q ≤ length c.args.image.now
within c = always_within (form_view c.args.form) c.args.image.now c.requires.0 c.places_of-p.result c.places_of-p.ensures

pub returns : goal.returns
returns c d ns e =
    let f = form_view c.args.form in
    let r = c.args.ring in
    let p = c.places_of-p.result in
    let o = c.places_of-p.ensures in
    let many : length d.ring.waiting ≡ r.output_len = ap (λ x. length x.waiting) e ∙ slots_length r.output_vectors r.output_asserted r.output_head r.output_len in
    let few : length d.ring.waiting ≤ capacity = omega (arith, c.requires.1.len) in
    let small : r.output_len % 256 ≡ length d.ring.waiting = mod-eq_of_lt (omega (arith, c.requires.1.len)) ∙ sym many in
    let spelled = c.put_pairs.ensures ∙ ap (λ x. sixteen event_twos x.waiting) (sym e) in
    let first = puts_number f d ns p o count refl r.output_len c.requires.0 (ap (λ n. n ∷ []) small) c.put_bytes.ensures in
    let both = puts_then f d ns first (puts_number f d ns p o drops refl r.output_drops (first.size ∙ c.requires.0) (ap (λ x. bytes_of 4 x.drops) (sym e)) c.put_bytes-2.ensures) in
    puts_then f d ns both (puts_part f d ns p o pairs refl (both.size ∙ c.requires.0) spelled (ap length spelled ∙ length_sixteen event_twos d.ring.waiting few) refl)

pub put_bytes-requires-2 : goal.put_bytes-requires-2
put_bytes-requires-2 c = let h = within (goal.at.put_bytes-requires-2 c).After-places_of-p drops refl in search rules

pub overflow_add-end : goal.overflow_add-end
overflow_add-end c = record { fits = omega (arith, within (goal.at.overflow_add-end c).After-places_of-p pairs refl) }

pub slice_bounds-put_pairs-end : goal.slice_bounds-put_pairs-end
slice_bounds-put_pairs-end c = let h = within (goal.at.slice_bounds-put_pairs-end c).After-places_of-p pairs refl in search rules

pub put_bytes-requires : goal.put_bytes-requires
put_bytes-requires c = within (goal.at.put_bytes-requires c).After-places_of-p count refl
