-- What a call leaves of an accepted image is an accepted image again, as long as it was: so who hands on what the last call left is never refused by it.
use Rattle.basics.proofs.Prelude.{◌≡◌, refl, sym, ap, subst, ◌∙◌, false, and-false, List, ℕ, length, Bytes, same_self}
use Rattle.images.{specs.Image.accepted, specs.Image.image_test, proofs.laws.Saved.bytes_encode}
use Rattle.calls.specs.Calls.{Request, asked_by, outcome}
use Rattle.histories.specs.exported.Exported.{Exported, Underway, is_done, is_reset, is_load, carried_on, at_load, current}
use Rattle.laws.proofs.laws.Images.{accepted_encode}
use Rattle.histories.proofs.exported.laws.Chains.{faithful_at_load, faithful_kept, current_well, left_length, left_last}

module _ (i : List ℕ) (b : Bytes i) (e : image_test i ≡ accepted) (q : Request) (no : is_reset (asked_by q) ≡ false) (a : List ℕ) where
  abbrev call : Exported
  call = record { given = i; asked = q; answer = a }

  abbrev after : Underway
  after = carried_on (at_load i) call

  goes_on : is_load i call ≡ false
  goes_on = rw (no, same_self i) (and-false (is_done call))

  abbrev its : Type 0
  its = Bytes after.left × (image_test after.left ≡ accepted) × (length after.left ≡ length i)

  left_so : its
  left_so =
      let f = faithful_at_load i b e in
      let g = faithful_kept (at_load i) call f goes_on in
      let w = current_well after g in (
        subst Bytes (sym g.left) (bytes_encode (current after) w g.numbers g.numbered g.form),
        ap image_test g.left ∙ accepted_encode (current after) w g.numbers g.numbered g.form,
        left_length after g ∙ sym (left_length (at_load i) f),
      )

  pub leaves_accepted : Bytes (outcome q i a).image × (image_test (outcome q i a).image ≡ accepted) × (length (outcome q i a).image ≡ length i)
  leaves_accepted = subst (λ j. Bytes j × (image_test j ≡ accepted) × (length j ≡ length i)) (left_last (at_load i) call refl) left_so
