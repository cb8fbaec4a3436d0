-- The places, lengths and contents of an image as the numbers of 01 and of 02, C-17 and C-19, and the bytes of a fifth body, each by computing.
use Rattle.basics.proofs.Prelude.{◌≡◌, refl, [], ◌∷◌, map, replicate}
use Rattle.rules.specs.Core.{htmsi_en, edge, pol, auto0, auto1}
use Rattle.images.specs.Form.{one, two, numbered, word, mask, irr, isr, copy, stored, routes, vectors, count, drops, pairs, next, numbers, place, contents_length, contents_of, form_length}
use Rattle.images.specs.Image.{number_body}

pub lengths_one : contents_length one ∷ form_length one ∷ [] ≡ 22 ∷ 259 ∷ []
lengths_one = refl

pub places_one : map (place one) (word mask ∷ routes ∷ vectors ∷ count ∷ drops ∷ pairs ∷ []) ≡ 22 ∷ 94 ∷ 158 ∷ 222 ∷ 223 ∷ 227 ∷ []
places_one = refl

pub lines_one : map (λ w. place one (word w)) (copy ∷ irr ∷ isr ∷ []) ≡ 46 ∷ 54 ∷ 62 ∷ []
lines_one = refl

pub plains_one : map (λ p. place one (word (stored p))) (htmsi_en ∷ edge ∷ pol ∷ auto0 ∷ auto1 ∷ []) ≡ 30 ∷ 38 ∷ 70 ∷ 78 ∷ 86 ∷ []
plains_one = refl

pub contents_one : contents_of one ≡ 1 ∷ 4 ∷ 1 ∷ 22 ∷ 0 ∷ 72 ∷ 0 ∷ 2 ∷ 94 ∷ 0 ∷ 64 ∷ 0 ∷ 3 ∷ 158 ∷ 0 ∷ 64 ∷ 0 ∷ 4 ∷ 222 ∷ 0 ∷ 37 ∷ 0 ∷ []
contents_one = refl

-- form 2: body 1 is 64 bytes, and what stands behind IRR's copy is 8 lower
pub lengths_two : contents_length two ∷ form_length two ∷ [] ≡ 22 ∷ 251 ∷ []
lengths_two = refl

pub places_two : map (place two) (word mask ∷ routes ∷ vectors ∷ count ∷ drops ∷ pairs ∷ []) ≡ 22 ∷ 86 ∷ 150 ∷ 214 ∷ 215 ∷ 219 ∷ []
places_two = refl

pub lines_two : map (λ w. place two (word w)) (irr ∷ isr ∷ []) ≡ 46 ∷ 54 ∷ []
lines_two = refl

pub plains_two : map (λ p. place two (word (stored p))) (htmsi_en ∷ edge ∷ pol ∷ auto0 ∷ auto1 ∷ []) ≡ 30 ∷ 38 ∷ 62 ∷ 70 ∷ 78 ∷ []
plains_two = refl

pub contents_two : contents_of two ≡ 2 ∷ 4 ∷ 1 ∷ 22 ∷ 0 ∷ 64 ∷ 0 ∷ 2 ∷ 86 ∷ 0 ∷ 64 ∷ 0 ∷ 3 ∷ 150 ∷ 0 ∷ 64 ∷ 0 ∷ 4 ∷ 214 ∷ 0 ∷ 37 ∷ 0 ∷ []
contents_two = refl

-- form 2 with numbers: contents of 27 bytes, offsets moved by 5, and 34 bytes at the end (02, C-19)
pub lengths_numbered : contents_length numbered ∷ form_length numbered ∷ [] ≡ 27 ∷ 290 ∷ []
lengths_numbered = refl

pub places_numbered : map (place numbered) (word mask ∷ routes ∷ vectors ∷ count ∷ drops ∷ pairs ∷ next ∷ numbers ∷ []) ≡ 27 ∷ 91 ∷ 155 ∷ 219 ∷ 220 ∷ 224 ∷ 256 ∷ 258 ∷ []
places_numbered = refl

pub lines_numbered : map (λ w. place numbered (word w)) (irr ∷ isr ∷ []) ≡ 51 ∷ 59 ∷ []
lines_numbered = refl

pub plains_numbered : map (λ p. place numbered (word (stored p))) (htmsi_en ∷ edge ∷ pol ∷ auto0 ∷ auto1 ∷ []) ≡ 35 ∷ 43 ∷ 67 ∷ 75 ∷ 83 ∷ []
plains_numbered = refl

pub contents_numbered : contents_of numbered ≡ 2 ∷ 5 ∷ 1 ∷ 27 ∷ 0 ∷ 64 ∷ 0 ∷ 2 ∷ 91 ∷ 0 ∷ 64 ∷ 0 ∷ 3 ∷ 155 ∷ 0 ∷ 64 ∷ 0 ∷ 4 ∷ 219 ∷ 0 ∷ 37 ∷ 0 ∷ 5 ∷ 0 ∷ 1 ∷ 34 ∷ 0 ∷ []
contents_numbered = refl

-- the fifth body of one waiting event with the number 772, where 258 comes next: the next number, then sixteen numbers, unused ones zero
pub fifth_body_bytes : number_body (record { next = 258; waiting = 772 ∷ [] }) ≡ 2 ∷ 1 ∷ 4 ∷ 3 ∷ replicate 30 0
unfolding number_body
fifth_body_bytes = refl
