-- Demand 2, 'An accepted image, loaded and saved, gives the same bytes', and the same turned round: a device, saved and loaded, is the same device; in each form.
-- To load is `decode`, and `numbers_in` for the numbers beside the device (02, C-19); to save is `encode_like`, in the form of the image that was given. The second holds
-- of every well-formed device with numbers that fit it: reset is one, and so is each device that is loaded.
use Rattle.basics.proofs.Prelude.{◌≡◌, refl, List, ℕ, length, Bytes}
use Rattle.rules.specs.{Device.Device, Device.WellFormed, Device.reset, Numbering.Numbers, Numbering.WellNumbered, Numbering.from_zero}
use Rattle.images.specs.{Form.Form, Form.one, Form.two, Form.numbered, Image.encode_as, Image.encode_like, Image.decode, Image.numbers_in, Image.image_test, Image.accepted}
use Rattle.images.proofs.laws.Saved.{bytes_encode}
use Rattle.laws.proofs.laws.Images.{encode_decode, decode_well_formed, numbers_well, accepted_encode, decode_encode, numbers_encode, numbers_lost, reset_well_formed, reset_numbered}

-- Demand 2: of any bytes, if they are accepted, all come back as they were, the fifth body's too
pub loaded_and_saved : (l : List ℕ) → Bytes l → image_test l ≡ accepted → encode_like l (decode l) (numbers_in l) ≡ l
loaded_and_saved = encode_decode

module _ (d : Device) (w : WellFormed d) (s : Numbers) (v : WellNumbered d s) where
  -- Demand 2, turned round: what is saved is bytes, and is accepted
  pub saved_is_bytes : (f : Form) → Bytes (encode_as f d s)
  saved_is_bytes = bytes_encode d w s v

  pub saved_is_accepted : (f : Form) → image_test (encode_as f d s) ≡ accepted
  saved_is_accepted = accepted_encode d w s v

  -- and loads as the device that was saved, so that it answers every later call as the unsaved one would (01, Saved image)
  pub saved_and_loaded : (f : Form) → decode (encode_as f d s) ≡ d
  saved_and_loaded = decode_encode d w s v

  -- with its numbers, if it is saved with the fifth body; else its waiting events are numbered from 0 (02, C-19)
  pub numbers_saved : numbers_in (encode_as numbered d s) ≡ s
  numbers_saved = numbers_encode d w s v numbered refl

  pub numbers_not_saved : (numbers_in (encode_as one d s) ≡ from_zero (length d.ring.waiting)) × (numbers_in (encode_as two d s) ≡ from_zero (length d.ring.waiting))
  numbers_not_saved = (numbers_lost d w s v one refl, numbers_lost d w s v two refl)

-- what these ask for is there at reset, and after every load
pub reset_can_be_saved : WellFormed reset × WellNumbered reset (from_zero 0)
reset_can_be_saved = (reset_well_formed, reset_numbered)

pub loaded_can_be_saved : (l : List ℕ) → Bytes l → image_test l ≡ accepted → WellFormed (decode l) × WellNumbered (decode l) (numbers_in l)
loaded_can_be_saved l b e = (decode_well_formed l b e, numbers_well l b e)
