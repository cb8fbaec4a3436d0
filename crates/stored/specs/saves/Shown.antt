-- What it is to save a part of a state, in the rules' terms.
use Rattle.std.specs.Prelude.{◌≡◌, true, false, List, [], ◌∷◌, ◌++◌, ℕ, length}
use Rattle.basics.specs.Numbers.{part}
use Rattle.rules.specs.Core.{htmsi_en, edge, pol, auto0, auto1}
use Rattle.rules.specs.Device.{Device, reset}
use Rattle.rules.specs.Numbering.{Numbers, from_zero}
use Rattle.images.specs.Form.{mask, irr, isr, copy, stored, Field, word, routes, vectors, count, drops, pairs, next, numbers, Form, listed, has, contents_length, read}
use Rattle.images.specs.Image.{field_of, encode_as, ring_body, number_body}
use Rattle.device.specs.state.View.{lines_view, stored_view, ring_view}
use Rattle.device.specs.declared.state.Lines.{Lines}
use Rattle.device.specs.declared.state.Stored.{Stored}
use Rattle.device.specs.declared.state.Tables.{Tables}
use Rattle.device.specs.declared.state.Ring.{Ring}

-- an image in which some fields are as a device and the numbers beside it have them, and all else is as it was
pub record Puts (f : Form) (d : Device) (s : Numbers) (ps : List Field) (entry exit : List ℕ) : Type 0 where
  pub size : length exit ≡ length entry
  pub head : part 0 (contents_length f) exit ≡ part 0 (contents_length f) entry
  pub put : (p : Field) → has f p ≡ true → listed p ps ≡ true → read f exit p ≡ field_of d s p
  pub stays : (p : Field) → has f p ≡ true → listed p ps ≡ false → read f exit p ≡ read f entry p

-- the fields of the lines, and of what is only stored
abbrev pub line_fields : List Field
line_fields = word isr ∷ word irr ∷ word copy ∷ word mask ∷ []

abbrev pub stored_fields : List Field
stored_fields = word (stored auto1) ∷ word (stored auto0) ∷ word (stored pol) ∷ word (stored edge) ∷ word (stored htmsi_en) ∷ []

-- what a function that saves a part promises, of every device that has the part, and of whatever numbers
abbrev pub SavesLines : Form → Lines → List ℕ → List ℕ → Type 0
SavesLines f l entry exit = (d : Device) (s : Numbers) → d.core.lines ≡ lines_view l → Puts f d s line_fields entry exit

abbrev pub SavesStored : Form → Stored → List ℕ → List ℕ → Type 0
SavesStored f t entry exit = (d : Device) (s : Numbers) → d.core.stored ≡ stored_view t d.core.stored.routes → Puts f d s stored_fields entry exit

abbrev pub SavesTables : Form → Tables → List ℕ → List ℕ → Type 0
SavesTables f t entry exit =
    (d : Device) (s : Numbers) → d.core.stored.routes ≡ t.route_entry → d.core.vectors ≡ t.htmsi_vector → Puts f d s (vectors ∷ routes ∷ []) entry exit

abbrev pub SavesRing : Form → Ring → List ℕ → List ℕ → Type 0
SavesRing f r entry exit = (d : Device) (s : Numbers) → d.ring ≡ ring_view r → Puts f d s (pairs ∷ drops ∷ count ∷ []) entry exit

-- the numbers, of every device, where the bytes are their body
abbrev pub SavesNumbers : Form → List ℕ → List ℕ → List ℕ → Type 0
SavesNumbers f body entry exit = (d : Device) (s : Numbers) → number_body s ≡ body → Puts f d s (numbers ∷ next ∷ []) entry exit

-- the image of a device and of whatever numbers the bytes are the body of
abbrev pub SavedAs : Form → Device → List ℕ → List ℕ → Type 0
SavedAs f d body exit = (s : Numbers) → number_body s ≡ body → exit ≡ encode_as f d s

-- ---- a reset saves its parts by value: route bytes, and the ring, where the bytes are its body

abbrev pub SavesRoutes : Form → List ℕ → List ℕ → List ℕ → Type 0
SavesRoutes f bytes entry exit = (d : Device) (s : Numbers) → d.core.stored.routes ≡ bytes → Puts f d s (routes ∷ []) entry exit

abbrev pub SavesRingBody : Form → List ℕ → List ℕ → List ℕ → Type 0
SavesRingBody f body entry exit = (d : Device) (s : Numbers) → ring_body d ≡ body → Puts f d s (pairs ∷ drops ∷ count ∷ []) entry exit

-- all fields but the vectors, of the device after reset, with numbers from 0
abbrev pub other_fields : List Field
other_fields = numbers ∷ next ∷ pairs ∷ drops ∷ count ∷ routes ∷ (stored_fields ++ line_fields)

abbrev pub SavesOthers : Form → List ℕ → List ℕ → Type 0
SavesOthers f entry exit = Puts f reset (from_zero 0) other_fields entry exit
