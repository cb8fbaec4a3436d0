-- The call that a record is resets nothing and drains from the front; so of an accepted image it leaves an accepted one.
use Rattle.basics.proofs.Prelude.{◌≡◌, refl, Bool, true, false, cond, List, ℕ, ◌≤◌, zero-le, eqb, length, replicate, Bytes}
use Rattle.images.specs.Image.{accepted, image_test}
use Rattle.calls.specs.Calls.{Request, asked_by, answer_length, buffer_of, place_of}
use Rattle.histories.{specs.exported.Exported.is_reset, proofs.exported.demands.LeavesAccepted.leaves_accepted}
use Rattle.traces.specs.{Trace.Record, Played.request_of, Played.played_on}

-- a call of a record: no reset, and a drain begins at the front
record Made (q : Request) : Type 0 where
  plain : is_reset (asked_by q) ≡ false
  front : place_of q ≤ length (buffer_of q)

either : (b : Bool) {p q : Request} → Made p → Made q → Made (cond b p q)
either true x y = x
either false x y = y

made : (r : Record) → Made (request_of r)
unfolding request_of
made r =
    either (eqb r.kind 1) (record { plain = refl; front = zero-le })
    (either (eqb r.kind 2) (record { plain = refl; front = zero-le })
    (either (eqb r.kind 3) (record { plain = refl; front = zero-le })
    (either (eqb r.kind 4) (record { plain = refl; front = zero-le })
    (either (eqb r.kind 5) (record { plain = refl; front = zero-le }) (record { plain = refl; front = zero-le })))))

pub no_reset : (r : Record) → is_reset (asked_by (request_of r)) ≡ false
no_reset r = (made r).plain

pub in_front_lem : (r : Record) → place_of (request_of r) ≤ length (buffer_of (request_of r))
in_front_lem r = (made r).front

pub keeps_accepted : (i : List ℕ) → Bytes i → image_test i ≡ accepted → (r : Record)
    → Bytes (played_on i r).image × (image_test (played_on i r).image ≡ accepted) × (length (played_on i r).image ≡ length i)
keeps_accepted i b e r = leaves_accepted i b e (request_of r) (made r).plain (replicate answer_length 0)
