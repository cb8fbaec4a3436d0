-- 02, C-13, of exported calls: the plain engine's history is every event made since the last load or reset, each with its input, the number of its call, refused ones counted, its vector, and whether it was
-- returned, kept or dropped. So it is of the ported engine, on every sequence of exported calls, loads, resets and refused ones included.
use Rattle.basics.proofs.Prelude.{◌≡◌, refl, sym, ap, ◌∙◌, Bool, true, false, List, [], ◌∷◌, ◌++◌, map, ℕ, Bytes}
use Rattle.rules.specs.Device.{Device}
use Rattle.calls.specs.Calls.{pass, refuse, Asked, afresh, calls, asked_by}
use Rattle.histories.specs.exported.Exported.{Exported, is_done, is_reset, is_load, Underway, carried_on, GivenBytes, Faithful}
use Rattle.histories.proofs.exported.laws.Chains.{done_accepted}
use Rattle.laws.proofs.laws.Images.{decode_well_formed, reset_well_formed}
use Rattle.plain.specs.{Events.as_loaded, Plain.Engine, Sequence.load_of, Sequence.shown, Sequence.Item, Sequence.call, Sequence.load, Sequence.refused, Sequence.takes, Sequence.WellLoaded, Sequence.plain_after, Sequence.brought_by, Sequence.ported_load, Sequence.ported_after, Sequence.listed}
use Rattle.plain.specs.Beside.{gives_to, meets, after_calls, asked_items, items_by, items_in, items_of}
use Rattle.plain.proofs.demands.History.{shows_device, same_number, same_history, list_is_history}
use Rattle.rules.specs.Device as device

-- ---- exported calls as happenings

plain_append : (e : Engine) (xs ys : List Item) → plain_after e (xs ++ ys) ≡ plain_after (plain_after e xs) ys
unfolding plain_after
plain_append e [] ys = refl
plain_append e (x ∷ xs) ys = plain_append (takes e x).after xs ys

one_happens : (d l : Bool) (k : Asked) (e : Engine) (x : Exported) → (gives_to d l k e x).after ≡ plain_after e (items_by d l k x)
unfolding plain_after
one_happens true true afresh e x = refl
one_happens true true (calls (pass c)) e x = refl
one_happens true true (calls (refuse r)) e x = refl
one_happens true false afresh e x = refl
one_happens true false (calls (pass c)) e x = refl
one_happens true false (calls (refuse r)) e x = refl
one_happens false l k e x = refl

-- What the plain engine meets of exported calls are these happenings, one after another.
pub calls_happen : (e : Engine) (h : Underway) (xs : List Exported) → after_calls e h xs ≡ plain_after e (items_of h xs)
unfolding after_calls items_of plain_after meets
calls_happen e h [] = refl
calls_happen e h (x ∷ xs) =
    let one = one_happens (is_done x) (is_load h.left x) (asked_by x.asked) e x in
    calls_happen (meets e h x).after (carried_on h x) xs ∙ ap (λ f. plain_after f (items_of (carried_on h x) xs)) one ∙ sym (plain_append e (items_in h x) (items_of (carried_on h x) xs))

-- ---- what they load can stand in an image

loaded_append : (xs ys : List Item) → WellLoaded xs → WellLoaded ys → WellLoaded (xs ++ ys)
unfolding WellLoaded
loaded_append [] ys a b = b
loaded_append (call c ∷ xs) ys a b = loaded_append xs ys a b
loaded_append (load d ∷ xs) ys a b = (a.0, loaded_append xs ys a.1 b)
loaded_append (refused ∷ xs) ys a b = loaded_append xs ys a b

asked_well : (k : Asked) → WellLoaded (asked_items k)
unfolding WellLoaded
asked_well afresh = tt
asked_well (calls (pass c)) = tt
asked_well (calls (refuse r)) = tt

one_well : (h : Underway) (x : Exported) → Bytes x.given → WellLoaded (items_in h x)
unfolding WellLoaded
one_well h x b = go (is_done x) refl (is_load h.left x) (asked_by x.asked) refl
  where
    go : (d : Bool) → is_done x ≡ d → (l : Bool) (k : Asked) → asked_by x.asked ≡ k → WellLoaded (items_by d l k x)
    go true t true afresh e = (reset_well_formed, tt)
    go true t true (calls u) e = (decode_well_formed x.given b (done_accepted h x t (ap is_reset e)), asked_well (calls u))
    go true t false k e = asked_well k
    go false t l k e = tt

all_well : (h : Underway) (xs : List Exported) → GivenBytes xs → WellLoaded (items_of h xs)
unfolding items_of WellLoaded
all_well h [] b = tt
all_well h (x ∷ xs) b = loaded_append (items_in h x) (items_of (carried_on h x) xs) (one_well h x b.0) (all_well (carried_on h x) xs b.1)

-- ---- the theorems

-- The plain engine is started with the device d that the image i holds, of reset or accepted; then come any exported calls, refused ones, loads and resets among them.
module _ (old : Engine) (d : Device) (i : List ℕ) (f : Faithful (record { began = d; calls = []; left = i })) (xs : List Exported) (b : GivenBytes xs) where
  abbrev under : Underway
  under = record { began = d; calls = []; left = i }

  abbrev plain : Engine
  plain = after_calls (load_of old d) under xs

  -- Its history is the ported engine's: each event with its input, the number of its call, its vector, assert or deassert, and whether it was returned, kept or dropped.
  pub events_with_fates : plain.history ≡ (ported_after (ported_load d) (items_of under xs)).history
  events_with_fates = ap (λ (e : Engine). e.history) (calls_happen (load_of old d) under xs) ∙ same_history old d f.began (items_of under xs) (all_well under xs b)

  -- Its next call has the same number, and it shows the ported device.
  pub calls_numbered_alike : plain.call ≡ (ported_after (ported_load d) (items_of under xs)).call
  calls_numbered_alike = ap (λ (e : Engine). e.call) (calls_happen (load_of old d) under xs) ∙ same_number old d f.began (items_of under xs) (all_well under xs b)

  pub shows_alike : shown plain ≡ (ported_after (ported_load d) (items_of under xs)).device
  shows_alike = ap shown (calls_happen (load_of old d) under xs) ∙ shows_device old d f.began (items_of under xs) (all_well under xs b)

  -- And its list is what the last load brought, and the offered events of that history, each marked kept or dropped.
  pub list_with_marks : plain.queue.offered ≡ map as_loaded (brought_by d.ring.waiting (items_of under xs)) ++ listed plain.history
  list_with_marks =
      ap (λ (e : Engine). e.queue.offered) (calls_happen (load_of old d) under xs) ∙ list_is_history old d f.began (items_of under xs) (all_well under xs b)
      ∙ ap (λ (e : Engine). map as_loaded (brought_by d.ring.waiting (items_of under xs)) ++ listed e.history) (sym (calls_happen (load_of old d) under xs))
