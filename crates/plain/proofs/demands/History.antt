-- 02, C-13: the plain engine's history is every event made since the load, in order, with its input, its call, its vector and its fate; and the list is
-- what the load brought and what the history has of events offered, so it only grows between loads.
use Rattle.basics.proofs.Prelude.{◌≡◌, refl, sym, ap, ◌∙◌, List, [], ◌∷◌, ◌++◌, map, map-append, append_assoc, append-nil}
use Rattle.rules.specs.{Lines.Made, Device.Device, Device.WellFormed, Device.Call, Device.step, History.history}
use Rattle.histories.proofs.laws.WellFormed.{step_well}
use Rattle.plain.specs.{Events.Offered, Events.as_loaded, Plain.Engine, Plain.gives, Plain.counted}
use Rattle.plain.specs.Sequence.{load_of, shown, Item, call, load, refused, WellLoaded, plain_after, brought_by, Ported, ported_load, ported_follows, ported_after, notes_of, as_made, listed}
use Rattle.plain.proofs.laws.{Queues.listed_append, Queues.notes_made, Same.Run, Same.Same}
use Rattle.plain.proofs.laws.Following.{stepped, counted_run, like_call, loaded_run, sized, same_load, same_counted, shown_is}

-- ---- side by side

run_follows : Run → Item → Run
run_follows r (call c) = stepped r c
run_follows r (load d) = loaded_run d
run_follows r refused = counted_run r

run_after : Run → List Item → Run
run_after r [] = r
run_after r (x ∷ xs) = run_after (run_follows r x) xs

record Reached (e : Engine) (r : Run) (xs : List Item) : Type 0 where
  same : Same (plain_after e xs) (run_after r xs)
  well : WellFormed (run_after r xs).device

reached : (e : Engine) (r : Run) (xs : List Item) → Same e r → WellFormed r.device → WellLoaded xs → Reached e r xs
unfolding plain_after run_after run_follows WellLoaded
reached e r [] x w l = record { same = x; well = w }
reached e r (call c ∷ xs) x w l =
    let next = reached (gives e c).after (stepped r c) xs (like_call e r x (sized w) c).after (step_well r.device c w) l in
    record { same = next.same; well = next.well }
reached e r (load d ∷ xs) x w l =
    let next = reached (load_of e d) (loaded_run d) xs (same_load e d l.0) l.0 l.1 in
    record { same = next.same; well = next.well }
reached e r (refused ∷ xs) x w l =
    let next = reached (counted e) (counted_run r) xs (same_counted e r x) w l in
    record { same = next.same; well = next.well }

-- what a run has of the ported engine, and of the load
ported_of : Run → Ported
ported_of r = record { device = r.device; call = r.call; history = r.notes }

ported_runs : (r : Run) (xs : List Item) → ported_of (run_after r xs) ≡ ported_after (ported_of r) xs
unfolding run_after run_follows ported_after ported_of
ported_runs r [] = refl
ported_runs r (call c ∷ xs) = ported_runs (stepped r c) xs
ported_runs r (load d ∷ xs) = ported_runs (loaded_run d) xs
ported_runs r (refused ∷ xs) = ported_runs (counted_run r) xs

brought_runs : (r : Run) (xs : List Item) → (run_after r xs).brought ≡ brought_by r.brought xs
unfolding run_after run_follows brought_by
brought_runs r [] = refl
brought_runs r (call c ∷ xs) = brought_runs (stepped r c) xs
brought_runs r (load d ∷ xs) = brought_runs (loaded_run d) xs
brought_runs r (refused ∷ xs) = brought_runs (counted_run r) xs

-- ---- the theorems

module _ (old : Engine) (d : Device) (w : WellFormed d) (xs : List Item) (l : WellLoaded xs) where
  abbrev e : Engine
  e = plain_after (load_of old d) xs

  abbrev p : Ported
  p = ported_after (ported_load d) xs

  there : Reached (load_of old d) (loaded_run d) xs
  there = reached (load_of old d) (loaded_run d) xs (same_load old d w) w l

  is : ported_of (run_after (loaded_run d) xs) ≡ p
  unfolding ported_of
  is = ported_runs (loaded_run d) xs

  -- After any calls, loads and refused calls the plain engine shows the ported device, its next call has the same number, and its history is the ported
  -- engine's events since the last load: each with its input, call, vector, assert or deassert, and whether it was returned, kept or dropped.
  pub shows_device : shown e ≡ p.device
  unfolding ported_of
  shows_device = shown_is e (run_after (loaded_run d) xs) there.same (sized there.well) ∙ ap (λ (q : Ported). q.device) is

  pub same_number : e.call ≡ p.call
  unfolding ported_of
  same_number = there.same.call ∙ ap (λ (q : Ported). q.call) is

  pub same_history : e.history ≡ p.history
  unfolding ported_of
  same_history = there.same.tail.notes ∙ ap (λ (q : Ported). q.history) is

  -- The list is what the last load brought, each kept and of no input, and then the offered events of the history, each with its input and its mark.
  pub list_is_history : e.queue.offered ≡ map as_loaded (brought_by d.ring.waiting xs) ++ listed e.history
  list_is_history =
      there.same.tail.list
      ∙ (λ t. map as_loaded (brought_runs (loaded_run d) xs t) ++ listed (sym there.same.tail.notes t))

  -- So a call only adds to list and history: the events that it makes, in order, and of them those that are offered.
  pub history_grows : (c : Call) → (gives e c).after.history ≡ e.history ++ notes_of e.call p.device.ring (step p.device c).made
  unfolding ported_of
  history_grows c =
      let r = run_after (loaded_run d) xs in
      let s = (like_call e r there.same (sized there.well) c).after in
      s.tail.notes ∙ (λ t. sym there.same.tail.notes t ++ notes_of (sym there.same.call t) (is t).device.ring (step (is t).device c).made)

  pub list_grows : (c : Call) → (gives e c).after.queue.offered ≡ e.queue.offered ++ listed (notes_of e.call p.device.ring (step p.device c).made)
  unfolding ported_of
  list_grows c =
      let r = run_after (loaded_run d) xs in
      let s = (like_call e r there.same (sized there.well) c).after in
      let new = notes_of r.call r.device.ring (step r.device c).made in
      s.tail.list ∙ ap (λ (ys : List Offered). map as_loaded r.brought ++ ys) (listed_append r.notes new)
      ∙ sym (append_assoc (map as_loaded r.brought) (listed r.notes) (listed new))
      ∙ (λ t. sym there.same.tail.list t ++ listed (notes_of (sym there.same.call t) (is t).device.ring (step (is t).device c).made))

-- ---- of calls alone, it is the rules' history

noted_calls : (q : Ported) (cs : List Call) → map as_made (ported_after q (map call cs)).history ≡ map as_made q.history ++ (history q.device cs).made
unfolding ported_after history
noted_calls q [] = sym (append-nil (map as_made q.history))
noted_calls q (c ∷ cs) =
    let one = step q.device c in
    let later = (history one.after cs).made in
    let new = map-append as_made q.history (notes_of q.call q.device.ring one.made) in
    noted_calls (ported_follows q (call c)) cs
    ∙ ap (λ (ms : List Made). ms ++ later) (new ∙ ap (λ (ms : List Made). map as_made q.history ++ ms) (notes_made q.call q.device.ring one.made))
    ∙ append_assoc (map as_made q.history) one.made later

calls_well : (cs : List Call) → WellLoaded (map call cs)
unfolding WellLoaded
calls_well [] = tt
calls_well (c ∷ cs) = calls_well cs

-- The events of the plain engine's history, without call numbers and without whether they were kept, are those that the rules' history makes, in order.
pub history_is_made : (old : Engine) (d : Device) → WellFormed d → (cs : List Call) → map as_made (plain_after (load_of old d) (map call cs)).history ≡ (history d cs).made
history_is_made old d w cs = ap (map as_made) (same_history old d w (map call cs) (calls_well cs)) ∙ noted_calls (ported_load d) cs
