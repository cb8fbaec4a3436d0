-- The list of the events offered against the ring: what waits, the drop count, the events made and those dropped, event by event.
use Rattle.basics.proofs.Prelude.{◌≡◌, refl, sym, ap, subst, ◌∙◌, Bool, true, false, cond, List, [], ◌∷◌, ◌++◌, map, append-nil, append_assoc, ℕ, ◌+◌, ◌≤◌, min, arith, ltb, length, drop, length-append, length-drop, drop_of_length-le, drop-append-le, drop-drop, drop-length, ltb-true, ltb-false, test}
use Rattle.rules.specs.{Lines.Made, Lines.event, Ring.capacity, Ring.stop, Ring.Event, Ring.Ring, Ring.offer, Ring.drawn, Ring.offered, Ring.ring_step, Ring.ring_run, Ring.dropped_by, Ring.dropped}
use Rattle.plain.specs.Events.{Source, Offered, Queue, kept_in, dropped_in, waiting, drop_count, has_room, with_drained, as_loaded, kept, Note, returned, input}
use Rattle.plain.specs.Plain.{Engine, with_queue, Heard, returns, offers, each_heard}
use Rattle.plain.specs.Sequence.{note_of, fate_in, ring_with, notes_of, as_made, listed_as, in_list, listed}
use Rattle.plain.proofs.laws.Machines.{made_by}
use Rattle.rules.specs.Device as device
use Rattle.plain.specs.Events as events

-- ---- marks

kept_append : (xs ys : List Offered) → kept_in (xs ++ ys) ≡ kept_in xs ++ kept_in ys
kept_append [] ys = refl
kept_append (x ∷ xs) ys =
    test x.kept (λ t. rw t (ap (λ es. x.event ∷ es) (kept_append xs ys))) (λ t. rw t (kept_append xs ys))

dropped_in_append : (xs ys : List Offered) → dropped_in (xs ++ ys) ≡ dropped_in xs ++ dropped_in ys
dropped_in_append [] ys = refl
dropped_in_append (x ∷ xs) ys =
    test x.kept (λ t. rw t (dropped_in_append xs ys)) (λ t. rw t (ap (λ es. x.event ∷ es) (dropped_in_append xs ys)))

pub loaded_kept : (es : List Event) → kept_in (map as_loaded es) ≡ es
loaded_kept [] = refl
loaded_kept (e ∷ es) = ap (λ xs. e ∷ xs) (loaded_kept es)

pub loaded_dropped : (es : List Event) → dropped_in (map as_loaded es) ≡ []
loaded_dropped [] = refl
loaded_dropped (e ∷ es) = loaded_dropped es

-- the list of a history in two parts
pub listed_append : (ns ms : List Note) → listed (ns ++ ms) ≡ listed ns ++ listed ms
listed_append [] ms = refl
listed_append (n ∷ ns) ms = ap (λ xs. in_list n.fate n ++ xs) (listed_append ns ms) ∙ sym (append_assoc (in_list n.fate n) (listed ns) (listed ms))

-- ---- an engine's list and history stand to a ring, to the events noted and to those dropped since a load that brought bs as they should

pub record Tail (e : Engine) (r : Ring) (ns : List Note) (ls bs : List Event) : Type 0 where
  pub waits : waiting e.queue ≡ r.waiting
  pub count : drop_count e.queue ≡ r.drops
  pub taken : e.queue.drained ≤ length (kept_in e.queue.offered)
  pub notes : e.history ≡ ns
  pub lost : dropped_in e.queue.offered ≡ ls
  pub list : e.queue.offered ≡ map as_loaded bs ++ listed ns

-- the number of the call, the machines and what is stored are no matter of it
pub tail_of : (e f : Engine) {r : Ring} {ns : List Note} {ls bs : List Event} → f.queue ≡ e.queue → f.history ≡ e.history → Tail e r ns ls bs → Tail f r ns ls bs
tail_of e f p q t = record {
  waits = ap waiting p ∙ t.waits;
  count = ap drop_count p ∙ t.count;
  taken = subst (λ (x : Queue). x.drained ≤ length (kept_in x.offered)) (sym p) t.taken;
  notes = q ∙ t.notes;
  lost = ap (λ (x : Queue). dropped_in x.offered) p ∙ t.lost;
  list = ap (λ (x : Queue). x.offered) p ∙ t.list;
}

-- an event more
module _ (e : Engine) (r : Ring) (ns : List Note) (ls bs : List Event) (t : Tail e r ns ls bs) where
  abbrev q : Queue
  q = e.queue

  -- in the list, marked b
  abbrev marked : Source → Event → Bool → Queue
  marked s x b = record { offered = q.offered ++ (record { source = s; event = x; kept = b } ∷ []); drained = q.drained; brought = q.brought }

  marked_waits : (s : Source) (x : Event) (b : Bool) → waiting (marked s x b) ≡ r.waiting ++ cond b (x ∷ []) []
  marked_waits s x b =
      ap (drop q.drained) (kept_append q.offered _) ∙ drop-append-le q.drained (kept_in q.offered) (cond b (x ∷ []) []) t.taken
      ∙ ap (λ es. es ++ cond b (x ∷ []) []) t.waits

  marked_lost : (s : Source) (x : Event) (b : Bool) → dropped_in (marked s x b).offered ≡ ls ++ cond b [] (x ∷ [])
  marked_lost s x b = dropped_in_append q.offered _ ∙ ap (λ es. es ++ cond b [] (x ∷ [])) t.lost

  marked_taken : (s : Source) (x : Event) (b : Bool) → q.drained ≤ length (kept_in (marked s x b).offered)
  marked_taken s x b =
      rw (kept_append q.offered (record { source = s; event = x; kept = b } ∷ []), length-append (kept_in q.offered) (cond b (x ∷ []) []))
      (omega (arith, t.taken))

  -- it stands there as its note says
  marked_list : (n : Note) (b : Bool) → in_list n.fate n ≡ listed_as b n ∷ [] → (marked (input n.input) (record { vector = n.vector; asserted = n.asserted }) b).offered
      ≡ map as_loaded bs ++ listed (ns ++ (n ∷ []))
  marked_list n b f =
      ap (λ (xs : List Offered). xs ++ (listed_as b n ∷ [])) t.list ∙ append_assoc (map as_loaded bs) (listed ns) (listed_as b n ∷ [])
      ∙ ap (λ (xs : List Offered). map as_loaded bs ++ xs) (sym (listed_append ns (n ∷ []) ∙ ap (λ (xs : List Offered). listed ns ++ xs) (append-nil (in_list n.fate n) ∙ f)))

  -- by the ring's rule
  offered_tail : (h : Heard) → let m = made_by e.vectors true h in
      let x : Event = record { vector = m.vector; asserted = m.asserted } in
      Tail (offers e h) (offered r x) (ns ++ (note_of e.call (fate_in r m) m ∷ [])) (ls ++ dropped_by r (offer x)) bs
  unfolding offered
  offered_tail h =
      let m = made_by e.vectors true h in
      let x : Event = record { vector = m.vector; asserted = m.asserted } in
      let s = input h.input in
      let room : has_room q ≡ ltb (length r.waiting) capacity = ap (λ es. ltb (length es) capacity) t.waits in
      test (ltb (length r.waiting) capacity)
      (λ b.
      let is : has_room q ≡ true = room ∙ b in
      rw (b, is) (record {
        waits = marked_waits s x true;
        count = ap (λ es. min (q.brought + length es) stop) (marked_lost s x true ∙ append-nil ls ∙ sym t.lost) ∙ t.count;
        taken = marked_taken s x true;
        notes = ap (λ xs. xs ++ (note_of e.call kept m ∷ [])) t.notes;
        lost = marked_lost s x true;
        list = marked_list (note_of e.call kept m) true refl;
      }))
      (λ b.
      let is : has_room q ≡ false = room ∙ b in
      rw (b, is) (record {
        waits = marked_waits s x false ∙ append-nil r.waiting;
        count = omega (arith, t.count, ap length (marked_lost s x false), length-append ls (x ∷ []), ap length t.lost);
        taken = marked_taken s x false;
        notes = ap (λ xs. xs ++ (note_of e.call events.dropped m ∷ [])) t.notes;
        lost = marked_lost s x false;
        list = marked_list (note_of e.call events.dropped m) false refl;
      }))

  -- one that is returned is noted alone
  returned_tail : (h : Heard) → Tail (returns e h) r (ns ++ (note_of e.call returned (made_by e.vectors false h) ∷ [])) ls bs
  returned_tail h =
      let n = note_of e.call returned (made_by e.vectors false h) in
      record {
        waits = t.waits;
        count = t.count;
        taken = t.taken;
        notes = ap (λ xs. xs ++ (n ∷ [])) t.notes;
        lost = t.lost;
        list = t.list ∙ ap (λ (xs : List Offered). map as_loaded bs ++ xs) (sym (listed_append ns (n ∷ []) ∙ append-nil (listed ns)));
      }

-- ---- what is heard, offered or returned

-- all else stays
pub record Else (e f : Engine) : Type 0 where
  pub machines : f.machines ≡ e.machines
  pub vectors : f.vectors ≡ e.vectors
  pub stored : f.stored ≡ e.stored
  pub call : f.call ≡ e.call

pub offers_else : (e : Engine) (hs : List Heard) → Else e (each_heard offers e hs)
unfolding each_heard
offers_else e [] = record { machines = refl; vectors = refl; stored = refl; call = refl }
offers_else e (h ∷ hs) = let r = offers_else (offers e h) hs in record { machines = r.machines; vectors = r.vectors; stored = r.stored; call = r.call }

pub returns_else : (e : Engine) (hs : List Heard) → Else e (each_heard returns e hs)
unfolding each_heard
returns_else e [] = record { machines = refl; vectors = refl; stored = refl; call = refl }
returns_else e (h ∷ hs) = let r = returns_else (returns e h) hs in record { machines = r.machines; vectors = r.vectors; stored = r.stored; call = r.call }

-- the ring is offered events that are made
abbrev pub ring_after : Ring → List Made → Ring
ring_after r ms = (ring_run r (device.offers ms)).after

abbrev pub lost_of : Ring → List Made → List Event
lost_of r ms = dropped r (device.offers ms)

pub offers_tail : (hs : List Heard) (e : Engine) (r : Ring) (ns : List Note) (ls bs : List Event) → Tail e r ns ls bs
    → let new = map (made_by e.vectors true) hs in Tail (each_heard offers e hs) (ring_after r new) (ns ++ notes_of e.call r new) (ls ++ lost_of r new) bs
unfolding each_heard device.offers ring_run ring_step dropped notes_of
offers_tail [] e r ns ls bs t = rw (append-nil ns, append-nil ls) t
offers_tail (h ∷ hs) e r ns ls bs t =
    let m = made_by e.vectors true h in
    let x : Event = record { vector = m.vector; asserted = m.asserted } in
    let n = note_of e.call (fate_in r m) m in
    let new = map (made_by e.vectors true) hs in
    let s = offered r x in
    let two = offers_tail hs (offers e h) s (ns ++ (n ∷ [])) (ls ++ dropped_by r (offer x)) bs (offered_tail e r ns ls bs t h) in
    rw (← append_assoc ns (n ∷ []) (notes_of e.call s new), ← append_assoc ls (dropped_by r (offer x)) (lost_of s new)) two

pub returns_tail : (hs : List Heard) (e : Engine) (r : Ring) (ns : List Note) (ls bs : List Event) → Tail e r ns ls bs
    → Tail (each_heard returns e hs) r (ns ++ notes_of e.call r (map (made_by e.vectors false) hs)) ls bs
unfolding each_heard notes_of
returns_tail [] e r ns ls bs t = rw (append-nil ns) t
returns_tail (h ∷ hs) e r ns ls bs t =
    let n = note_of e.call returned (made_by e.vectors false h) in
    let two = returns_tail hs (returns e h) r (ns ++ (n ∷ [])) ls bs (returned_tail e r ns ls bs t h) in
    rw (← append_assoc ns (n ∷ []) (notes_of e.call r (map (made_by e.vectors false) hs))) two

-- what is returned is not offered
pub returned_unoffered : (vs : List ℕ) (hs : List Heard) → device.offers (map (made_by vs false) hs) ≡ []
unfolding device.offers
returned_unoffered vs [] = refl
returned_unoffered vs (h ∷ hs) = returned_unoffered vs hs

-- ---- notes of events in two parts, and as events

pub notes_append : (k : ℕ) (r : Ring) (xs ys : List Made) → notes_of k r (xs ++ ys) ≡ notes_of k r xs ++ notes_of k (ring_after r xs) ys
unfolding notes_of device.offers ring_run ring_step
notes_append k r [] ys = refl
notes_append k r (m ∷ xs) ys =
    ap (λ ns. note_of k (fate_in r m) m ∷ ns) (notes_append k (ring_with r m) xs ys ∙ ap (λ s. notes_of k (ring_with r m) xs ++ notes_of k s ys) (same m.offered))
  where
    same : (b : Bool) → let x : Event = record { vector = m.vector; asserted = m.asserted } in
        ring_after (cond b (offered r x) r) xs ≡ (ring_run r (cond b (offer x ∷ device.offers xs) (device.offers xs))).after
    same true = refl
    same false = refl

pub notes_made : (k : ℕ) (r : Ring) (ms : List Made) → map as_made (notes_of k r ms) ≡ ms
unfolding notes_of
notes_made k r [] = refl
notes_made k r (m ∷ ms) = λ t. one m.offered (ltb (length r.waiting) capacity) t ∷ notes_made k (ring_with r m) ms t
  where
    one : (b c : Bool) → as_made (note_of k (cond b (cond c kept events.dropped) returned) m) ≡ record { input = m.input; vector = m.vector; asserted = m.asserted; offered = b }
    one true true = refl
    one true false = refl
    one false c = refl

-- ---- draining

drop_min : {A : Type 0} (k : ℕ) (l : List A) → drop (min k (length l)) l ≡ drop k l
drop_min k l =
    test (ltb k (length l))
    (λ t. let e : min k (length l) ≡ k = omega (arith, ltb-true k (length l) t) in rw e)
    (λ t.
    let h = ltb-false k (length l) t in
    let e : min k (length l) ≡ length l = omega arith in
    rw e (drop-length l ∙ sym (drop_of_length-le l h)))

pub drained_tail : (e : Engine) (r : Ring) (ns : List Note) (ls bs : List Event) (k : ℕ) → Tail e r ns ls bs
    → Tail (with_queue e (with_drained e.queue k)) (drawn r k).after ns ls bs
unfolding drawn
drained_tail e r ns ls bs k t =
    let q = e.queue in
    record {
      waits =
          sym (drop-drop (min k (length (waiting q))) q.drained (kept_in q.offered))
          ∙ drop_min k (waiting q) ∙ ap (drop k) t.waits;
      count = t.count;
      taken = omega (arith, t.taken, length-drop q.drained (kept_in q.offered));
      notes = t.notes;
      lost = t.lost;
      list = t.list;
    }
