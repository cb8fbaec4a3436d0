-- Events as pairs of bytes spell them, and as the slots of a ring hold them.
use Rattle.basics.proofs.Prelude.{◌≡◌, refl, sym, ap, ◌∙◌, Bool, false, List, [], ◌∷◌, ◌++◌, map, ℕ, zero, suc, ◌+◌, ◌-◌, ◌*◌, ◌%◌, ◌<◌, ◌≤◌, mod-eq_of_lt, add-one, arith, eqb, length, take, drop, get_or, set, length-set, List·getD-map, turn, done, next}
use Rattle.rules.specs.Ring.{Event, event_twos}
use Rattle.images.{specs.Image.events_of, proofs.laws.Twos.length_spelled}
use Rattle.device.{specs.state.View.slots, proofs.state.Slots.ev}

next_two : (l : List ℕ) (i d : ℕ) → i + 1 < length l → drop i l ≡ get_or l i d ∷ get_or l (i + 1) d ∷ drop (i + 2) l
next_two l i d h =
    let s : i + 1 + 1 ≡ i + 2 = omega arith in
    next l i d (omega arith) ∙ ap (λ m. get_or l i d ∷ m) (rw s at (next l (i + 1) d h))

-- the next pair as an event
pub events_next : (l : List ℕ) (n i : ℕ) → i < n → 2 * i + 1 < length l
    → events_of (n - i) (drop (2 * i) l) ≡ ev (get_or l (2 * i) 0) (eqb (get_or l (2 * i + 1) 0) 1) ∷ events_of (n - (i + 1)) (drop (2 * (i + 1)) l)
events_next l n i h k =
    let s : n - i ≡ suc (n - (i + 1)) = omega arith in
    let two : 2 * (i + 1) ≡ 2 * i + 2 = omega arith in
    rw (two, s, next_two l (2 * i) 0 k)

pub events_end : (l : List ℕ) (n i : ℕ) → n ≤ i → events_of (n - i) (drop (2 * i) l) ≡ []
events_end l n i h = let z : n - i ≡ 0 = omega arith in rw z

-- fewer pairs are the first of the events
pub take_events_of : (n m : ℕ) (l : List ℕ) → n ≤ m → take n (events_of m l) ≡ events_of n l
take_events_of zero m l h = refl
take_events_of (suc n) zero l h = absurd (omega arith)
take_events_of (suc n) (suc m) [] h = refl
take_events_of (suc n) (suc m) (v ∷ []) h = refl
take_events_of (suc n) (suc m) (v ∷ f ∷ l) h = ap (λ es. ev v (eqb f 1) ∷ es) (take_events_of n m l (omega arith))

-- the vectors and the flags of events
abbrev pub vectors_of : List Event → List ℕ
vectors_of es = map (λ e. e.vector) es

abbrev pub flags_of : List Event → List Bool
flags_of es = map (λ e. e.asserted) es

-- sixteen events in sixteen slots, from a slot on that is not counted round
pub slots_hold : (es : List Event) (h n : ℕ) → length es ≡ 16 → h + n ≤ 16 → slots (vectors_of es) (flags_of es) h n ≡ take n (drop h es)
unfolding slots
slots_hold es h zero l k = refl
slots_hold es h (suc n) l k =
    let at : h % 16 ≡ h = mod-eq_of_lt (omega arith) in
    let vector = List·getD-map (λ e. e.vector) es h (ev 0 false) in
    let asserted = List·getD-map (λ e. e.asserted) es h (ev 0 false) in
    (λ i. ((λ j. ev (get_or (vectors_of es) (at j) 0) (get_or (flags_of es) (at j) false)) ∙ (λ j. ev (vector j) (asserted j))) i ∷ (slots_hold es (suc h) n l (omega arith) ∙ ap (λ j. take n (drop j es)) (sym (add-one h))) i)
    ∙ ap (take (suc n)) (sym (next es h (ev 0 false) (omega arith)))

-- sixteen slots of which the first i hold the first i events that the bytes l spell
pub record SlotsFilled (l vs : List ℕ) (fs : List Bool) (i : ℕ) : Type 0 where
  pub slots : length vs ≡ 16
  pub flags : length fs ≡ 16
  pub vectors_held : take i vs ++ vectors_of (events_of (16 - i) (drop (2 * i) l)) ≡ vectors_of (events_of 16 l)
  pub flags_held : take i fs ++ flags_of (events_of (16 - i) (drop (2 * i) l)) ≡ flags_of (events_of 16 l)

module _ {l vs : List ℕ} {fs : List Bool} {i : ℕ} (size : length l ≡ 32) (held : SlotsFilled l vs fs i) where
  pub held_next : i < 16 → SlotsFilled l (set vs i (get_or l (2 * i) 0)) (set fs i (eqb (get_or l (2 * i + 1) 0) 1)) (i + 1)
  held_next h =
      let next = events_next l 16 i h (omega arith) in
      record {
        slots = length-set vs i _ ∙ held.slots;
        flags = length-set fs i _ ∙ held.flags;
        vectors_held = turn vs _ i _ (omega arith) held.vectors_held (ap vectors_of next);
        flags_held = turn fs _ i _ (omega arith) held.flags_held (ap flags_of next);
      }

  pub held_all : 16 ≤ i → (n : ℕ) → n ≤ 16 → slots vs fs 0 n ≡ events_of n l
  held_all h n k =
      let end = events_end l 16 i h in
      let vectors = done vs _ i (omega arith) (ap vectors_of end) held.vectors_held in
      let asserted = done fs _ i (omega arith) (ap flags_of end) held.flags_held in
      (λ j. slots (vectors j) (asserted j) 0 n) ∙ slots_hold (events_of 16 l) 0 n (length_spelled event_twos 16 l (omega arith)) (omega arith) ∙ take_events_of n 16 l k
