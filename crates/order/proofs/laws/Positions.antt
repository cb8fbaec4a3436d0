-- Positions and fates: events in two parts, their positions one after another, and the numbers of positions.
use Rattle.basics.proofs.Prelude.{◌≡◌, refl, sym, ap, ap₂, ◌∙◌, List, [], ◌∷◌, ◌++◌, map, map-append, ℕ, zero, suc, ◌+◌, ◌<◌, ◌^◌, arith, length, length-append, test}
use Rattle.rules.specs.{Lines.Made, Ring.Ring, Ring.ring_run, Device.Device, Device.Call, Device.offers, Device.step, Device.up_from, Numbering.following, History.history}
use Rattle.images.specs.Form.{decided}
use Rattle.order.specs.{Fates.Fate, Fates.Fate-discrete, Fates.Placed, Fates.ring_past, Fates.placed, Fates.placed_from, Fates.with_fate, Numbered.number_at, Numbered.numbered_from, Numbered.all_from}
use Rattle.order.proofs.laws.Computed as computed

-- ---- numbers of positions

-- the first
pub first_number : (start : ℕ) → start < 2 ^ 16 → start ≡ number_at start 0
first_number start h = omega arith

-- the one after
pub next_number : (start p : ℕ) → following (number_at start p) ≡ number_at start (suc p)
next_number start p = omega arith

-- ---- in two parts

pub fate_append : (f : Fate) (xs ys : List Placed) → with_fate f (xs ++ ys) ≡ with_fate f xs ++ with_fate f ys
fate_append f [] ys = refl
fate_append f (x ∷ xs) ys =
    test (decided (Fate-discrete f x.fate)) (λ t. rw t (ap (λ l. x ∷ l) (fate_append f xs ys))) (λ t. rw t (fate_append f xs ys))

pub from_append : (start : ℕ) (f : Fate) (xs ys : List Placed)
    → all_from start (with_fate f (xs ++ ys)) ≡ all_from start (with_fate f xs) ++ all_from start (with_fate f ys)
from_append start f xs ys = ap (all_from start) (fate_append f xs ys) ∙ map-append (numbered_from start) (with_fate f xs) (with_fate f ys)

-- what the first event leaves of the ring, and what the others leave then
pub past_then : (r : Ring) (m : Made) (ms : List Made) → (ring_run (ring_past r m) (offers ms)).after ≡ (ring_run r (offers (m ∷ ms))).after
unfolding offers ring_run
past_then r m ms = test m.offered (λ t. rw t) (λ t. rw t)

-- ---- without their positions and fates they are the events made

placed_events : (p : ℕ) (r : Ring) (ms : List Made) → map (λ x. x.event) (placed p r ms) ≡ ms
unfolding placed
placed_events p r [] = refl
placed_events p r (m ∷ ms) = ap (λ l. m ∷ l) (placed_events (suc p) (ring_past r m) ms)

pub placed_length : (p : ℕ) (r : Ring) (ms : List Made) → length (placed p r ms) ≡ length ms
unfolding placed
placed_length p r [] = refl
placed_length p r (m ∷ ms) = ap suc (placed_length (suc p) (ring_past r m) ms)

pub all_events : (p : ℕ) (d : Device) (cs : List Call) → map (λ x. x.event) (placed_from p d cs) ≡ (history d cs).made
unfolding placed_from history
all_events p d [] = refl
all_events p d (c ∷ cs) =
    let one = step d c in
    map-append (λ (x : Placed). x.event) (placed p d.ring one.made) (placed_from (p + length one.made) one.after cs)
    ∙ ap₂ ◌++◌ (placed_events p d.ring one.made) (all_events (p + length one.made) one.after cs)

-- ---- and their positions are the numbers from the first on

up_append : (p a b : ℕ) → up_from p (a + b) ≡ up_from p a ++ up_from (p + a) b
unfolding up_from
up_append p zero b = (λ i. up_from (same i) (plus i))
  where
    same : p ≡ p + 0
    same = omega arith

    plus : 0 + b ≡ b
    plus = omega arith
up_append p (suc a) b =
    let same : suc a + b ≡ suc (a + b) = omega arith in
    let past : suc p + a ≡ p + suc a = omega arith in
    ap (up_from p) same ∙ ap (λ l. p ∷ l) (up_append (suc p) a b) ∙ ap (λ q. p ∷ (up_from (suc p) a ++ up_from q b)) past

placed_positions : (p : ℕ) (r : Ring) (ms : List Made) → map (λ x. x.position) (placed p r ms) ≡ up_from p (length ms)
unfolding placed up_from
placed_positions p r [] = refl
placed_positions p r (m ∷ ms) = ap (λ l. p ∷ l) (placed_positions (suc p) (ring_past r m) ms)

pub all_positions : (p : ℕ) (d : Device) (cs : List Call) → map (λ x. x.position) (placed_from p d cs) ≡ up_from p (length (history d cs).made)
unfolding placed_from history up_from
all_positions p d [] = refl
all_positions p d (c ∷ cs) =
    let one = step d c in
    let two = history one.after cs in
    map-append (λ (x : Placed). x.position) (placed p d.ring one.made) (placed_from (p + length one.made) one.after cs)
    ∙ ap₂ ◌++◌ (placed_positions p d.ring one.made) (all_positions (p + length one.made) one.after cs)
    ∙ sym (up_append p (length one.made) (length two.made)) ∙ ap (up_from p) (sym (length-append one.made two.made))
