-- Request C-17: `last_intirr`, written where the Rust writes it, never differs from IRR; and a route or vector index of 64 or more never arises.
use Rattle.basics.proofs.Prelude.{◌≡◌, refl, sym, ap, ◌∙◌, Bool, true, false, and-eq-true_iff, List, [], ◌∷◌, ℕ, ◌-◌, ◌<◌, arith, leb, ltb, leb-true, ltb-true, lt-ltb, only, put, inputs}
use Rattle.rules.specs.Lines.{Lines, with_irr, with_mask, pending_in, serve, enter, newly_unmasked, polled, raised, lowered, cleared, masked}
use Rattle.rules.specs.Core.{Core, Move, poll, raise, lower, clear, set_mask, Act, move, set_isr, store, set_vector, moved, line_turn, turn, turns}
use Rattle.rules.specs.Map.{within, routes_at, routes_end, vectors_at, vectors_end, in_routes, in_vectors}
use Rattle.rules.specs.{Device.Device, Device.Call, Device.some, Device.acts_of, Device.acted, Device.step, Device.reset, History.history, History.from_reset}
use Rattle.rules.specs.Copy.{copy_moved, copy_after, copy_acted, copy_through, irq_count, index_from}
use Rattle.rules.proofs.laws.Computed as computed

-- ---- the copy

-- going into service changes no latch
pub serve_irr : (vs : List ℕ) (o : Bool) (l : Lines) (ns : List ℕ) → (serve vs o l ns).after.irr ≡ l.irr
serve_irr vs o l [] = refl
serve_irr vs o l (n ∷ ns) = refl

enter_irr : (vs : List ℕ) (o : Bool) (f : ℕ → Bool) (l : Lines) → (enter vs o f l).after.irr ≡ l.irr
enter_irr vs o f l = serve_irr vs o l (inputs (pending_in f l))

-- a move, an act and acts do to IRR what they do to the copy
move_irr : (vs : List ℕ) (l : Lines) (m : Move) → copy_moved l.irr m ≡ (moved vs l m).after.irr
unfolding moved polled raised lowered cleared masked
move_irr vs l (poll n) = sym (enter_irr vs false (only n) l)
move_irr vs l (raise n) = sym (enter_irr vs false (only n) (with_irr l (put l.irr n)))
move_irr vs l (lower n) = refl
move_irr vs l (clear b) = refl
move_irr vs l (set_mask h v) = sym (enter_irr vs true (newly_unmasked l.mask _) (with_mask l _))

act_irr : (c : Core) (a : Act) → copy_after c.lines.irr a ≡ (turn c a).after.lines.irr
unfolding line_turn
act_irr c (move m) = move_irr c.vectors c.lines m
act_irr c (set_isr h v) = refl
act_irr c (store s) = refl
act_irr c (set_vector n v) = refl

acts_irr : (c : Core) (xs : List Act) → copy_acted c.lines.irr xs ≡ (turns c xs).after.lines.irr
unfolding turns copy_acted
acts_irr c [] = refl
acts_irr c (a ∷ xs) = ap (λ y. copy_acted y xs) (act_irr c a) ∙ acts_irr (turn c a).after xs

call_irr : (d : Device) (x : ℕ) → x ≡ d.core.lines.irr → (c : Call) → copy_acted x (acts_of d.core c) ≡ (step d c).after.core.lines.irr
unfolding step acted
call_irr d x e c = ap (λ y. copy_acted y (acts_of d.core c)) e ∙ acts_irr d.core (acts_of d.core c)

-- From any device and a copy that equals its IRR: whatever the calls, the copy equals IRR after them.
pub copy_is_irr : (d : Device) (x : ℕ) → x ≡ d.core.lines.irr → (cs : List Call) → copy_through d x cs ≡ (history d cs).after.core.lines.irr
unfolding copy_through history
copy_is_irr d x e [] = e
copy_is_irr d x e (c ∷ cs) = copy_is_irr (step d c).after (copy_acted x (acts_of d.core c)) (call_irr d x e c) cs

-- From reset, where both are 0.
pub copy_from_reset : (cs : List Call) → copy_through reset 0 cs ≡ (from_reset cs).after.core.lines.irr
copy_from_reset = copy_is_irr reset 0 refl

-- ---- the index

index_below : (base end o : ℕ) → end - base ≡ 64 → within base end o ≡ true → (index_from base o ≡ some (o - base)) × (o - base < 64)
index_below base end o e t =
    let both = (and-eq-true_iff (leb base o) (ltb o end)).0 t in
    let small : o - base < irq_count = omega (arith, leb-true base o both.0, ltb-true o end both.1) in
    (rw (lt-ltb (o - base) irq_count small), small)

-- Wherever the map has a route byte, the Rust's index is there and below 64; so of a vector byte.
pub route_index_below : (o : ℕ) → in_routes o ≡ true → (index_from routes_at o ≡ some (o - routes_at)) × (o - routes_at < 64)
route_index_below o = index_below routes_at routes_end o refl

pub vector_index_below : (o : ℕ) → in_vectors o ≡ true → (index_from vectors_at o ≡ some (o - vectors_at)) × (o - vectors_at < 64)
vector_index_below o = index_below vectors_at vectors_end o refl
