-- Which acts a call of a sweep does: it lowers no input and writes neither MASK, CLEAR nor ISR. A call that is no such call does one of these (sweeping-is).
use Rattle.basics.proofs.Prelude.{◌≡◌, refl, sym, ap, ◌∙◌, Bool, true, false, not, ◌||◌, true≢false, and-eq-true_iff, List, [], ◌∷◌, ℕ, ◌-◌, eqb, eqb-true, not-true, test}
use Rattle.rules.specs.Core.{Core, Act, poll, raise, lower, clear, set_mask, move, set_isr, store, set_vector}
use Rattle.rules.specs.Map.{Cell, half_of, bytes, nothing, cell_at}
use Rattle.rules.specs.Access.{Width, cell_acts, dword_acts, write_acts}
use Rattle.rules.specs.Device.{Device, Call, acts_of}
use Rattle.histories.specs.{Premises.Along, Premises.reaches, Demands.Each, Demands.done, Demands.also, Demands.some_act}
use Rattle.histories.proofs.laws.Reach.{each_both, each_so, cell_has, ruled_out, four_none, write_does, ReturnsNone, write_returns_none, LeavesLines}
use Rattle.sweep.specs.Sweeps.{moves_lines, unsettles, sweeping, every_call}
use Rattle.rules.specs.Map as map
use Rattle.rules.specs.Device as call

-- an act that does none of it
abbrev pub Settled : Act → Type 0
Settled a = unsettles a ≡ false

-- ---- where MASK, CLEAR and ISR stand

abbrev moving_half : Cell → Bool
moving_half (half_of map.id h) = false
moving_half (half_of map.mask h) = true
moving_half (half_of map.clear h) = true
moving_half (half_of map.irr h) = false
moving_half (half_of map.isr h) = true
moving_half (half_of (map.plain p) h) = false
moving_half bytes = false
moving_half nothing = false

-- they stand nowhere but where moves_lines says
moving_only : (o : ℕ) → moves_lines o ≡ false → moving_half (cell_at o) ≡ false
moving_only o t = ruled_out (moving_half (cell_at o)) (rw t at (cell_has (λ i d. not (moving_half d) || moves_lines i) refl o refl refl))

-- and there they stand
moving_there : (o : ℕ) → moves_lines o ≡ true → moving_half (cell_at o) ≡ true
unfolding cell_at
moving_there o e =
    test (eqb o 0x020) (λ t. rw (eqb-true o 0x020 t))
    (λ a. test (eqb o 0x024) (λ t. rw (eqb-true o 0x024 t))
    (λ b. test (eqb o 0x080) (λ t. rw (eqb-true o 0x080 t))
    (λ c. test (eqb o 0x084) (λ t. rw (eqb-true o 0x084 t))
    (λ d. test (eqb o 0x3a0) (λ t. rw (eqb-true o 0x3a0 t)) (λ f. rw (eqb-true o 0x3a4 (rw (a, b, c, d, f) at e)))))))

moving_stands : (o : ℕ) → moving_half (cell_at o) ≡ moves_lines o
moving_stands o = test (moves_lines o) (λ t. moving_there o t ∙ sym t) (λ t. moving_only o t ∙ sym t)

-- ---- what a write does, by the Dwords that it reaches

-- a byte unsettles nothing; a Dword does where MASK, CLEAR or ISR stands
cell_unsettles : (o v : ℕ) (d : Cell) → some_act unsettles (cell_acts o v d) ≡ moving_half d
unfolding cell_acts some_act
cell_unsettles o v (half_of map.id h) = refl
cell_unsettles o v (half_of map.mask h) = refl
cell_unsettles o v (half_of map.clear h) = refl
cell_unsettles o v (half_of map.irr h) = refl
cell_unsettles o v (half_of map.isr h) = refl
cell_unsettles o v (half_of (map.plain p) h) = refl
cell_unsettles o v bytes = four_none unsettles (λ x. refl) (λ n w. refl) o v
cell_unsettles o v nothing = refl

dword_unsettles : (o v : ℕ) → some_act unsettles (dword_acts o v) ≡ moves_lines o
unfolding dword_acts
dword_unsettles o v = cell_unsettles o v (cell_at o) ∙ moving_stands o

write_unsettles : (c : Core) (w : Width) (o v : ℕ) → some_act unsettles (write_acts c w o v) ≡ reaches moves_lines w o
write_unsettles = write_does unsettles (λ x. refl) (λ n w. refl) moves_lines dword_unsettles

-- ---- what a call of a sweep does

-- the premise refuses a call exactly where one of its acts lowers an input, or writes MASK, CLEAR or ISR
pub sweeping_is : (c : Core) (x : Call) → sweeping x ≡ not (some_act unsettles (acts_of c x))
unfolding acts_of some_act
sweeping_is c (call.level n true) = refl
sweeping_is c (call.level n false) = refl
sweeping_is c (call.poll n) = refl
sweeping_is c (call.read w o) = refl
sweeping_is c (call.write w o v) = ap not (sym (write_unsettles c w o v))
sweeping_is c (call.drain k) = refl

none_does : (t : Act → Bool) (xs : List Act) → some_act t xs ≡ false → Each (λ a. t a ≡ false) xs
unfolding some_act
none_does t [] e = done
none_does t (a ∷ xs) e = test (t a) (λ u. absurd (true≢false (rw u at e))) (λ u. also u (none_does t xs (rw u at e)))

pub settled_acts : (c : Core) (x : Call) → sweeping x ≡ true → Each Settled (acts_of c x)
settled_acts c x e = none_does unsettles (acts_of c x) (not-true _ (sym (sweeping_is c x) ∙ e))

-- a write among them leaves the lines
leaves_lines : (a : Act) → Settled a × ReturnsNone a → LeavesLines a
leaves_lines (move (poll n)) t = absurd t.1
leaves_lines (move (raise n)) t = absurd t.1
leaves_lines (move (lower n)) t = absurd t.1
leaves_lines (move (clear b)) t = absurd (true≢false t.0)
leaves_lines (move (set_mask h v)) t = absurd (true≢false t.0)
leaves_lines (set_isr h v) t = absurd (true≢false t.0)
leaves_lines (store s) t = tt
leaves_lines (set_vector n v) t = tt

pub write_leaves_lines : (c : Core) (w : Width) (o v : ℕ) → sweeping (call.write w o v) ≡ true → Each LeavesLines (write_acts c w o v)
unfolding acts_of
write_leaves_lines c w o v e = each_so leaves_lines (each_both (settled_acts c (call.write w o v) e) (write_returns_none c w o v))

-- ---- along calls

pub along_every : (t : Call → Bool) (d : Device) (cs : List Call) → every_call t cs ≡ true → Along (λ e c. t c ≡ true) d cs
unfolding Along
along_every t d [] e = tt
along_every t d (c ∷ cs) e = let both = (and-eq-true_iff (t c) (every_call t cs)).0 e in (both.0, along_every t (call.step d c).after cs both.1)
