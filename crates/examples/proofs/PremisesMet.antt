-- The premises of demand 3's theorems can be met, and what the theorems count is not nothing: histories that are tested and counted by computing.
-- The tests decide the premises of any history of known calls.
use Rattle.basics.proofs.Prelude.{◌≡◌, refl, sym, ap, ◌∙◌, ⊎_elim, Bool, true, false, not, ◌&&◌, ◌||◌, and-eq-true_iff, List, [], ◌∷◌, ◌++◌, map, ℕ, zero, suc, ◌+◌, ◌<◌, eq-or-lt_of_le, le_of_suc-le-suc, arith, eqb, lit<, lit≤, get_or, eqb-true, not-true, on}
use Rattle.rules.specs.{Lines.Made, Lines.event, Ring.Event, Core.Core, Core.Act, Access.byte, Access.dword}
use Rattle.rules.specs.Device.{Device, Call, level, poll, write, drain, up_from, acts_of, step, reset}
use Rattle.rules.specs.{History.history, History.from_reset, History.raises, Account.tally, Account.asserts, Account.deasserts, Account.carrying, Account.carries}
use Rattle.histories.specs.Premises.{Along, Admitted, writes_isr}
use Rattle.histories.specs.Demands.{Each, done, also, in_service, Eligible, disturbs, Spared, Undisturbed, CarriedAlone, some_act, is_raise, Unraised, asserts_of, found_by}
use Rattle.histories.proofs.demands.{Account.asserts_match_service, Service.in_service_from_the_poll_on, Service.in_service_from_then_on, Service.in_service_once_raised}
use Rattle.histories.proofs.demands.{Cleared.no_assert_until_raised, Order.drained_in_turn, Order.else_dropped}
use Rattle.calls.proofs.laws.Computing.{computing}

-- ---- tests that decide the premises

abbrev pub all_below : ℕ → (ℕ → Bool) → Bool
all_below zero f = true
all_below (suc k) f = f k && all_below k f

pub all_below_lem : (k : ℕ) (f : ℕ → Bool) → all_below k f ≡ true → (i : ℕ) → i < k → f i ≡ true
all_below_lem zero f e i h = absurd (omega arith)
all_below_lem (suc k) f e i h =
    let both = (and-eq-true_iff (f k) (all_below k f)).0 e in
    ⊎_elim (λ same. rw same both.0) (λ less. all_below_lem k f both.1 i less) (eq-or-lt_of_le (le_of_suc-le-suc h))

so : {a b : Bool} → a ≡ true → (not a || b) ≡ true → b ≡ true
so {a} {b} t u = sym (ap (λ x. not x || b) t) ∙ u

-- no input of which the vector byte changes is in service
abbrev vector_stays : Core → Core → ℕ → Bool
vector_stays c d n = not (on c.lines.isr n) || eqb (get_or d.vectors n 0) (get_or c.vectors n 0)

abbrev pub admits : Device → Call → Bool
admits d c = not (writes_isr c) && all_below 64 (vector_stays d.core (step d c).after.core)

admitted : (d : Device) (c : Call) → admits d c ≡ true → Admitted d c
admitted d c e =
    let both = (and-eq-true_iff (not (writes_isr c)) (all_below 64 (vector_stays d.core (step d c).after.core))).0 e in
    record {
      no_isr_write = not-true (writes_isr c) both.0;
      vectors_stay = λ n h t. eqb-true _ _ (so t (all_below_lem 64 (vector_stays d.core (step d c).after.core) both.1 n h));
    }

abbrev spared : ℕ → List Act → Bool
spared n [] = true
spared n (a ∷ xs) = not (disturbs n a) && spared n xs

each_spared : (n : ℕ) (xs : List Act) → spared n xs ≡ true → Each (λ a. disturbs n a ≡ false) xs
each_spared n [] e = done
each_spared n (a ∷ xs) e =
    let both = (and-eq-true_iff (not (disturbs n a)) (spared n xs)).0 e in
    also (not-true (disturbs n a) both.0) (each_spared n xs both.1)

-- what a test decides of each call that a history meets
abbrev pub along_all : (Device → Call → Bool) → Device → List Call → Bool
along_all t d [] = true
along_all t d (c ∷ cs) = t d c && along_all t (step d c).after cs

along_all_lem : (t : Device → Call → Bool) (P : Device → Call → Type 0) → ((d : Device) (c : Call) → t d c ≡ true → P d c) → (d : Device) (cs : List Call)
    → along_all t d cs ≡ true → Along P d cs
unfolding Along
along_all_lem t P h d [] e = tt
along_all_lem t P h d (c ∷ cs) e =
    let both = (and-eq-true_iff (t d c) (along_all t (step d c).after cs)).0 e in
    (h d c both.0, along_all_lem t P h (step d c).after cs both.1)

abbrev pub spares : ℕ → Device → Call → Bool
spares n d c = spared n (acts_of d.core c)

abbrev pub leaves_alone : ℕ → Device → Call → Bool
leaves_alone n d c = not (writes_isr c) && spares n d c

abbrev pub no_raise : ℕ → Device → Call → Bool
no_raise n d c = not (is_raise n c)

pub all_admitted : (d : Device) (cs : List Call) → along_all admits d cs ≡ true → Along Admitted d cs
all_admitted = along_all_lem admits Admitted admitted

pub all_spared : (n : ℕ) (d : Device) (cs : List Call) → along_all (spares n) d cs ≡ true → Along (Spared n) d cs
all_spared n = along_all_lem (spares n) (Spared n) (λ d c e. each_spared n (acts_of d.core c) e)

pub all_undisturbed : (n : ℕ) (d : Device) (cs : List Call) → along_all (leaves_alone n) d cs ≡ true → Along (Undisturbed n) d cs
all_undisturbed n = along_all_lem (leaves_alone n) (Undisturbed n) one
  where
    one : (d : Device) (c : Call) → leaves_alone n d c ≡ true → Undisturbed n d c
    one d c e =
        let both = (and-eq-true_iff (not (writes_isr c)) (spares n d c)).0 e in
        record { no_isr_write = not-true (writes_isr c) both.0; not_disturbed = each_spared n (acts_of d.core c) both.1 }

pub all_unraised : (n : ℕ) (d : Device) (cs : List Call) → along_all (no_raise n) d cs ≡ true → Along (Unraised n) d cs
all_unraised n = along_all_lem (no_raise n) (Unraised n) (λ d c e. not-true (is_raise n c) e)

abbrev pub carries_alone : ℕ → ℕ → Device → Call → Bool
carries_alone n v d c = all_below 64 (λ m. not (carries v d.core.vectors m) || eqb m n)

pub all_carried_alone : (n v : ℕ) (d : Device) (cs : List Call) → along_all (carries_alone n v) d cs ≡ true → Along (CarriedAlone n v) d cs
all_carried_alone n v =
    along_all_lem (carries_alone n v) (CarriedAlone n v)
    (λ d c e m b t. eqb-true m n (so t (all_below_lem 64 (λ m. not (carries v d.core.vectors m) || eqb m n) e m b)))

-- ---- the account

-- raise 5 and unmask it; give input 9 the vector 5 while only 5 is in service; raise 9 and unmask it; lower 5; drain; mask 9 and unmask it again
abbrev worked : List Call
worked =
    level 5 true ∷ write dword 0x020 0xffffffdf ∷ write byte 0x209 5 ∷ level 9 true ∷ write dword 0x020 0xfffffddf ∷ level 5 false ∷ drain 4 ∷
    write dword 0x020 0xffffffff ∷ write dword 0x020 0xfffffdff ∷ []

worked_admitted : Along Admitted reset worked
unfolding computing
worked_admitted = all_admitted reset worked refl

-- of the vector 5, three asserts and two deasserts, and one input in service that carries it: 9
worked_asserts : asserts 5 (from_reset worked).made ≡ 3
unfolding computing tally
worked_asserts = refl

worked_deasserts : deasserts 5 (from_reset worked).made ≡ 2
unfolding computing tally
worked_deasserts = refl

worked_carrying : carrying 5 (from_reset worked).after.core ≡ 1
unfolding computing
worked_carrying = refl

worked_account : asserts 5 (from_reset worked).made ≡ deasserts 5 (from_reset worked).made + carrying 5 (from_reset worked).after.core
worked_account = asserts_match_service 5 worked worked_admitted

-- ---- service

-- raise 3 and 5 and unmask all: only 3 enters service, and 5 is eligible. Then lower 3, drain, poll 5, clear 3, and mask 3
abbrev pub begun : List Call
begun = level 3 true ∷ level 5 true ∷ write dword 0x020 0 ∷ []

abbrev before : List Call
before = level 3 false ∷ drain 1 ∷ []

abbrev later : List Call
later = write dword 0x080 0x8 ∷ write byte 0x020 0x8 ∷ []

five_eligible : Eligible 5 (from_reset begun).after.core.lines
unfolding computing
five_eligible = record { latched = refl; unmasked = refl }

five_waits : in_service 5 (from_reset begun).after.core.lines ≡ false
unfolding computing
five_waits = refl

five_undisturbed : Along (Undisturbed 5) (from_reset begun).after (before ++ (poll 5 ∷ later))
unfolding computing
five_undisturbed = all_undisturbed 5 (from_reset begun).after (before ++ (poll 5 ∷ later)) refl

five_served : in_service 5 (history (from_reset begun).after (before ++ (poll 5 ∷ later))).after.core.lines ≡ true
five_served = in_service_from_then_on 5 (lit< tt) (from_reset begun).after before (poll 5) later five_eligible five_undisturbed refl

-- writes to ISR before the poll, one that puts 5 into service and one that takes it out again
abbrev isr_before : List Call
isr_before = write dword 0x3a0 0x28 ∷ level 3 false ∷ write dword 0x3a0 0 ∷ []

five_served_after_isr_writes : in_service 5 (history (from_reset begun).after (isr_before ++ (poll 5 ∷ later))).after.core.lines ≡ true
unfolding computing
five_served_after_isr_writes =
    in_service_from_the_poll_on 5 (lit< tt) (from_reset begun).after isr_before (poll 5) later five_eligible
    (all_spared 5 (from_reset begun).after isr_before refl) refl (all_undisturbed 5 (history (from_reset begun).after (isr_before ++ (poll 5 ∷ []))).after later refl)

-- 7 is unmasked since begun, and not latched: a raise of it puts it into service
seven_served : in_service 7 (history (from_reset begun).after (level 7 true ∷ later)).after.core.lines ≡ true
unfolding computing
seven_served =
    in_service_once_raised 7 (lit< tt) (from_reset begun).after later refl (all_undisturbed 7 (step (from_reset begun).after (level 7 true)).after later refl)

-- ---- a cleared input

-- 3 is in service after begun, and its line is high: clear it; then poll it, mask it and unmask it
abbrev clear_three : Call
clear_three = write dword 0x080 0x8

abbrev after_clear : List Call
after_clear = poll 3 ∷ write dword 0x020 0x8 ∷ write dword 0x020 0 ∷ []

three_quiet : asserts_of 3 (history (from_reset begun).after (clear_three ∷ after_clear)).made ≡ 0
unfolding computing some_act
three_quiet =
    no_assert_until_raised 3 (lit< tt) (from_reset begun).after clear_three after_clear refl
    (all_unraised 3 (step (from_reset begun).after clear_three).after after_clear refl)

-- and a new raise asserts it
three_raised : asserts_of 3 (history (from_reset begun).after (clear_three ∷ (after_clear ++ (level 3 true ∷ [])))).made ≡ 1
unfolding computing tally
three_raised = refl

-- ---- order

-- unmask 0 to 31 and raise 0 to 16, so that seventeen are in service; then mask them: seventeen deasserts are offered, lowest first
abbrev pub seventeen : List Call
seventeen = write dword 0x020 0 ∷ raises 0 17

abbrev filled : Device
filled = (from_reset seventeen).after

abbrev pub mask_all : Call
mask_all = write dword 0x020 0xffffffff

abbrev deassert_of : ℕ → Made
deassert_of n = event (up_from 0 64) true false n

abbrev deasserts_from : ℕ → ℕ → List Made
deasserts_from n k = map deassert_of (up_from n k)

-- the third finds two waiting, and is the third that two drains of room for two drain
third_drained : (x : Event) → get_or (history filled (mask_all ∷ drain 2 ∷ drain 2 ∷ [])).drained 2 x ≡ record { vector = 2; asserted = false }
unfolding computing
third_drained =
    drained_in_turn filled mask_all (deasserts_from 0 2) (deassert_of 2) (deasserts_from 3 14) refl refl 2 refl (lit< tt) (drain 2 ∷ drain 2 ∷ []) (lit< tt)

-- the seventeenth finds sixteen, and is dropped and counted
seventeenth_dropped : (found_by filled (deasserts_from 0 17)).drops ≡ 1
unfolding computing
seventeenth_dropped = ap (λ r. r.drops) (else_dropped filled mask_all (deasserts_from 0 16) (deassert_of 16) [] refl refl 16 refl (lit≤ tt))
