-- A call that the profile lets through, in whatever phase, is one that demand 3 admits: it writes no ISR, and changes no vector byte whose input is in service.
use Rattle.basics.proofs.Prelude.{not-false, ◌≡◌, refl, sym, ap, ◌∙◌, Bool, true, false, cond, ◌&&◌, ◌||◌, true≢false, ℕ, ◌%◌, eqb, get_or, eqb-true}
use Rattle.rules.specs.{Map.in_vectors, Core.turns, Core.vectors_after, Access.byte, Access.word, Access.dword, Access.qword}
use Rattle.rules.specs.Device.{Device, Call, level, poll, read, write, drain, acts_of, acted, step}
use Rattle.histories.specs.{Premises.is_isr, Premises.ServedVectorsStay, Premises.Admitted, Demands.in_service}
use Rattle.hoists.specs.Profile.{changes_vector, changes_served, forbidden, Verdict, passes, unaligned, unfit, verdict}
use Rattle.hoists.proofs.laws.Inputs.{none_here}

-- what is not forbidden: no ISR, and no byte changed in service
pub record Allowed (r : Bool) (d : Device) (o v : ℕ) : Type 0 where
  pub not_isr : is_isr o ≡ false
  pub not_vectors : r ≡ true → in_vectors o ≡ false
  pub stay : changes_served d (write dword o v) ≡ false

pub allowed : (r : Bool) (d : Device) (o v : ℕ) → forbidden r d o v ≡ false → Allowed r d o v
unfolding forbidden
allowed r d o v e = go (is_isr o) r (in_vectors o) (changes_served d (write dword o v)) refl refl refl refl e
  where
    go : (a b x y : Bool) → is_isr o ≡ a → r ≡ b → in_vectors o ≡ x → changes_served d (write dword o v) ≡ y → (a || ((b && x) || y)) ≡ false → Allowed r d o v
    go true b x y p q s t e = absurd (true≢false e)
    go false true true y p q s t e = absurd (true≢false e)
    go false true false y p q s t e = record { not_isr = p; not_vectors = λ z. s; stay = t ∙ e }
    go false false x y p q s t e = record { not_isr = p; not_vectors = λ z. absurd (true≢false (sym z ∙ q)); stay = t ∙ e }

-- a write that passes is a Dword that is not forbidden
unfoldable pub passed : Verdict → Bool
passed passes = true
passed unaligned = false
passed unfit = false

pub no_verdict : {A : Type 0} {x : Verdict} → x ≡ passes → passed x ≡ false → A
unfolding passed
no_verdict e f = absurd (true≢false (sym (ap passed e) ∙ f))

served_stay : (d : Device) (c : Call) → changes_served d c ≡ false → ServedVectorsStay d.core (step d c).after.core
unfolding changes_served
served_stay d c e n b s =
    eqb-true _ _ (not-false (eqb (get_or (step d c).after.core.vectors n 0) (get_or d.core.vectors n 0)) (rw s at (none_here (λ m. in_service m d.core.lines && changes_vector d c m) e n b)))

vectors_kept : (d : Device) (c : Call) → (step d c).after.core.vectors ≡ d.core.vectors → ServedVectorsStay d.core (step d c).after.core
vectors_kept d c e n b s = ap (λ vs. get_or vs n 0) e

pub passed_is_admitted : (r : Bool) (d : Device) (c : Call) → verdict r d c ≡ passes → Admitted d c
unfolding verdict passed step acted acts_of turns vectors_after
passed_is_admitted r d (level n true) e = record { no_isr_write = refl; vectors_stay = vectors_kept d (level n true) refl }
passed_is_admitted r d (level n false) e = record { no_isr_write = refl; vectors_stay = vectors_kept d (level n false) refl }
passed_is_admitted r d (poll n) e = record { no_isr_write = refl; vectors_stay = vectors_kept d (poll n) refl }
passed_is_admitted r d (read w o) e = record { no_isr_write = refl; vectors_stay = vectors_kept d (read w o) refl }
passed_is_admitted r d (write byte o v) e = no_verdict e refl
passed_is_admitted r d (write word o v) e = no_verdict e refl
passed_is_admitted r d (write dword o v) e = go (eqb (o % 4) 0) (forbidden r d o v) refl e
  where
    go : (a b : Bool) → forbidden r d o v ≡ b → cond a (cond b unfit passes) unaligned ≡ passes → Admitted d (write dword o v)
    go true true f e = no_verdict e refl
    go true false f e = let w = allowed r d o v f in record { no_isr_write = w.not_isr; vectors_stay = served_stay d (write dword o v) w.stay }
    go false b f e = no_verdict e refl
passed_is_admitted r d (write qword o v) e = no_verdict e refl
passed_is_admitted r d (drain k) e = record { no_isr_write = refl; vectors_stay = vectors_kept d (drain k) refl }
