-- The leaves of `decide`, and what their numbers tell: the inputs of a set's register are the set's.
use Rattle.basics.proofs.Prelude.{apart, ◌≡◌, refl, sym, ap, ◌∙◌, Bool, true, false, not, ◌&&◌, ℕ, ◌-◌, ◌^◌, ◌<◌, bit_and, on, inputs, register, without, is_number, on_number, on_and, on_and_not, on_none, and_below, on_without, on_ext, without_lt, inputs_ext}
use Rattle.device.specs.decide.Sets.{waiting_of, served_of}

pub pending_is : (set irr mask isr : ℕ) → set < 2 ^ 64 → mask < 2 ^ 64 → isr < 2 ^ 64
    → bit_and (bit_and (bit_and set irr) ((2 ^ 64 - 1) - mask)) ((2 ^ 64 - 1) - isr) ≡ register (waiting_of set irr mask isr)
pending_is set irr mask isr h k m =
    is_number 64 _ _ (and_below _ _ (and_below _ _ (and_below set irr h)))
    (λ i q. on_and_not _ isr i m q ∙ ap (λ b. b && not (on isr i)) (on_and_not _ mask i k q ∙ ap (λ b. b && not (on mask i)) (on_and set irr i)) ∙ grouped (on set i) (on irr i) (not (on mask i)) (not (on isr i)))
  where
    grouped : (p q r s : Bool) → (((p && q) && r) && s) ≡ (p && (q && r && s))
    grouped true q r s = refl
    grouped false q r s = refl

pub served_is : (set isr : ℕ) → isr < 2 ^ 64 → bit_and isr set ≡ register (served_of set isr)
served_is set isr h = is_number 64 _ _ (and_below isr set h) (λ i q. on_and isr set i)

-- ---- for those who ask

pub inputs_of : {x : ℕ} (f : ℕ → Bool) → x ≡ register f → inputs (on x) ≡ inputs f
inputs_of f e = ap (λ y. inputs (on y)) e ∙ inputs_ext _ f (λ i q. on_number 64 f i q)

-- none of a set is in service: service loses nothing by it
pub none_served : (set isr : ℕ) {x : ℕ} → isr < 2 ^ 64 → x ≡ register (served_of set isr) → x ≡ 0 → isr ≡ without isr (on set)
none_served set isr h e z =
    on_ext 64 isr (without isr (on set)) h (without_lt isr (on set))
    (λ i q. apart (on isr i) (on set i) (sym (on_number 64 (served_of set isr) i q) ∙ ap (λ y. on y i) (sym e ∙ z) ∙ on_none i) ∙ sym (on_without isr (on set) i q))
