-- Request C-14: an access is inside just where each of its bytes is; and 02's cases, computed.
use Rattle.basics.proofs.Prelude.{◌≡◌, refl, true, and-eq-true_iff, ℕ, ◌+◌, ◌-◌, ◌^◌, ◌<◌, ◌≤◌, min, arith, leb, le-leb, leb-true}
use Rattle.calls.specs.{Window.inside, Calls.pass, Calls.refuse, Calls.outside, Calls.address_test, Calls.access_call}
use Rattle.rules.specs.{Access.dword, Device.read}

-- the byte at an address is one of the window's
abbrev pub ByteInside : ℕ → ℕ → ℕ → Type 0
ByteInside base size a = (base ≤ a) × (a < min (base + size) (2 ^ 64 - 1))

module _ (base size address width : ℕ) where
  pub each_byte_inside : inside base size address width ≡ true → (k : ℕ) → k < width → ByteInside base size (address + k)
  each_byte_inside e k h =
      let both = (and-eq-true_iff (leb base address) (leb (address + width) (min (base + size) (2 ^ 64 - 1)))).0 e in
      (omega (arith, leb-true base address both.0), omega (arith, leb-true (address + width) (min (base + size) (2 ^ 64 - 1)) both.1))

  pub inside_if_each_byte : 0 < width → ((k : ℕ) → k < width → ByteInside base size (address + k)) → inside base size address width ≡ true
  inside_if_each_byte h b =
      rw (le-leb base address (omega (arith, (b 0 h).0)), le-leb (address + width) (min (base + size) (2 ^ 64 - 1)) (omega (arith, (b (width - 1) (omega arith)).1)))

-- the smallest access over a window's end; and the Qword at the last Dword of the registers
pub word_over_the_end : address_test 0 1 0 2 ≡ refuse (outside 0)
word_over_the_end = refl

pub qword_over_the_end : address_test 0 0x400 0x3fc 8 ≡ refuse (outside 0x3fc)
qword_over_the_end = refl

-- the last Dword that ends at 2 ^ 64 - 1 is inside, one further is not
pub dword_at_the_top : access_call 0 (2 ^ 64 - 1) (2 ^ 64 - 5) 4 read ≡ pass (read dword (2 ^ 64 - 5))
dword_at_the_top = refl

pub dword_past_the_top : address_test 0 (2 ^ 64 - 1) (2 ^ 64 - 4) 4 ≡ refuse (outside (2 ^ 64 - 4))
dword_past_the_top = refl
