-- The parts of a write: Bytes, or Dwords.
use Rattle.std.specs.Prelude.{◌≡◌, ℕ, Bool, true, false, cond, ◌⊎◌, ◌==◌, bit_and}
use Rattle.basics.specs.Numbers.{byte_of, with_byte}
use Rattle.basics.specs.Inputs.{half}
use Rattle.rules.specs.Lines.{Lines}
use Rattle.rules.specs.Map.{Register}
use Rattle.rules.specs.Access.{Width, byte, word, dword, qword}
use Rattle.passes.specs.tallies.Following.{ReadsAs}

-- a part is a Byte where it is narrow, and else a Dword
abbrev pub piece_width : Bool → Width
piece_width n = cond n byte dword

-- the place of the Dword that a byte lies in
abbrev pub place_of : ℕ → ℕ
place_of o = bit_and o 0xffff_ffff_ffff_fffc

-- the number of bytes that a width has, and the width that has it
abbrev pub Sized : ℕ → Type 0
Sized n = (n ≡ 1) ⊎ ((n ≡ 2) ⊎ ((n ≡ 4) ⊎ (n ≡ 8)))

abbrev pub width_of : ℕ → Width
width_of n = cond (n == 1) byte (cond (n == 2) word (cond (n == 4) dword qword))

-- a half of a register as read, with a Byte replaced
pub record ByteIn (l : Lines) (r : Register) (h : Bool) (o x z : ℕ) : Type 0 where
  pub value : ℕ
  pub reads : ReadsAs l value r
  pub is : z ≡ with_byte (half h value) (bit_and o 0x3) (byte_of x 0)

-- what it is written with
abbrev pub PutIn : Lines → Register → Bool → ℕ → Bool → ℕ → ℕ → Type 0
PutIn l r h o n x z = (n ≡ true → ByteIn l r h o x z) × (n ≡ false → z ≡ half false x)
