-- Which addresses are the device's.
use Rattle.std.specs.Prelude.{Bool, ◌&&◌, ℕ, ◌+◌, ◌-◌, ◌^◌, min, leb}

-- an access is inside if all its bytes are (01, Window and register map, as 02, C-14 has it)
abbrev pub inside : ℕ → ℕ → ℕ → ℕ → Bool
inside base size address width = leb base address && leb (address + width) (min (base + size) (2 ^ 64 - 1))

-- an address inside, as an offset (01, Window and register map)
abbrev pub offset : ℕ → ℕ → ℕ
offset base address = address - base
