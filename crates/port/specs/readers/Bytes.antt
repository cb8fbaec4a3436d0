-- Bytes read one after another, low first.
use Rattle.std.specs.Prelude.{ℕ, zero, suc, ◌+◌, ◌*◌, ◌^◌}
use Rattle.rules.specs.Core.{Core}
use Rattle.rules.specs.Access.{read_byte}

-- the n Bytes from o on, low first, as one number (01, The four widths: Dword, Word)
unfoldable pub bytes_read : Core → ℕ → ℕ → ℕ
bytes_read c o zero = 0
bytes_read c o (suc n) = bytes_read c o n + read_byte c (o + n) * 256 ^ n
