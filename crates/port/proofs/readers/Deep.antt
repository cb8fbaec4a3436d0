-- A depth that is enough: for the four Bytes of a Dword among the bytes, and for a Word anywhere.
use Rattle.basics.proofs.Prelude.{◌≡◌, sym, ◌∙◌, true≢false, ℕ, ◌-◌, ◌≤◌, arith}
use Rattle.rules.specs.Map.{bytes, cell_at}
use Rattle.laws.proofs.laws.Maps.{at_bytes, four_inside}
use Rattle.port.specs.readers.Depths.{SplitDepth}

pub four_deep : (o depth : ℕ) → cell_at o ≡ bytes → 2 ≤ depth → SplitDepth o 4 (depth - 1)
four_deep o depth e h = record {
  few = omega arith;
  fits = omega (arith, at_bytes o e);
  one = omega arith;
  each = λ k l n. absurd (true≢false (sym (four_inside o e k l) ∙ n));
}
