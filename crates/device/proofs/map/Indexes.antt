-- What an index that came, or did not come, tells of the offset.
use Rattle.basics.proofs.Prelude.{◌≡◌, refl, Bool, true, false, ℕ, arith}
use Rattle.std.specs.Prelude.{Option, Some, None}
use Rattle.rules.specs.Map.{in_byte_area}
use Rattle.device.specs.{map.Views.index_if, map.Views.byte_index}

came : (b : Bool) (i : ℕ) {j : ℕ} {x : Option ℕ} → x ≡ index_if b i → x ≡ Some j → (b ≡ true) × (i ≡ j)
came true i e f = (refl, cc)
came false i e f = absurd (let z : ◌≡◌ {A = ℕ} 0 1 = cc in omega arith)

none_came : (b : Bool) (i : ℕ) {x : Option ℕ} → x ≡ index_if b i → x ≡ None → b ≡ false
none_came true i e f = absurd (let z : ◌≡◌ {A = ℕ} 0 1 = cc in omega arith)
none_came false i e f = refl

-- what reg8_offset tells
module _ (offset : ℕ) {x : Option ℕ} (e : x ≡ byte_index offset) where
  pub byte_came : {index : ℕ} → x ≡ Some index → (in_byte_area offset ≡ true) × (offset ≡ index)
  unfolding byte_index
  byte_came f = came (in_byte_area offset) offset e f

  pub no_byte : x ≡ None → in_byte_area offset ≡ false
  unfolding byte_index
  no_byte f = none_came (in_byte_area offset) offset e f
