-- What nearly every proof uses, passed on, so that a file brings it by one line: the kit's names, and those of this crate.
pub use mathlib.Core.Path.{◌∙◌, ◌≡◌, ap, ap₂, refl, subst, subst⁻¹, sym}
pub use Prim.Native.Nat.{◌%◌, ◌*◌, ◌+◌, ◌-◌, ◌/◌, ◌<◌, ◌^◌, ◌≤◌, max, min, suc, suc-le-suc, zero, zero-le, ℕ}
pub use native.Mathlib.Omega.{arith}
pub use mathlib.Core.List.{List, [], ◌++◌, ◌∷◌, append_assoc, append-nil, map, map-append}
pub use borrow.Author.Rules.{rules}
pub use lib.ListN.{get_or-append as List·getD-append, get_or-eq_default as List·getD-eq-default, get_or-map as List·getD-map, drop, drop_of_length-le, get_or, get_or-replicate, length, length-append, length-drop, length-map, length-replicate, length-set, length-take, replicate, replicate-append-replicate, set, take, take-append-drop}
pub use mathlib.Core.Bool.{Bool, not-not as Bool·not-not, ◌&&◌, ◌||◌, and_assoc, and_comm, and-eq-true_iff, and-false, and-not_self, and-or_distrib_right, and-true, cond, false, false≢true, not, not-and_self, or_assoc, or-false, or-true, true, true≢false}
pub use borrow.Author.Tests.{eq-eqb, eqb-false, eqb-true, le-leb, le-ltb, leb-false, leb-true, lt-leb, lt-ltb, ltb-false, ltb-true, ne_eqb, not-false, not-true}
pub use lib.Dec.{T, eqb, eqb-suc-suc as eqb·suc-suc, eqb→eq, leb, leb→le, le→leb, lit<, lit≤, ltb, ltb→lt, lt→ltb}
pub use lib.Seq.{drop-append-add, drop-append-le, drop_at, drop-cons, drop-drop, drop-length, drop-set-lt, ext_get_or, get_or-append-add, get_or-append_seam, get_or-drop, get_or-set_other, get_or-set_same, get_or-take, length-sets, length-take-le, set_at, set_split, sets, sets-eq, take-add, take_all, take-append-add, take-append-le, take_at, take-length, take-nil, take-suc, take-suc-set, take-take}
pub use native.Mathlib.Nat.{add_comm, add-suc, add-zero, div-eq_of_lt, eq-or-lt_of_le, le_of_suc-le-suc, le_refl, lt_of_le_of_lt, lt_of_lt_of_le, mod-eq_of_lt, mod-lt, mod-mod, mul-add-mod_self_right, mul-le-mul_left, mul_left_comm, not-suc-le-zero, one-mul, pow-le-pow_right, pow-suc, pow-succ', sub-zero, suc-add, zero-add, zero-div}
pub use mathlib.Core.Logic.{◌⊎◌, inl, inr, ⊎_elim}
pub use lib.Bits.{and_block, and_high, and_le_l, and_le_r, and_mask, and_mod, and_shr, and_zero_r, bit_and, bit_or, mask_lt, or_add_and, or_block, or_lt, or_mod, or_shifted, or_shifted_r, or_shr, or_zero_r}
pub use borrow.Rule.Slice.PartMut.{put_mid}
pub use lib.Count.{trailing_le, under}
unfoldable pub use lib.Count.{count_trailing_zeros}
pub use native.Mathlib.Numerals.{add-one, one-add}
pub use lib.Pow.{are_bytes, field, high, high_ones, mod-mod-pow, ones_lt, pow-add, pow_mono, pow_pos, shl_exact, shr_mod, shr-shr, split, suc_ones}
pub use types.Run.{OneOf}
pub use denote.Enum.Declared.{tag_of}
pub use Rattle.basics.specs.Numbers.{Bytes, Twos, byte_of, bytes_of, number_of, part, same, spelled, with_byte}
unfoldable pub use Rattle.basics.specs.Numbers.{written}
pub use Rattle.basics.specs.Inputs.{as_half, half, inputs, only, register, with_half}
unfoldable pub use Rattle.basics.specs.Inputs.{from, number_with, on, put, without}
pub use Rattle.basics.specs.Lists.{Each}
pub use Rattle.basics.proofs.laws.Truth.{agree, agreed, apart, both_ways, either_way, neither, swap, table₁, table₂, table₃, table₄, twice}
pub use Rattle.basics.proofs.laws.Bits.{and_below, bit_lt, is_number, number_with_lt, on_above, on_and, on_and_not, on_below, on_bit, on_down, on_ext, on_mod, on_none, on_not, on_number, on_or, on_put, on_without, put_is, put_lt, register_ext, test, without_common_is, without_ext, without_is, without_lt, without_only_is, without_these}
pub use Rattle.basics.proofs.laws.Inputs.{first_below, first_has, first_input, inputs_ext, lowest, lowest_dropped, no_input_lem, no_inputs, one_less, only_input}
pub use Rattle.basics.proofs.laws.Lists.{copied, copied_all, differ_same, digits, digits_all, done, equal_same, length_part, next, part_add, part_part, part_then, same_equal, same_self, turn}
pub use Rattle.basics.proofs.laws.Bytes.{bytes_append, bytes_bytes_of, bytes_drop, bytes_known, bytes_part, bytes_replicate, bytes_take, bytes_of_number_of, four_bytes_lem, length_bytes_of, low_bytes, number_of_below, number_of_bytes_of, number_of_next, part_below, part_known, part_number}
pub use Rattle.basics.proofs.laws.Parts.{Filled, filled, length_next, length_put, put_before, put_behind, put_front, put_there, put_this, start}
