-- What a record takes back, seen by the acts of its call: that it lowers the input, or writes a 1 for it to CLEAR, is said of the record alone.
use Rattle.basics.proofs.Prelude.{◌≡◌, refl, ap₂, ◌∙◌, Bool, true, false, ◌||◌, or-false, List, ◌++◌, ℕ, ◌+◌, ◌-◌, ◌%◌, ◌<◌, byte_of, with_byte, on, on_none, only, half, as_half, test}
use Rattle.rules.specs.Core.{Core, Act, turns}
use Rattle.rules.specs.Map as map
use Rattle.rules.specs.Map.{Register, Cell, cell_at, in_routes, in_vectors, in_byte_area}
use Rattle.rules.specs.Access.{Width, byte, word, dword, qword, value_of, read_cell, read_dword, register_acts, entry_acts, cell_acts, dword_acts, byte_acts, write_acts}
use Rattle.rules.specs.Device.{Device, Call, level, poll, read, write, drain, acts_of}
use Rattle.histories.{specs.Demands.some_act, specs.Demands.takes_latch, specs.Demands.call_takes, proofs.laws.Reach.some_append}
use Rattle.plain.{specs.Plain.Brought, specs.Plain.nothing, specs.Plain.bit, specs.Plain.brings, proofs.laws.Machines.becomes, proofs.laws.Machines.half_bit}
use Rattle.sheets.specs.Waits.{is_one, clears_half, clears_cell, clears_dword, clears_byte, clears_by, takes_it}
use Rattle.passes.proofs.laws.Marking.{eqb_sym}

module _ (n : ℕ) (below : n < 64) where
  abbrev taken : List Act → Bool
  taken xs = some_act (takes_latch n) xs

  one_brought : (x : Brought) (old : Bool) → old ≡ false → becomes x old ≡ is_one x
  one_brought nothing old e = e
  one_brought (bit b) old e = refl

  half_takes : (r : Register) (h : Bool) (v : ℕ) → taken (register_acts r h v) ≡ clears_half n v h r
  unfolding some_act
  half_takes map.id h v = refl
  half_takes map.mask h v = refl
  half_takes map.clear h v = or-false (on (as_half h v) n) ∙ half_bit h 0 v n below ∙ one_brought (brings h v n) (on 0 n) (on_none n)
  half_takes map.irr h v = refl
  half_takes map.isr h v = refl
  half_takes (map.plain p) h v = refl

  -- a route or vector byte takes nothing
  entry_takes : (o v : ℕ) → taken (entry_acts o v) ≡ false
  unfolding some_act entry_acts
  entry_takes o v = test (in_routes o) (λ t. rw t) (λ t. rw t (test (in_vectors o) (λ u. rw u) (λ u. rw u)))

  cell_takes : (o v : ℕ) (k : Cell) → taken (cell_acts o v k) ≡ clears_cell n v k
  unfolding some_act cell_acts
  cell_takes o v (map.half_of r h) = half_takes r h v
  cell_takes o v map.bytes =
      let a = entry_acts o (byte_of v 0) in
      let b = entry_acts (o + 1) (byte_of v 1) in
      let c = entry_acts (o + 2) (byte_of v 2) in
      let d = entry_acts (o + 3) (byte_of v 3) in
      let t = takes_latch n in
      some_append t a (b ++ (c ++ d))
      ∙ ap₂ ◌||◌ (entry_takes o (byte_of v 0)) (some_append t b (c ++ d) ∙ ap₂ ◌||◌ (entry_takes (o + 1) (byte_of v 1)) (some_append t c d ∙ ap₂ ◌||◌ (entry_takes (o + 2) (byte_of v 2)) (entry_takes (o + 3) (byte_of v 3))))
  cell_takes o v map.nothing = refl

  dword_takes : (o v : ℕ) → taken (dword_acts o v) ≡ clears_dword n o v
  unfolding dword_acts
  dword_takes o v = cell_takes o v (cell_at o)

  -- CLEAR reads as 0
  read_as_zero : (c : Core) (o j v : ℕ) (k : Cell) → clears_cell n (with_byte (read_cell c o k) j v) k ≡ clears_cell n (with_byte 0 j v) k
  unfolding read_cell value_of
  read_as_zero c o j v (map.half_of map.id h) = refl
  read_as_zero c o j v (map.half_of map.mask h) = refl
  read_as_zero c o j v (map.half_of map.clear true) = refl
  read_as_zero c o j v (map.half_of map.clear false) = refl
  read_as_zero c o j v (map.half_of map.irr h) = refl
  read_as_zero c o j v (map.half_of map.isr h) = refl
  read_as_zero c o j v (map.half_of (map.plain p) h) = refl
  read_as_zero c o j v map.bytes = refl
  read_as_zero c o j v map.nothing = refl

  byte_takes : (c : Core) (o v : ℕ) → taken (byte_acts c o v) ≡ clears_byte n o v
  unfolding byte_acts read_dword
  byte_takes c o v =
      let a = o - o % 4 in
      test (in_byte_area o) (λ t. rw t (entry_takes o v))
      (λ t. rw t (dword_takes a (with_byte (read_cell c a (cell_at a)) (o % 4) v) ∙ read_as_zero c a (o % 4) v (cell_at a)))

  write_takes : (c : Core) (w : Width) (o v : ℕ) → taken (write_acts c w o v) ≡ clears_by n w o v
  unfolding write_acts
  write_takes c byte o v = byte_takes c o (byte_of v 0)
  write_takes c word o v =
      let one = byte_acts c o (byte_of v 0) in
      let d = (turns c one).after in
      some_append (takes_latch n) one (byte_acts d (o + 1) (byte_of v 1)) ∙ ap₂ ◌||◌ (byte_takes c o (byte_of v 0)) (byte_takes d (o + 1) (byte_of v 1))
  write_takes c dword o v = dword_takes o (half false v)
  write_takes c qword o v =
      some_append (takes_latch n) (dword_acts o (half false v)) (dword_acts (o + 4) (half true v)) ∙ ap₂ ◌||◌ (dword_takes o (half false v)) (dword_takes (o + 4) (half true v))

  -- a call takes the latch of n exactly if its record says so
  pub takes_is : (d : Device) (c : Call) → call_takes n d c ≡ takes_it n c
  unfolding acts_of some_act
  takes_is d (level m true) = refl
  takes_is d (level m false) = or-false (only m n) ∙ eqb_sym n m
  takes_is d (poll m) = refl
  takes_is d (read w o) = refl
  takes_is d (write w o v) = write_takes d.core w o v
  takes_is d (drain k) = refl
