-- 02, C-13: 'Only the unmask step looks across inputs.' Unless a call reaches MASK, the machine of input n after it depends on that machine alone: two engines that have it in common, whatever else
-- they hold, have it in common after the call.
use Rattle.basics.proofs.Prelude.{◌≡◌, refl, sym, ap, ◌∙◌, Bool, true, false, cond, not, ◌&&◌, ◌||◌, true≢false, ℕ, ◌+◌, ◌-◌, ◌*◌, ◌/◌, ◌%◌, ◌^◌, ◌<◌, mod-lt, arith, eqb, ltb, eqb-true, ltb-true, ltb-false, byte_of, with_byte, half, on, test, on_mod, on_below, on_above, on_down, on_number, pow-add, pow_pos}
use Rattle.rules.specs.Map as map
use Rattle.rules.specs.Map.{Register, Cell, in_routes, in_vectors, in_byte_area, cell_at}
use Rattle.rules.specs.Access.{Width, byte, word, dword, qword}
use Rattle.rules.specs.Device.{Call, level, poll, read, write, drain}
use Rattle.laws.proofs.laws.Halves.{placed, on_half, byte_place}
use Rattle.histories.{specs.Premises.byte_reaches, specs.Premises.reaches, specs.Premises.is_mask, specs.Premises.writes_mask, proofs.laws.Reach.is_mask_half, proofs.laws.Reach.mask_elsewhere}
use Rattle.plain.specs.Machine.{Machine, polls, raises, lowers}
use Rattle.plain.specs.Plain.{bit, Engine, Steps, at, stepping, offers, returns, heard, with_machines, brings, cleared_by, served_by, value_of, read_cell, read_dword, write_half, write_entry, write_cell, write_dword, write_byte, write_at, number_below, gives}
use Rattle.plain.proofs.laws.{Queues.offers_else, Queues.returns_else, Accesses.number_is}

-- ---- a byte replaced, bit by bit

-- a bit of a number with the byte at place k replaced is a bit of that byte, or of the number
byte_bits : (x y k v i : ℕ) → v < 256 → on x i ≡ on y i → on (with_byte x k v) i ≡ on (with_byte y k v) i
byte_bits x y k v i l e = shape x ∙ bits ∙ sym (shape y)
  where
    shape : (z : ℕ) → on (with_byte z k v) i ≡ on ((z / 2 ^ (k * 8 + 8) * 2 ^ 8 + v) * 2 ^ (k * 8) + z % 2 ^ (k * 8)) i
    shape z =
        let p = byte_place k in
        let q : 2 ^ (k * 8 + 8) ≡ 256 ^ (k + 1) = (let s : k * 8 + 8 ≡ (k + 1) * 8 = omega arith in ap (λ j. 2 ^ j) s ∙ byte_place (k + 1)) in
        let r = pow-add 2 (k * 8) 8 in
        ap (λ j. on j i) (rw (← p, ← q, r) (omega arith))

    inner : (z : ℕ) (j : ℕ) → on ((z / 2 ^ (k * 8 + 8) * 2 ^ 8 + v) * 2 ^ (k * 8) + z % 2 ^ (k * 8)) (k * 8 + j) ≡ on (z / 2 ^ (k * 8 + 8) * 2 ^ 8 + v) j
    inner z j = on_above (k * 8) (z / 2 ^ (k * 8 + 8) * 2 ^ 8 + v) (z % 2 ^ (k * 8)) j (mod-lt z (pow_pos (k * 8)))

    bits : on ((x / 2 ^ (k * 8 + 8) * 2 ^ 8 + v) * 2 ^ (k * 8) + x % 2 ^ (k * 8)) i ≡ on ((y / 2 ^ (k * 8 + 8) * 2 ^ 8 + v) * 2 ^ (k * 8) + y % 2 ^ (k * 8)) i
    bits =
        test (ltb i (k * 8))
        (λ t. let below = ltb-true i (k * 8) t in
        on_below (k * 8) (x / 2 ^ (k * 8 + 8) * 2 ^ 8 + v) (x % 2 ^ (k * 8)) i below ∙ on_mod (k * 8) x i below ∙ e
        ∙ sym (on_below (k * 8) (y / 2 ^ (k * 8 + 8) * 2 ^ 8 + v) (y % 2 ^ (k * 8)) i below ∙ on_mod (k * 8) y i below))
        (λ t. let j = i - k * 8 in
        let is : k * 8 + (i - k * 8) ≡ i = omega (arith, ltb-false i (k * 8) t) in
        test (ltb j 8)
        (λ u. let small = ltb-true j 8 u in
        rw (← is) (inner x j ∙ on_below 8 (x / 2 ^ (k * 8 + 8)) v j small ∙ sym (inner y j ∙ on_below 8 (y / 2 ^ (k * 8 + 8)) v j small)))
        (λ u. let m = j - 8 in
        let at_j : 8 + (j - 8) ≡ j = omega (arith, ltb-false j 8 u) in
        let at_i : k * 8 + 8 + (j - 8) ≡ i = omega (arith, is, at_j) in
        let far : (z : ℕ) → on (z / 2 ^ (k * 8 + 8) * 2 ^ 8 + v) j ≡ on z i = λ z.
        ap (on (z / 2 ^ (k * 8 + 8) * 2 ^ 8 + v)) (sym at_j) ∙ on_above 8 (z / 2 ^ (k * 8 + 8)) v m l ∙ on_down (k * 8 + 8) z m ∙ ap (on z) at_i in
        ap (on ((x / 2 ^ (k * 8 + 8) * 2 ^ 8 + v) * 2 ^ (k * 8) + x % 2 ^ (k * 8))) (sym is) ∙ inner x j ∙ far x ∙ e
        ∙ sym (ap (on ((y / 2 ^ (k * 8 + 8) * 2 ^ 8 + v) * 2 ^ (k * 8) + y % 2 ^ (k * 8))) (sym is) ∙ inner y j ∙ far y)))

module _ (n : ℕ) (below : n < 64) where
  abbrev Agree : Engine → Engine → Type 0
  Agree e f = e.machines n ≡ f.machines n

  -- a step of all machines is a step of n's
  offered_step : (g : Steps) (e : Engine) → (stepping offers g e).machines n ≡ (g n (e.machines n)).after
  offered_step g e = ap (λ (ms : ℕ → Machine). ms n) (offers_else (with_machines e (λ k. (g k (e.machines k)).after)) (heard g e)).machines

  returned_step : (g : Steps) (e : Engine) → (stepping returns g e).machines n ≡ (g n (e.machines n)).after
  returned_step g e = ap (λ (ms : ℕ → Machine). ms n) (returns_else (with_machines e (λ k. (g k (e.machines k)).after)) (heard g e)).machines

  -- a half that brings n the same to both
  half_agrees : (e f : Engine) (r : Register) (h : Bool) (v w : ℕ) → is_mask_half (map.half_of r h) ≡ false → brings h v n ≡ brings h w n → Agree e f → Agree (write_half e r h v) (write_half f r h w)
  unfolding write_half
  half_agrees e f map.id h v w m b a = a
  half_agrees e f map.mask h v w m b a = absurd (true≢false m)
  half_agrees e f map.clear h v w m b a =
      offered_step (λ k. cleared_by (brings h v k)) e ∙ (λ t. (cleared_by (b t) (a t)).after) ∙ sym (offered_step (λ k. cleared_by (brings h w k)) f)
  half_agrees e f map.irr h v w m b a = a
  half_agrees e f map.isr h v w m b a =
      offered_step (λ k. served_by (brings h v k)) e ∙ (λ t. (served_by (b t) (a t)).after) ∙ sym (offered_step (λ k. served_by (brings h w k)) f)
  half_agrees e f (map.plain p) h v w m b a = a

  -- a route or vector byte leaves every machine
  entry_keeps : (e : Engine) (o v : ℕ) → (write_entry e o v).machines n ≡ e.machines n
  unfolding write_entry
  entry_keeps e o v = test (in_routes o) (λ t. rw t) (λ t. rw t (test (in_vectors o) (λ u. rw u) (λ u. rw u)))

  bytes_keep : (e : Engine) (o v : ℕ) → (write_cell e o v map.bytes).machines n ≡ e.machines n
  unfolding write_cell
  bytes_keep e o v =
      let one = write_entry e o (byte_of v 0) in
      let two = write_entry one (o + 1) (byte_of v 1) in
      let three = write_entry two (o + 2) (byte_of v 2) in
      entry_keeps three (o + 3) (byte_of v 3) ∙ entry_keeps two (o + 2) (byte_of v 2) ∙ entry_keeps one (o + 1) (byte_of v 1) ∙ entry_keeps e o (byte_of v 0)

  cell_agrees : (e f : Engine) (o v w : ℕ) (k : Cell) → is_mask_half k ≡ false → ((h : Bool) → brings h v n ≡ brings h w n) → Agree e f → Agree (write_cell e o v k) (write_cell f o w k)
  unfolding write_cell
  cell_agrees e f o v w (map.half_of r h) m b a = half_agrees e f r h v w m (b h) a
  cell_agrees e f o v w map.bytes m b a = bytes_keep e o v ∙ a ∙ sym (bytes_keep f o w)
  cell_agrees e f o v w map.nothing m b a = a

  dword_agrees : (e f : Engine) (o v : ℕ) → is_mask o ≡ false → Agree e f → Agree (write_dword e o v) (write_dword f o v)
  unfolding write_dword
  dword_agrees e f o v m a = cell_agrees e f o v v (cell_at o) (mask_elsewhere o m) (λ h. refl) a

  -- ---- a Byte of ISR: the bits beside it are read, each from its own machine

  in_half : (h : Bool) → eqb (n / 32) (cond h 1 0) ≡ true → placed h (n % 32) ≡ n
  in_half true t = let z = eqb-true (n / 32) 1 t in omega (arith, z)
  in_half false t = let z = eqb-true (n / 32) 0 t in omega (arith, z)

  brought_alike : (h : Bool) (p q : ℕ → Bool) (k v : ℕ) → v < 256 → p n ≡ q n → brings h (with_byte (half h (number_below 64 p)) k v) n ≡ brings h (with_byte (half h (number_below 64 q)) k v) n
  unfolding on
  brought_alike h p q k v l e =
      test (eqb (n / 32) (cond h 1 0))
      (λ t. rw t (ap (λ b. bit b) (byte_bits (half h (number_below 64 p)) (half h (number_below 64 q)) k v (n % 32) l (bit_of p t ∙ e ∙ sym (bit_of q t)))))
      (λ t. rw t)
    where
      bit_of : (g : ℕ → Bool) → eqb (n / 32) (cond h 1 0) ≡ true → on (half h (number_below 64 g)) (n % 32) ≡ g n
      bit_of g t = on_half h (number_below 64 g) (n % 32) (omega arith) ∙ ap (on (number_below 64 g)) (in_half h t) ∙ ap (λ x. on x n) (number_is 64 g) ∙ on_number 64 g n below

  byte_cell : (e f : Engine) (o j v : ℕ) (k : Cell) → v < 256 → is_mask_half k ≡ false → Agree e f → Agree (write_cell e o (with_byte (read_cell e o k) j v) k) (write_cell f o (with_byte (read_cell f o k) j v) k)
  unfolding write_cell read_cell value_of write_half
  byte_cell e f o j v (map.half_of map.id h) l m a = a
  byte_cell e f o j v (map.half_of map.mask h) l m a = absurd (true≢false m)
  byte_cell e f o j v (map.half_of map.clear h) l m a = half_agrees e f map.clear h (with_byte (half h 0) j v) (with_byte (half h 0) j v) refl refl a
  byte_cell e f o j v (map.half_of map.irr h) l m a = a
  byte_cell e f o j v (map.half_of map.isr h) l m a =
      let p : ℕ → Bool = λ i. (e.machines i).in_service && not (e.machines i).masked in
      let q : ℕ → Bool = λ i. (f.machines i).in_service && not (f.machines i).masked in
      half_agrees e f map.isr h (with_byte (half h (number_below 64 p)) j v) (with_byte (half h (number_below 64 q)) j v) refl
      (brought_alike h p q j v l (ap (λ (x : Machine). x.in_service && not x.masked) a)) a
  byte_cell e f o j v (map.half_of (map.plain p) h) l m a = a
  byte_cell e f o j v map.bytes l m a = bytes_keep e o _ ∙ a ∙ sym (bytes_keep f o _)
  byte_cell e f o j v map.nothing l m a = a

  byte_agrees : (e f : Engine) (o v : ℕ) → v < 256 → byte_reaches is_mask o ≡ false → Agree e f → Agree (write_byte e o v) (write_byte f o v)
  unfolding write_byte write_dword read_dword
  byte_agrees e f o v l m a =
      let i = o - o % 4 in
      test (in_byte_area o) (λ t. rw t (entry_keeps e o v ∙ a ∙ sym (entry_keeps f o v)))
      (λ t. rw t (byte_cell e f i (o % 4) v (cell_at i) l (mask_elsewhere i (rw t at m)) a))

  -- ---- calls

  neither_of : (x y : Bool) → (x || y) ≡ false → (x ≡ false) × (y ≡ false)
  neither_of true y u = absurd (true≢false u)
  neither_of false y u = (refl, u)

  byte_small : (v k : ℕ) → byte_of v k < 256
  byte_small v k = omega arith

  write_agrees : (e f : Engine) (w : Width) (o v : ℕ) → reaches is_mask w o ≡ false → Agree e f → Agree (write_at e w o v) (write_at f w o v)
  unfolding write_at
  write_agrees e f byte o v m a = byte_agrees e f o (byte_of v 0) (byte_small v 0) m a
  write_agrees e f word o v m a =
      let both = neither_of (byte_reaches is_mask o) (byte_reaches is_mask (o + 1)) m in
      byte_agrees (write_byte e o (byte_of v 0)) (write_byte f o (byte_of v 0)) (o + 1) (byte_of v 1) (byte_small v 1) both.1 (byte_agrees e f o (byte_of v 0) (byte_small v 0) both.0 a)
  write_agrees e f dword o v m a = dword_agrees e f o (half false v) m a
  write_agrees e f qword o v m a =
      let both = neither_of (is_mask o) (is_mask (o + 4)) m in
      dword_agrees (write_dword e o (half false v)) (write_dword f o (half false v)) (o + 4) (half true v) both.1 (dword_agrees e f o (half false v) both.0 a)

  -- State it once over the input number: n is any, and so are the other machines, the stored bytes, the list and the history of both.
  pub depends_on_itself : (c : Call) → writes_mask c ≡ false → (e f : Engine) → e.machines n ≡ f.machines n → (gives e c).after.machines n ≡ (gives f c).after.machines n
  unfolding gives
  depends_on_itself (level m true) w e f a = returned_step (at m raises) e ∙ ap (λ x. (at m raises n x).after) a ∙ sym (returned_step (at m raises) f)
  depends_on_itself (level m false) w e f a = returned_step (at m lowers) e ∙ ap (λ x. (at m lowers n x).after) a ∙ sym (returned_step (at m lowers) f)
  depends_on_itself (poll m) w e f a = returned_step (at m polls) e ∙ ap (λ x. (at m polls n x).after) a ∙ sym (returned_step (at m polls) f)
  depends_on_itself (read x o) w e f a = a
  depends_on_itself (write x o v) w e f a = write_agrees e f x o v w a
  depends_on_itself (drain k) w e f a = a
