-- The arms over a register and over a cell.
use Rattle.basics.proofs.Prelude.{◌≡◌, refl, sym, ap, subst, ◌∙◌, Bool, true, false, cond, ◌&&◌, true≢false, ◌⊎◌, inl, inr, ⊎_elim, List, [], ◌∷◌, ℕ, ◌+◌, ◌-◌, ◌*◌, ◌/◌, ◌^◌, ◌<◌, arith, bit_and, ltb, byte_of, with_byte, on, without, half, as_half, without_is}
use Rattle.rules.specs.{Lines.Lines, Core.move, Core.clear}
use Rattle.rules.specs.Access.{Width, byte, word, dword, qword, value_of, register_acts, cell_acts, dword_acts, byte_acts, write_acts}
use Rattle.device.specs.{map.Views.register_view, declared.map.Register.Register}
use Rattle.passes.{specs.tallies.Following.Follows, specs.tallies.Following.heeded, specs.tallies.Following.ReadsAs, proofs.tallies.laws.Taking.follows_then}
use Rattle.passes.proofs.tallies.laws.Quiet.{follows_same, byte_of_half, byte_of_bytes, byte_of_none, dword_follows}
use Rattle.ledger.specs.watch_write.Pieces.{piece_width, place_of, Sized, width_of, PutIn}
use Rattle.rules.specs.Map as map
use Rattle.device.specs.declared.map.Register.TheVariants as register

-- ---- by the register that it is

module _ {l : Lines} {w : ℕ} {m : Lines} {u : ℕ} {b a : List ℕ} (k : ℕ) (h : Bool) (v : ℕ) where
  pub follows_as : {wide : Bool} {x y : Register} → x ≡ y → Follows wide l w m u b a k (λ c. register_acts (register_view y) h v) → Follows wide l w m u b a k (λ c. register_acts (register_view x) h v)
  follows_as {x} {y} e s = follows_same k (λ c. register_acts (register_view y) h v) (λ c. register_acts (register_view x) h v) (λ c _. ap (λ z. register_acts (register_view z) h v) (sym e)) s

  pub clear_half : {wide : Bool} {x : ℕ} → x ≡ as_half h v → Follows wide l w m u b a k (λ c. move (clear x) ∷ []) → Follows wide l w m u b a k (λ c. register_acts map.clear h v)
  clear_half {x} e s = follows_same k (λ c. move (clear x) ∷ []) (λ c. register_acts map.clear h v) (λ c _. ap (λ y. move (clear y) ∷ []) e) s

module _ (l : Lines) {x : Register} where
  pub unheeded : {y : Register} (v : ℕ) → x ≡ y → heeded (register_view y) ≡ false → ReadsAs l v (register_view x)
  unheeded v e z t = absurd (true≢false (sym t ∙ ap (λ r. heeded (register_view r)) e ∙ z))

  pub reads_mask : x ≡ register.Mask → ReadsAs l l.mask (register_view x)
  unfolding value_of
  reads_mask e t c z = ap (λ (m : Lines). m.mask) (sym z) ∙ ap (λ r. value_of c (register_view r)) (sym e)

  pub reads_clear : x ≡ register.Clear → ReadsAs l 0 (register_view x)
  unfolding value_of
  reads_clear e t c z = ap (λ r. value_of c (register_view r)) (sym e)

  pub reads_isr : x ≡ register.Isr → l.isr < 2 ^ 64 → l.mask < 2 ^ 64 → ReadsAs l (bit_and l.isr ((2 ^ 64 - 1) - l.mask)) (register_view x)
  unfolding value_of
  reads_isr e p q t c z = without_is l.isr l.mask p q ∙ ap (λ (m : Lines). without m.isr (on m.mask)) (sym z) ∙ ap (λ r. value_of c (register_view r)) (sym e)

-- ---- two parts

module _ {l : Lines} {w : ℕ} {m : Lines} {u : ℕ} {n : Lines} {v : ℕ} {b c a : List ℕ} (k o x : ℕ) where
  pub qword_follows : {wide : Bool} {p q : ℕ} → p ≡ half false x → q ≡ half true x → Follows wide l w m u b c k (λ _. dword_acts o p) → Follows wide m u n v c a k (λ _. dword_acts (o + 4) q) → Follows wide l w n v b a k (λ d. write_acts d qword o x)
  unfolding write_acts
  qword_follows e f s t =
      follows_then k (λ _. dword_acts o (half false x)) (λ _. dword_acts (o + 4) (half true x)) (follows_same k _ _ (λ _ _. ap (dword_acts o) e) s) (follows_same k _ _ (λ _ _. ap (dword_acts (o + 4)) f) t)

  pub word_follows : {wide : Bool} {p q : ℕ} → p ≡ byte_of x 0 → q ≡ byte_of x 1 → Follows wide l w m u b c k (λ d. byte_acts d o p) → Follows wide m u n v c a k (λ d. byte_acts d (o + 1) q) → Follows wide l w n v b a k (λ d. write_acts d word o x)
  unfolding write_acts
  word_follows e f s t =
      follows_then k (λ d. byte_acts d o (byte_of x 0)) (λ d. byte_acts d (o + 1) (byte_of x 1)) (follows_same k _ (λ d. byte_acts d o (byte_of x 0)) (λ d _. ap (byte_acts d o) e) s) (follows_same k _ (λ d. byte_acts d (o + 1) (byte_of x 1)) (λ d _. ap (byte_acts d (o + 1)) f) t)

-- ---- a Byte of a register

pub byte_half : {wide : Bool} {l : Lines} {w : ℕ} {m : Lines} {u : ℕ} {b a : List ℕ} (k o v : ℕ) → o < 2 ^ 64 → map.in_byte_area o ≡ false → (r : Register) (h : Bool)
    → map.half_of (register_view r) h ≡ map.cell_at (bit_and o 0xffff_ffff_ffff_fffc) → (x : ℕ) → ReadsAs l x (register_view r) → {y z : ℕ} → y ≡ half h x → z ≡ with_byte y (bit_and o 0x3) v
    → Follows wide l w m u b a k (λ c. register_acts (register_view r) h z) → Follows wide l w m u b a k (λ c. byte_acts c o v)
byte_half k o v lt out r h e x is {y} {z} f g s =
    byte_of_half k o v lt out (register_view r) h e x is
    (follows_same k (λ c. register_acts (register_view r) h z) (λ c. register_acts (register_view r) h (with_byte (half h x) (bit_and o 0x3) v)) (λ c _. ap (register_acts (register_view r) h) (g ∙ ap (λ q. with_byte q (bit_and o 0x3) v) f)) s)

-- ---- a Byte or a Dword

module _ (l : Lines) (w : ℕ) (b : List ℕ) (k o x : ℕ) where
  pub piece_inside : {wide : Bool} (n : Bool) → (n && map.in_byte_area o) ≡ true → Follows wide l w l w b b k (λ c. write_acts c (piece_width n) o x)
  unfolding write_acts
  piece_inside true t = byte_of_bytes l w b k o (byte_of x 0) t
  piece_inside false t = absurd (true≢false (sym t))

  pub piece_none : {wide : Bool} → o < 2 ^ 64 → (n : Bool) → (n && map.in_byte_area o) ≡ false → (p : ℕ) → p ≡ cond n (place_of o) o → (y : map.Cell) → y ≡ map.cell_at p
      → ((q v : ℕ) → Follows wide l w l w b b k (λ c. cell_acts q v y)) → Follows wide l w l w b b k (λ c. write_acts c (piece_width n) o x)
  unfolding write_acts
  piece_none lt true out p f y e s = byte_of_none l w b k o (byte_of x 0) lt out (e ∙ ap map.cell_at f) (λ v. s (place_of o) v)
  piece_none lt false out p f y e s = dword_follows k o (half false x) (e ∙ ap map.cell_at f) (s o (half false x))

pub piece_half : {wide : Bool} {l : Lines} {w : ℕ} {m : Lines} {u : ℕ} {b a : List ℕ} (k o x : ℕ) → o < 2 ^ 64 → (n : Bool) → (n && map.in_byte_area o) ≡ false → (r : Register) (h : Bool) (p : ℕ) → p ≡ cond n (place_of o) o
    → map.half_of (register_view r) h ≡ map.cell_at p → (z : ℕ) → PutIn l (register_view r) h o n x z → Follows wide l w m u b a k (λ c. register_acts (register_view r) h z) → Follows wide l w m u b a k (λ c. write_acts c (piece_width n) o x)
unfolding write_acts cell_acts
piece_half k o x lt true out r h p f e z q s = let g = q.0 refl in byte_half k o (byte_of x 0) lt out r h (e ∙ ap map.cell_at f) g.value g.reads refl g.is s
piece_half k o x lt false out r h p f e z q s =
    dword_follows k o (half false x) (e ∙ ap map.cell_at f)
    (follows_same k (λ c. register_acts (register_view r) h z) (λ c. register_acts (register_view r) h (half false x)) (λ c _. ap (register_acts (register_view r) h) (q.1 refl)) s)

-- ---- the four widths, part by part

as_width : {wide : Bool} {l : Lines} {w : ℕ} {m : Lines} {u : ℕ} {b a : List ℕ} (k x : ℕ) {i j : Width} {o p : ℕ} → i ≡ j → o ≡ p → Follows wide l w m u b a k (λ c. write_acts c i o x) → Follows wide l w m u b a k (λ c. write_acts c j p x)
as_width k x {i} {j} {o} {p} e f s = follows_same k (λ c. write_acts c i o x) (λ c. write_acts c j p x) (λ c _ t. write_acts c (e t) (f t) x) s

-- the last part is all that is left
pub last_part : {wide : Bool} {l : Lines} {w : ℕ} {m : Lines} {u : ℕ} {b a : List ℕ} (k o x n : ℕ) → (n ≡ 1) ⊎ (n ≡ 4) → Follows wide l w m u b a k (λ c. write_acts c (piece_width (ltb n 4)) o x) → Follows wide l w m u b a k (λ c. write_acts c (width_of n) o x)
last_part k o x n is s =
    ⊎_elim (λ e. as_width k x (ap (λ j. piece_width (ltb j 4)) e ∙ sym (ap width_of e)) refl s) (λ e. as_width k x (ap (λ j. piece_width (ltb j 4)) e ∙ sym (ap width_of e)) refl s) is

-- one part, and then the rest
module _ {l : Lines} {w : ℕ} {m : Lines} {u : ℕ} {n : Lines} {v : ℕ} {b c a : List ℕ} (k o x p y i j : ℕ) where
  word_parts : {wide : Bool} → i ≡ 2 → j ≡ 1 → p ≡ o + 1 → byte_of y 0 ≡ byte_of x 1 → Follows wide l w m u b c k (λ d. write_acts d (piece_width (ltb i 4)) o x) → Follows wide m u n v c a k (λ d. write_acts d (width_of j) p y) → Follows wide l w n v b a k (λ d. write_acts d (width_of i) o x)
  unfolding write_acts
  word_parts e f g h s t =
      as_width k x (sym (ap width_of e)) refl
      (word_follows k o x refl h (as_width k x {j = byte} (ap (λ z. piece_width (ltb z 4)) e) refl s) (as_width k y {j = byte} (ap width_of f) g t))

  qword_parts : {wide : Bool} → i ≡ 8 → j ≡ 4 → p ≡ o + 4 → half false y ≡ half true x → Follows wide l w m u b c k (λ d. write_acts d (piece_width (ltb i 4)) o x) → Follows wide m u n v c a k (λ d. write_acts d (width_of j) p y) → Follows wide l w n v b a k (λ d. write_acts d (width_of i) o x)
  unfolding write_acts
  qword_parts e f g h s t =
      as_width k x (sym (ap width_of e)) refl
      (qword_follows k o x refl h (as_width k x {j = dword} (ap (λ z. piece_width (ltb z 4)) e) refl s) (as_width k y {j = dword} (ap width_of f) g t))

  pub parts : {wide : Bool} → Sized i → (i ≡ 1 → ⊥) → (i ≡ 4 → ⊥) → x < 2 ^ 64 → j ≡ i / 2 → p ≡ o + i / 2 → y ≡ x / 2 ^ (4 * i) → Follows wide l w m u b c k (λ d. write_acts d (piece_width (ltb i 4)) o x) → Follows wide m u n v c a k (λ d. write_acts d (width_of j) p y)
      → Follows wide l w n v b a k (λ d. write_acts d (width_of i) o x)
  parts is one four lt f g h s t =
      ⊎_elim (λ e. absurd (one e))
      (λ r. ⊎_elim (λ e. word_parts e (f ∙ ap (λ z. z / 2) e) (g ∙ ap (λ z. o + z / 2) e) (next_byte (h ∙ ap (λ z. x / 2 ^ (4 * z)) e)) s t)
      (λ q. ⊎_elim (λ e. absurd (four e)) (λ e. qword_parts e (f ∙ ap (λ z. z / 2) e) (g ∙ ap (λ z. o + z / 2) e) (next_half (h ∙ ap (λ z. x / 2 ^ (4 * z)) e)) s t) q) r) is
    where
      next_byte : y ≡ x / 256 → byte_of y 0 ≡ byte_of x 1
      next_byte e = omega (arith, e)

      next_half : y ≡ x / 2 ^ 32 → half false y ≡ half true x
      next_half e = omega (arith, e, lt)

-- what finishes what is left finishes the write
abbrev pub Finishes : (wide : Bool) (l : Lines) (w : ℕ) (b : List ℕ) (n o v : ℕ) (m : Lines) (u : ℕ) (c : List ℕ) (left at x : ℕ) → ℕ → Type 0
Finishes wide l w b n o v m u c left at x k =
    (z : Lines) (s : ℕ) (a : List ℕ) → Follows wide m u z s c a k (λ d. write_acts d (width_of left) at x) → Follows wide l w z s b a k (λ d. write_acts d (width_of n) o v)

pub sized_half : (i : ℕ) → Sized i → (i ≡ 1 → ⊥) → (i ≡ 4 → ⊥) → Sized (i / 2)
sized_half i is one four =
    ⊎_elim (λ e. absurd (one e)) (λ r. ⊎_elim (λ e. inl (ap (λ z. z / 2) e)) (λ q. ⊎_elim (λ e. absurd (four e)) (λ e. inr (inr (inl (ap (λ z. z / 2) e)))) q) r) is

pub next_small : (i x : ℕ) → Sized i → x < 2 ^ 64 → x / 2 ^ (4 * i) < 2 ^ 64
next_small i x is h = ⊎_elim (λ e. at 1 e (omega (arith, h))) (λ r. ⊎_elim (λ e. at 2 e (omega (arith, h))) (λ q. ⊎_elim (λ e. at 4 e (omega (arith, h))) (λ e. at 8 e (omega (arith, h))) q) r) is
  where
    at : (j : ℕ) → i ≡ j → x / 2 ^ (4 * j) < 2 ^ 64 → x / 2 ^ (4 * i) < 2 ^ 64
    at j e p = subst (λ z. x / 2 ^ (4 * z) < 2 ^ 64) (sym e) p
