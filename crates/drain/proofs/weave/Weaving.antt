-- Pairs and numbers woven by a loop: one round more.
use Rattle.basics.proofs.Prelude.{◌≡◌, sym, ap, ◌∙◌, List, [], ◌∷◌, ◌++◌, append_assoc, ℕ, zero, suc, ◌+◌, ◌-◌, ◌*◌, ◌<◌, ◌≤◌, arith, lit<, length, take, drop, get_or, length-append, length-drop, drop-cons, length-take-le, take_at, part, number_of, bytes_of, bytes_of_number_of, Bytes}
use Rattle.bits.specs.bytes.Put.{with_bytes}
use Rattle.drain.specs.weave.Weave.{woven}

-- the first 4 * k bytes have been written
pub record Weaving (ps ns out : List ℕ) (n k : ℕ) : Type 0 where
  pub size : length out ≡ 4 * n
  pub front : take (4 * k) out ++ woven (drop (2 * k) ps) (drop (2 * k) ns) ≡ woven ps ns

-- the next two bytes of a list that is read in step
next_two : (l : List ℕ) (k : ℕ) → 2 * k + 2 ≤ length l → drop (2 * k) l ≡ get_or l (2 * k) 0 ∷ get_or l (2 * k + 1) 0 ∷ drop (2 * (k + 1)) l
next_two l k h =
    let one : suc (2 * k) ≡ 2 * k + 1 = omega arith in
    let two : suc (suc (2 * k)) ≡ 2 * (k + 1) = omega arith in
    drop-cons l (2 * k) 0 (omega arith) ∙ ap (λ m. get_or l (2 * k) 0 ∷ m) (drop-cons l (suc (2 * k)) 0 (omega arith)) ∙ (λ t. get_or l (2 * k) 0 ∷ get_or l (one t) 0 ∷ drop (two t) l)

-- the number that two bytes spell, read in step
two_read : (l : List ℕ) (k : ℕ) → 2 * k + 2 ≤ length l → {x : ℕ} → x ≡ number_of (part (2 * k) (2 * k + 2 - 2 * k) l) → x ≡ get_or l (2 * k) 0 + 256 * get_or l (2 * k + 1) 0
two_read l k h e =
    let w : 2 * k + 2 - 2 * k ≡ 2 = omega arith in
    e ∙ (λ t. number_of (take (w t) (next_two l k h t))) ∙ omega arith

pub two_below : (l : List ℕ) (k : ℕ) → Bytes l → 2 * k + 2 ≤ length l → {x : ℕ} → x ≡ number_of (part (2 * k) (2 * k + 2 - 2 * k) l) → x < 65536
two_below l k b h e = omega (arith, two_read l k h e, b (2 * k), b (2 * k + 1))

-- the four bytes of an event
four_of : (a b c d : ℕ) → a < 256 → b < 256 → c < 256 → d < 256 → bytes_of 4 (a + 256 * b + 65536 * (c + 256 * d)) ≡ a ∷ b ∷ c ∷ d ∷ []
four_of a b c d p q r s =
    let e : a + 256 * b + 65536 * (c + 256 * d) ≡ number_of (a ∷ b ∷ c ∷ d ∷ []) = omega arith in
    ap (bytes_of 4) e ∙ bytes_of_number_of (a ∷ b ∷ c ∷ d ∷ []) each
  where
    each : Bytes (a ∷ b ∷ c ∷ d ∷ [])
    each zero = p
    each (suc zero) = q
    each (suc (suc zero)) = r
    each (suc (suc (suc zero))) = s
    each (suc (suc (suc (suc i)))) = lit< tt

module _ {ps ns out : List ℕ} {n k : ℕ} (w : Weaving ps ns out n k) (lp : length ps ≡ 2 * n) (ln : length ns ≡ 2 * n) where
  abbrev four : List ℕ
  four = get_or ps (2 * k) 0 ∷ get_or ps (2 * k + 1) 0 ∷ get_or ns (2 * k) 0 ∷ get_or ns (2 * k + 1) 0 ∷ []

  pub weaving_next : k < n → Bytes ps → Bytes ns → {x y : ℕ} → x ≡ number_of (part (2 * k) (2 * k + 2 - 2 * k) ps) → y ≡ number_of (part (2 * k) (2 * k + 2 - 2 * k) ns)
      → {to : List ℕ} → to ≡ with_bytes (4 * k) 4 (x + 65536 * y) out → Weaving ps ns to n (k + 1)
  weaving_next h bp bn {x} {y} ex ey {to} e =
      let ahead : length (take (4 * k) out ++ four) ≡ 4 * (k + 1) = length-append (take (4 * k) out) four ∙ omega (arith, w.size, length-take-le (4 * k) out (omega (arith, w.size))) in
      let is : bytes_of 4 (x + 65536 * y) ≡ four =
      (λ t. bytes_of 4 (two_read ps k (omega arith) ex t + 65536 * two_read ns k (omega arith) ey t)) ∙ four_of (get_or ps (2 * k) 0) (get_or ps (2 * k + 1) 0) (get_or ns (2 * k) 0) (get_or ns (2 * k + 1) 0) (bp _) (bp _) (bn _) (bn _)
      in
      let wrote : to ≡ (take (4 * k) out ++ four) ++ drop (4 * k + 4) out = e ∙ ap (λ l. take (4 * k) out ++ (l ++ drop (4 * k + 4) out)) is ∙ sym (append_assoc (take (4 * k) out) four (drop (4 * k + 4) out)) in
      let rest = woven (drop (2 * (k + 1)) ps) (drop (2 * (k + 1)) ns) in
      record {
        size = ap length wrote ∙ simp (length-append, length-drop) (omega (arith, w.size, length-take-le (4 * k) out (omega (arith, w.size))));
        front =
            ap (λ l. take (4 * (k + 1)) l ++ rest) wrote ∙ ap (λ l. l ++ rest) (take_at (take (4 * k) out ++ four) (drop (4 * k + 4) out) (4 * (k + 1)) ahead)
            ∙ append_assoc (take (4 * k) out) four rest ∙ (λ t. take (4 * k) out ++ woven (sym (next_two ps k (omega arith)) t) (sym (next_two ns k (omega arith)) t)) ∙ w.front;
      }
