-- A room of twice the length: sixteen things of two bytes, and as many zeros behind them. What is left behind some of them stands there in one run.
use Rattle.basics.proofs.Prelude.{◌≡◌, sym, ap, ◌∙◌, List, ◌++◌, append_assoc, ℕ, ◌+◌, ◌-◌, ◌≤◌, arith, length, take, drop, replicate, length-append, length-drop, length-replicate, replicate-append-replicate, take_at, drop-append-le, put_mid}

abbrev pub zeros : ℕ → List ℕ
zeros n = replicate n 0

pub zeros_append : (a b : ℕ) → zeros a ++ zeros b ≡ zeros (a + b)
zeros_append a b = replicate-append-replicate a b 0

-- the bytes past the first `taken`, and as many zeros
abbrev pub past : List ℕ → ℕ → List ℕ
past l taken = drop taken l ++ zeros taken

-- with as many zeros behind them as there are bytes, they stand in one run
module _ (l : List ℕ) (taken : ℕ) (long : length l ≡ 32) (h : taken ≤ 32) where
  length_past : length (past l taken) ≡ 32
  length_past = length-append (drop taken l) (zeros taken) ∙ (λ t. length-drop taken l t + length-replicate {A = ℕ} taken 0 t) ∙ omega arith

  pub in_the_room : take 32 (drop taken (l ++ zeros 32)) ≡ past l taken
  in_the_room =
      let more : 32 ≡ taken + (32 - taken) = omega arith in
      ap (take 32) (drop-append-le taken l (zeros 32) (omega arith) ∙ ap (λ z. drop taken l ++ z) (ap zeros more ∙ sym (zeros_append taken (32 - taken))) ∙ sym (append_assoc (drop taken l) (zeros taken) (zeros (32 - taken))))
      ∙ take_at (past l taken) (zeros (32 - taken)) 32 length_past

-- the room keeps its length
pub length_room : (before mid : List ℕ) → length before ≡ 32 → mid ≡ before → length (put_mid 0 (32 - 0) (zeros 64) mid) ≡ 64
length_room before mid long e = length-append mid (zeros 32) ∙ ap (λ l. length l + 32) e ∙ ap (λ k. k + 32) long
