-- Bytes put in front of a buffer, part by part.
use Rattle.basics.proofs.Prelude.{◌≡◌, refl, sym, ap, ◌∙◌, List, ◌++◌, append-nil, append_assoc, ℕ, ◌+◌, ◌-◌, ◌≤◌, arith, length, take, drop, length-append, length-drop, take-append-drop, drop_of_length-le, take_at, drop_at, drop-drop, take-append-le, drop-append-le, take_all, length-take-le, put_mid, part}
use Rattle.traces.specs.plays.Playing.{in_front}

-- with room the buffer keeps its length
pub front_length : (xs es : List ℕ) → length xs ≤ length es → length (in_front xs es) ≡ length es
front_length xs es h = simp (length-append, length-drop) (omega (arith, h))

-- the first m bytes lent, with xs put in front of them
pub front_part : (xs es : List ℕ) (m : ℕ) → length xs ≤ m → m ≤ length es → put_mid 0 m es (in_front xs (part 0 m es)) ≡ in_front xs es
front_part xs es m h g =
    append_assoc xs (drop (length xs) (take m es)) (drop m es)
    ∙ ap (λ (l : List ℕ). xs ++ l) (sym (drop-append-le (length xs) (take m es) (drop m es) (rw (length-take-le m es g) h)) ∙ ap (drop (length xs)) (take-append-drop m es))

module _ (ps es : List ℕ) where
  taken : take (length ps) (in_front ps es) ≡ ps
  taken = take_at ps (drop (length ps) es) (length ps) refl

  left : drop (length ps) (in_front ps es) ≡ drop (length ps) es
  left = drop_at ps (drop (length ps) es) (length ps) refl

  joined : (ys : List ℕ) → ps ++ (ys ++ drop (length ys) (drop (length ps) es)) ≡ in_front (ps ++ ys) es
  joined ys =
      ap (λ (l : List ℕ). ps ++ (ys ++ l)) (drop-drop (length ys) (length ps) es) ∙ sym (append_assoc ps ys (drop (length ps + length ys) es))
      ∙ ap (λ (n : ℕ). (ps ++ ys) ++ drop n es) (sym (length-append ps ys))

  -- the next bytes lent and filled
  pub front_next : (ys : List ℕ) → put_mid (length ps) (length ys) (in_front ps es) ys ≡ in_front (ps ++ ys) es
  front_next ys = (λ t. taken t ++ (ys ++ drop (length ys) (left t))) ∙ joined ys

  -- all that is left lent, with ys put in front of it
  pub front_rest : (ys : List ℕ) (n : ℕ) → n ≡ length (in_front ps es) - length ps
      → put_mid (length ps) n (in_front ps es) (in_front ys (part (length ps) n (in_front ps es))) ≡ in_front (ps ++ ys) es
  front_rest ys n e =
      let long : length (drop (length ps) (in_front ps es)) ≤ n = simp length-drop (omega (arith, e)) in
      (λ t. taken t ++ ((ys ++ drop (length ys) (take_all n (drop (length ps) (in_front ps es)) long t)) ++ drop_of_length-le (drop (length ps) (in_front ps es)) long t))
      ∙ ap (λ (l : List ℕ). ps ++ l) (append-nil (ys ++ drop (length ys) (drop (length ps) (in_front ps es))))
      ∙ ap (λ (l : List ℕ). ps ++ (ys ++ drop (length ys) l)) left ∙ joined ys

-- a part of what stands in front of a buffer
pub part_front : (xs es : List ℕ) (m n : ℕ) → m + n ≤ length xs → part m n (in_front xs es) ≡ part m n xs
part_front xs es m n h =
    ap (take n) (drop-append-le m xs (drop (length xs) es) (omega (arith, h)))
    ∙ take-append-le n (drop m xs) (drop (length xs) es) (simp length-drop (omega (arith, h)))
