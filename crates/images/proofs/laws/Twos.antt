-- Things of two bytes each, as a ring's events are: written and spelled, once for every such thing; and the sixteen places that an image has for them.
use Rattle.basics.proofs.Prelude.{◌≡◌, refl, sym, ap, ◌∙◌, Bool, true, false, List, [], ◌∷◌, ◌++◌, map, ℕ, zero, suc, ◌+◌, ◌-◌, ◌*◌, ◌%◌, ◌^◌, ◌<◌, ◌≤◌, arith, eqb, lit<, lit≤, length, take, drop, get_or, replicate, length-append, length-replicate, length-drop, take-append-drop, get_or-drop, get_or-append-add, take_at, drop_at, drop-drop, Bytes, Twos, written, spelled, Each, bytes_append, bytes_replicate}
use Rattle.rules.specs.{Ring.Event, Ring.capacity, Ring.flag, Ring.event_twos, Numbering.number_twos}
use Rattle.images.specs.Image.{sixteen}

-- two bytes come back; a thing comes back, and its bytes are bytes
abbrev pub Comes : {A : Type 0} → Twos A → ℕ → ℕ → Type 0
Comes t a b = (t.low (t.made a b) ≡ a) × (t.high (t.made a b) ≡ b)

pub record Fit {A : Type 0} (t : Twos A) (x : A) : Type 0 where
  pub back : t.made (t.low x) (t.high x) ≡ x
  pub low : t.low x < 256
  pub high : t.high x < 256

twice_on : (i : ℕ) → 2 * suc i ≡ suc (suc (2 * i))
twice_on i = omega arith

module _ {A : Type 0} (t : Twos A) where
  pub length_written : (xs : List A) → length (written t xs) ≡ 2 * length xs
  length_written [] = refl
  length_written (x ∷ xs) = omega (arith, length_written xs)

  pub length_spelled : (n : ℕ) (l : List ℕ) → 2 * n ≤ length l → length (spelled t n l) ≡ n
  length_spelled zero l h = refl
  length_spelled (suc n) [] h = absurd (omega arith)
  length_spelled (suc n) (a ∷ []) h = absurd (omega arith)
  length_spelled (suc n) (a ∷ b ∷ l) h = ap suc (length_spelled n l (omega arith))

  pub spelled_written : (xs : List A) (rest : List ℕ) → Each (λ x. t.made (t.low x) (t.high x) ≡ x) xs → spelled t (length xs) (written t xs ++ rest) ≡ xs
  spelled_written [] rest h = refl
  spelled_written (x ∷ xs) rest h = (λ i. h.0 i ∷ spelled_written xs rest h.1 i)

  pub written_spelled : (n : ℕ) (l : List ℕ) → 2 * n ≤ length l → ((i : ℕ) → i < n → Comes t (get_or l (2 * i) 0) (get_or l (2 * i + 1) 0))
      → written t (spelled t n l) ≡ take (2 * n) l
  written_spelled zero l h c = refl
  written_spelled (suc n) [] h c = absurd (omega arith)
  written_spelled (suc n) (a ∷ []) h c = absurd (omega arith)
  written_spelled (suc n) (a ∷ b ∷ l) h c =
      let two_on : (i : ℕ) → 2 * suc i + 1 ≡ suc (suc (2 * i + 1)) = λ i. omega arith in
      let first = c 0 (omega arith) in
      let rest = written_spelled n l (omega arith) (λ i k. rw (two_on, twice_on) at (c (suc i) (omega arith))) in
      rw twice_on (λ j. first.0 j ∷ first.1 j ∷ rest j)

  pub bytes_written : (xs : List A) → Each (Fit t) xs → Bytes (written t xs)
  bytes_written [] h i = lit< tt
  bytes_written (x ∷ xs) h zero = h.0.low
  bytes_written (x ∷ xs) h (suc zero) = h.0.high
  bytes_written (x ∷ xs) h (suc (suc i)) = bytes_written xs h.1 i

-- ---- events

flag_at_most : (a : Bool) → flag a ≤ 1
flag_at_most true = lit≤ tt
flag_at_most false = lit≤ tt

pub flag_of : (a : Bool) → eqb (flag a) 1 ≡ a
flag_of true = refl
flag_of false = refl

of_flag : (a : ℕ) → a ≤ 1 → flag (eqb a 1) ≡ a
of_flag zero h = refl
of_flag (suc zero) h = refl
of_flag (suc (suc a)) h = absurd (omega arith)

pub event_comes : (a b : ℕ) → b ≤ 1 → Comes event_twos a b
event_comes a b h = (refl, of_flag b h)

event_back : (e : Event) → event_twos.made (event_twos.low e) (event_twos.high e) ≡ e
event_back e = λ i. record { vector = e.vector; asserted = flag_of e.asserted i }

pub events_back : (es : List Event) → Each (λ e. event_twos.made (event_twos.low e) (event_twos.high e) ≡ e) es
events_back [] = tt
events_back (e ∷ es) = (event_back e, events_back es)

pub events_fit : (es : List Event) → Bytes (map (λ e. e.vector) es) → Each (Fit event_twos) es
events_fit [] h = tt
events_fit (e ∷ es) h = (record { back = event_back e; low = h 0; high = omega (arith, flag_at_most e.asserted) }, events_fit es (λ i. h (suc i)))

-- flags of events that are written are 0 or 1
pub written_flags : (es : List Event) (rest : List ℕ) (i : ℕ) → i < 2 * length es → i % 2 ≡ 1 → get_or (written event_twos es ++ rest) i 0 ≤ 1
written_flags [] rest i h k = absurd (omega arith)
written_flags (e ∷ es) rest zero h k = absurd (omega arith)
written_flags (e ∷ es) rest (suc zero) h k = flag_at_most e.asserted
written_flags (e ∷ es) rest (suc (suc i)) h k = written_flags es rest i (omega arith) (omega arith)

-- vectors that are spelled from bytes are bytes
pub bytes_vectors : (n : ℕ) (l : List ℕ) → Bytes l → Bytes (map (λ e. e.vector) (spelled event_twos n l))
bytes_vectors zero l b i = lit< tt
bytes_vectors (suc n) [] b i = lit< tt
bytes_vectors (suc n) (v ∷ []) b i = lit< tt
bytes_vectors (suc n) (v ∷ f ∷ l) b zero = b 0
bytes_vectors (suc n) (v ∷ f ∷ l) b (suc i) = bytes_vectors n l (λ k. b (suc (suc k))) i

-- ---- numbers

pub number_comes : (a b : ℕ) → a < 256 → b < 256 → Comes number_twos a b
number_comes a b h k = (omega arith, omega arith)

pub numbers_fit : (ns : List ℕ) → ((i : ℕ) → get_or ns i 0 < 2 ^ 16) → Each (Fit number_twos) ns
numbers_fit [] h = tt
numbers_fit (n ∷ ns) h = (record { back = omega (arith, h 0); low = omega arith; high = omega arith }, numbers_fit ns (λ i. h (suc i)))

pub numbers_back : (ns : List ℕ) → ((i : ℕ) → get_or ns i 0 < 2 ^ 16) → Each (λ n. number_twos.made (number_twos.low n) (number_twos.high n) ≡ n) ns
numbers_back [] h = tt
numbers_back (n ∷ ns) h = (omega (arith, h 0), numbers_back ns (λ i. h (suc i)))

-- numbers that are spelled from bytes have 16 bits
pub numbers_small : (n : ℕ) (l : List ℕ) → Bytes l → (i : ℕ) → get_or (spelled number_twos n l) i 0 < 2 ^ 16
numbers_small zero l b i = lit< tt
numbers_small (suc n) [] b i = lit< tt
numbers_small (suc n) (v ∷ []) b i = lit< tt
numbers_small (suc n) (v ∷ f ∷ l) b zero = omega (arith, b 0, b 1)
numbers_small (suc n) (v ∷ f ∷ l) b (suc i) = numbers_small n l (λ k. b (suc (suc k))) i

-- ---- sixteen places

replicate_zero : (n i : ℕ) → ◌≡◌ {A = ℕ} (get_or (replicate n 0) i 0) 0
replicate_zero zero i = refl
replicate_zero (suc n) zero = refl
replicate_zero (suc n) (suc i) = replicate_zero n i

zeros : (l : List ℕ) → ((i : ℕ) → get_or l i 0 ≡ 0) → replicate (length l) 0 ≡ l
zeros [] z = refl
zeros (x ∷ l) z = (λ j. sym (z 0) j ∷ zeros l (λ i. z (suc i)) j)

module _ {A : Type 0} (t : Twos A) where
  pub length_sixteen : (xs : List A) → length xs ≤ capacity → length (sixteen t xs) ≡ 2 * capacity
  length_sixteen xs h = simp (length-append, length-replicate) (omega (arith, length_written t xs))

  pub bytes_sixteen : (xs : List A) → Each (Fit t) xs → Bytes (sixteen t xs)
  bytes_sixteen xs h =
      let n = 2 * capacity - 2 * length xs in
      bytes_append (written t xs) (replicate n 0) (bytes_written t xs h) (bytes_replicate n 0 (lit< tt))

  -- behind the things all is zero
  pub sixteen_unused : (xs : List A) (i : ℕ) → 2 * length xs ≤ i → get_or (sixteen t xs) i 0 ≡ 0
  sixteen_unused xs i h =
      let n = 2 * capacity - 2 * length xs in
      let k = i - length (written t xs) in
      let s : length (written t xs) + k ≡ i = omega (arith, length_written t xs) in
      ap (λ j. get_or (sixteen t xs) j 0) (sym s) ∙ get_or-append-add (written t xs) (replicate n 0) k 0 ∙ replicate_zero n k

  -- sixteen places of which n are used: spelled and written again
  pub sixteen_back : (n : ℕ) (l : List ℕ) → length l ≡ 2 * capacity → n ≤ capacity → ((i : ℕ) → i < n → Comes t (get_or l (2 * i) 0) (get_or l (2 * i + 1) 0))
      → ((i : ℕ) → 2 * n ≤ i → get_or l i 0 ≡ 0) → sixteen t (spelled t n l) ≡ l
  sixteen_back n l e h c z =
      let many = length_spelled t n l (omega arith) in
      let left : 2 * capacity - 2 * length (spelled t n l) ≡ length (drop (2 * n) l) = simp length-drop (omega (arith, many)) in
      (λ j. written_spelled t n l (omega arith) c j ++ replicate (left j) 0)
      ∙ ap (λ m. take (2 * n) l ++ m) (zeros (drop (2 * n) l) (λ i. get_or-drop (2 * n) l i 0 ∙ z (2 * n + i) (omega arith))) ∙ take-append-drop (2 * n) l

  -- one thing more, over two of the bytes behind them
  pub written_snoc : (xs : List A) (x : A) (rest : List ℕ) → written t (xs ++ (x ∷ [])) ++ rest ≡ written t xs ++ (t.low x ∷ t.high x ∷ rest)
  written_snoc [] x rest = refl
  written_snoc (y ∷ xs) x rest = ap (λ l. t.low y ∷ t.high y ∷ l) (written_snoc xs x rest)

  pub sixteen_snoc : (xs : List A) (x : A) → length xs < capacity
      → sixteen t (xs ++ (x ∷ [])) ≡ take (2 * length xs) (sixteen t xs) ++ ((t.low x ∷ t.high x ∷ []) ++ drop (2 * length xs + 2) (sixteen t xs))
  sixteen_snoc xs x h =
      let zeros : ℕ → List ℕ = λ n. replicate n 0 in
      let m = 2 * capacity - 2 * length (xs ++ (x ∷ [])) in
      let n = 2 * capacity - 2 * length xs in
      let fewer : n ≡ suc (suc m) = simp length-append (omega arith) in
      let long = length_written t xs in
      let behind : drop (2 * length xs + 2) (sixteen t xs) ≡ zeros m =
      sym (drop-drop 2 (2 * length xs) (sixteen t xs)) ∙ ap (drop 2) (drop_at (written t xs) (zeros n) (2 * length xs) long) ∙ ap (λ k. drop 2 (zeros k)) fewer
      in
      written_snoc xs x (zeros m) ∙ (λ j. sym (take_at (written t xs) (zeros n) (2 * length xs) long) j ++ (t.low x ∷ t.high x ∷ sym behind j))
