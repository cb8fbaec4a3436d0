-- Events in the slots of a ring, written as pairs of bytes.
use Rattle.basics.proofs.Prelude.{◌≡◌, refl, sym, ap, ◌∙◌, Bool, false, List, ◌∷◌, ◌++◌, append-nil, ℕ, zero, suc, ◌+◌, ◌-◌, ◌*◌, ◌%◌, ◌<◌, ◌≤◌, sub-zero, arith, length, take, drop, get_or, set, replicate, length-set, take-append-drop, drop-drop, drop-set-lt, take_all, turn}
use Rattle.rules.specs.Ring.{Event, capacity, flag, event_twos, pairs_of}
use Rattle.images.specs.Image.{sixteen}
use Rattle.device.specs.state.View.{slot, slots}

module _ (vs : List ℕ) (fs : List Bool) where
  -- fewer slots are the first of the events
  pub take_slots : (h n m : ℕ) → n ≤ m → take n (slots vs fs h m) ≡ slots vs fs h n
  unfolding slots
  take_slots h zero m k = refl
  take_slots h (suc n) zero k = absurd (omega arith)
  take_slots h (suc n) (suc m) k = ap (λ es. slot vs fs h ∷ es) (take_slots (suc h) n m (omega arith))

  slots_next : (h n i : ℕ) → i < n → slots vs fs (h + i) (n - i) ≡ slot vs fs (h + i) ∷ slots vs fs (h + (i + 1)) (n - (i + 1))
  unfolding slots
  slots_next h n i k =
      let s : n - i ≡ suc (n - (i + 1)) = omega arith in
      let j : suc (h + i) ≡ h + (i + 1) = omega arith in
      ap (slots vs fs (h + i)) s ∙ ap (λ m. slot vs fs (h + i) ∷ slots vs fs m (n - (i + 1))) j

  -- out was out₀, and the first i of n events from slot h on are written to its front
  pub record Written (h n : ℕ) (out₀ out : List ℕ) (i : ℕ) : Type 0 where
    pub size : length out ≡ length out₀
    pub front : take (2 * i) out ++ pairs_of (slots vs fs (h + i) (n - i)) ≡ pairs_of (slots vs fs h n)
    pub past : drop (2 * i) out ≡ drop (2 * i) out₀

  module _ {h n i : ℕ} {out₀ out : List ℕ} (w : Written h n out₀ out i) where
    pub written_next : i < n → 2 * n ≤ length out₀ → (f : ℕ) → f ≡ flag (get_or fs ((h + i) % 16) false)
        → Written h n out₀ (set (set out (2 * i) (get_or vs ((h + i) % 16) 0)) (2 * i + 1) f) (i + 1)
    written_next k room f e =
        let v = get_or vs ((h + i) % 16) 0 in
        let one = set out (2 * i) v in
        let two : 2 * (i + 1) ≡ 2 * i + 1 + 1 = omega arith in
        let more : 2 * (i + 1) ≡ 2 * i + 2 = omega arith in
        let left = pairs_of (slots vs fs (h + (i + 1)) (n - (i + 1))) in
        let vector = turn out _ (2 * i) v (omega arith) w.front (ap pairs_of (slots_next h n i k) ∙ ap (λ x. v ∷ x ∷ left) (sym e)) in
        record {
          size = length-set one (2 * i + 1) f ∙ length-set out (2 * i) v ∙ w.size;
          front = rw two (turn one (f ∷ left) (2 * i + 1) f (simp length-set (omega arith)) vector refl);
          past = drop-set-lt (2 * (i + 1)) one (2 * i + 1) f (omega arith) ∙ drop-set-lt (2 * (i + 1)) out (2 * i) v (omega arith)
              ∙ ap (λ j. drop j out) more ∙ sym (drop-drop 2 (2 * i) out) ∙ ap (drop 2) w.past ∙ drop-drop 2 (2 * i) out₀ ∙ ap (λ j. drop j out₀) (sym more);
        }

    pub written_all : i ≡ n → out ≡ pairs_of (slots vs fs h n) ++ drop (2 * n) out₀
    unfolding slots
    written_all e =
        let z : n - i ≡ 0 = omega arith in
        let all = sym (append-nil (take (2 * i) out)) ∙ ap (λ k. take (2 * i) out ++ pairs_of (slots vs fs (h + i) k)) (sym z) ∙ w.front in
        sym (take-append-drop (2 * i) out) ∙ (λ j. all j ++ (w.past ∙ ap (λ k. drop (2 * k) out₀) e) j)

-- ---- sixteen pairs

drop_replicate : (n m x : ℕ) → drop n (replicate m x) ≡ replicate (m - n) x
drop_replicate zero m x = sym (ap (λ k. replicate k x) (sub-zero m))
drop_replicate (suc n) zero x = let z : 0 - suc n ≡ 0 = omega arith in sym (ap (λ k. replicate k x) z)
drop_replicate (suc n) (suc m) x = let s : suc m - suc n ≡ m - n = omega arith in drop_replicate n m x ∙ sym (ap (λ k. replicate k x) s)

-- events over zeros
pub pairs_put : (es : List Event) (n k : ℕ) {zs ys : List ℕ} → length es ≡ n → k ≡ 2 * capacity → zs ≡ replicate k 0 → ys ≡ pairs_of (take n es) ++ drop (2 * n) zs → ys ≡ sixteen event_twos es
pairs_put es n k e h z y =
    let all : take n es ≡ es = take_all n es (omega arith) in
    let left = ap (drop (2 * n)) (z ∙ ap (λ m. replicate m 0) h) ∙ drop_replicate (2 * n) (2 * capacity) 0 ∙ ap (λ j. replicate (2 * capacity - 2 * j) 0) (sym e) in
    y ∙ (λ i. pairs_of (all i) ++ left i)
