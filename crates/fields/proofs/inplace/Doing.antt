-- What is done in place, one after another; and what an image that holds a device has.
use Rattle.basics.proofs.Prelude.{◌≡◌, refl, sym, ap, ap₂, subst, ◌∙◌, true, List, [], ◌∷◌, ◌++◌, ℕ, ◌+◌, length, Bytes, test, Each}
use Rattle.rules.specs.{Lines.Made, Ring.Ring, Ring.RingAct, Ring.ring_run, Ring.dropped, Ring.lost_of, Core.Core, Core.CoreTurn, Core.Act, Core.turns, Core.Move, Core.move, Core.moved, Core.line_turn}
use Rattle.rules.specs.{Device.Device, Device.WellFormed, Device.offers, Device.acted, Device.lost, Numbering.Numbers, Numbering.WellNumbered, Numbering.from_zero, Numbering.takes, Numbering.takes_all}
use Rattle.rules.proofs.laws.{Acts.turns_append, Acts.offers_append, Acts.acted_none, Acts.acted_append, Rings.run_append, Rings.lost_of_append, Steps.turns_one, Numbered.takes_append}
use Rattle.images.specs.{Form.Form, Form.numbers, Form.has, Form.form_length, Image.image_test, Image.accepted, Image.decode, Image.numbers_in, Image.encode_as}
use Rattle.images.proofs.laws.Saved.{length_encode}
use Rattle.laws.proofs.laws.{Writes.acted_move, Images.encode_decode, Images.decode_well_formed, Images.numbers_well, Images.encode_as_lem, Images.numbers_encode, Images.numbers_lost}
use Rattle.fields.specs.inplace.Held.{Holds, Becomes, Does, takes_each, Offers, MovesIn, Acts, Writes, with_ring}

-- an accepted image holds its device and its numbers
pub held : (i : List ℕ) → Bytes i → image_test i ≡ accepted → Holds i (decode i) (numbers_in i)
held i b e = record { well = decode_well_formed i b e; numbered = numbers_well i b e; image = sym (encode_decode i b e) }

-- an image of a form that holds them is their image in that form, and the other way round
pub holds_as : (f : Form) (i : List ℕ) → length i ≡ form_length f → {d : Device} {s : Numbers} → Holds i d s → i ≡ encode_as f d s
holds_as f i k {d} {s} h = h.image ∙ encode_as_lem f i k d s

pub as_holds : (f : Form) {j : List ℕ} {d : Device} {s : Numbers} → WellFormed d → WellNumbered d s → j ≡ encode_as f d s → Holds j d s
as_holds f {j} {d} {s} w v e = record { well = w; numbered = v; image = e ∙ sym (encode_as_lem f j (ap length e ∙ length_encode d w s v f) d s) }

-- two images of one length that hold the same numbers beside as many waiting events load with the same numbers
pub same_numbers : {i j : List ℕ} (f : Form) → length i ≡ form_length f → length j ≡ length i → {d e : Device} {s : Numbers} → Holds i d s → Holds j e s
    → length d.ring.waiting ≡ length e.ring.waiting → numbers_in j ≡ numbers_in i
same_numbers {i} {j} f long same {d} {e} {s} h k waiting =
    let hi = holds_as f i long h in
    let kj = holds_as f j (same ∙ long) k in
    test (has f numbers)
    (λ t. ap numbers_in kj ∙ numbers_encode e k.well s k.numbered f t ∙ sym (ap numbers_in hi ∙ numbers_encode d h.well s h.numbered f t))
    (λ t. ap numbers_in kj ∙ numbers_lost e k.well s k.numbered f t ∙ ap from_zero (sym waiting) ∙ sym (ap numbers_in hi ∙ numbers_lost d h.well s h.numbered f t))

-- ---- the same by another name; one after another

module _ {A : Type 0} {i j : List ℕ} {x : A} {f : Device → Device} {g : Device → Numbers → Numbers} {v : Device → A} (p : Does i j x f g v) where
  pub does_same : {f₁ : Device → Device} {g₁ : Device → Numbers → Numbers} {w : Device → A} → ((d : Device) (s : Numbers) → Holds i d s → f d ≡ f₁ d)
      → ((d : Device) (s : Numbers) → Holds i d s → g d s ≡ g₁ d s) → ((d : Device) (s : Numbers) → Holds i d s → v d ≡ w d) → Does i j x f₁ g₁ w
  does_same {f₁} {g₁} {w} e n q = record {
    becomes = λ d s h. subst (λ c. Holds j c (g₁ d s)) (e d s h) (subst (Holds j (f d)) (n d s h) (p.becomes d s h));
    gives = λ d s h. p.gives d s h ∙ q d s h;
  }

pub becomes_then : {A : Type 0} {i j k : List ℕ} {x : A} {f f₁ : Device → Device} {g : Device → Numbers → Numbers} {v : Device → A} → Becomes i j f → Does j k x f₁ g v
    → Does i k x (λ d. f₁ (f d)) (λ d s. g (f d) s) (λ d. v (f d))
becomes_then p q = record { becomes = λ d s h. q.becomes _ s (p d s h); gives = λ d s h. q.gives _ s (p d s h) }

pub does_then : {i j k : List ℕ} {n m : ℕ} {f f₁ : Device → Device} {g g₁ : Device → Numbers → Numbers} {v w : Device → ℕ} → Does i j n f g v → Does j k m f₁ g₁ w
    → Does i k (n + m) (λ d. f₁ (f d)) (λ d s. g₁ (f d) (g d s)) (λ d. v d + w (f d))
does_then p q = record {
  becomes = λ d s h. q.becomes _ _ (p.becomes d s h);
  gives = λ d s h. ap₂ (λ (a b : ℕ). a + b) (p.gives d s h) (q.gives _ _ (p.becomes d s h));
}

-- ---- offers

pub offers_none : (i : List ℕ) → Offers i i 0 (λ d. [])
unfolding dropped ring_run
offers_none i = record { becomes = λ d s h. h; gives = λ d s h. refl }

pub offers_same : {i j : List ℕ} {n : ℕ} (xs ys : Device → List RingAct) → Offers i j n xs → ((d : Device) (s : Numbers) → Holds i d s → xs d ≡ ys d) → Offers i j n ys
offers_same xs ys p e =
    does_same p (λ d s h. ap (λ l. with_ring d (ring_run d.ring l).after) (e d s h)) (λ d s h. ap (takes_each s) (e d s h)) (λ d s h. ap (lost_of d.ring) (e d s h))

takes_each_append : (s : Numbers) (xs ys : List RingAct) → takes_each s (xs ++ ys) ≡ takes_each (takes_each s xs) ys
takes_each_append s [] ys = refl
takes_each_append s (x ∷ xs) ys = takes_each_append (takes s true) xs ys

pub offers_then : {i j k : List ℕ} {n m : ℕ} (xs ys : Device → List RingAct) → Offers i j n xs → Offers j k m ys → ((d : Device) (r : Ring) → ys (with_ring d r) ≡ ys d) → Offers i k (n + m) (λ d. xs d ++ ys d)
offers_then xs ys p q same =
    does_same (does_then p q)
    (λ d s h. ap (λ l. with_ring d (ring_run (ring_run d.ring (xs d)).after l).after) (same d _) ∙ (λ t. with_ring d (sym (run_append d.ring (xs d) (ys d)) t).after))
    (λ d s h. ap (takes_each (takes_each s (xs d))) (same d _) ∙ sym (takes_each_append s (xs d) (ys d)))
    (λ d s h. ap (λ l. lost_of d.ring (xs d) + lost_of (ring_run d.ring (xs d)).after l) (same d _) ∙ sym (lost_of_append d.ring (xs d) (ys d)))

-- events that are all offered take their numbers one for each offer
pub takes_each_lem : (s : Numbers) (ms : List Made) → Each (λ m. m.offered ≡ true) ms → takes_each s (offers ms) ≡ takes_all s ms
unfolding offers takes_all
takes_each_lem s [] h = refl
takes_each_lem s (m ∷ ms) h = rw h.0 (takes_each_lem (takes s true) ms h.1)

-- ---- acts

-- a move is an act
pub moves_acts : {A : Type 0} {i j : List ℕ} {x : A} (g : Numbers → List Made → Numbers) (w : Ring → List Made → A) (m : Move) → MovesIn i j x g w (λ vs l. moved vs l m) → Acts i j x g w (λ c. move m ∷ [])
unfolding line_turn
moves_acts g w m p =
    does_same p (λ d s h. sym (acted_move d m)) (λ d s h. ap (λ (t : CoreTurn). g s t.made) (sym (turns_one d.core (move m))))
    (λ d s h. ap (λ (t : CoreTurn). w d.ring t.made) (sym (turns_one d.core (move m))))

-- stores are acts that make no event
pub stores_write : {i j : List ℕ} {f : Device → Device} (xs : Core → List Act) → Becomes i j f → ((d : Device) (s : Numbers) → Holds i d s → f d ≡ acted d (xs d.core)) → ((c : Core) → (turns c (xs c)).made ≡ []) → Writes i j 0 xs
unfolding dropped offers takes_all
stores_write {j} xs p e quiet = record {
  becomes = λ d s h. subst (λ ms. Holds j (acted d (xs d.core)) (takes_all s ms)) (sym (quiet d.core)) (subst (λ c. Holds j c s) (e d s h) (p d s h));
  gives = λ d s h. ap (lost d.ring) (sym (quiet d.core));
}

-- a write that makes no event drops none, whatever was added up
pub writes_quiet : {i j : List ℕ} {n : ℕ} (xs : Core → List Act) → Writes i j n xs → ((c : Core) → (turns c (xs c)).made ≡ []) → Writes i j 0 xs
unfolding dropped offers
writes_quiet xs p quiet = record { becomes = p.becomes; gives = λ d s h. ap (lost d.ring) (sym (quiet d.core)) }

pub writes_none : (i : List ℕ) → Writes i i 0 (λ c. [])
unfolding turns
writes_none i = stores_write (λ c. []) (λ d s h. h) (λ d s h. sym (acted_none d)) (λ c. refl)

pub writes_same : {i j : List ℕ} {n : ℕ} (xs ys : Core → List Act) → Writes i j n xs → ((d : Device) (s : Numbers) → Holds i d s → xs d.core ≡ ys d.core) → Writes i j n ys
writes_same xs ys p e =
    does_same p (λ d s h. ap (acted d) (e d s h)) (λ d s h. ap (λ l. takes_all s (turns d.core l).made) (e d s h))
    (λ d s h. ap (λ l. lost d.ring (turns d.core l).made) (e d s h))

pub writes_then : {i j k : List ℕ} {n m : ℕ} (xs ys : Core → List Act) → Writes i j n xs → Writes j k m ys → Writes i k (n + m) (λ c. xs c ++ ys (turns c (xs c)).after)
unfolding acted
writes_then xs ys p q =
    does_same (does_then p q) (λ d s h. sym (acted_append d (xs d.core) (ys (turns d.core (xs d.core)).after)))
    (λ d s h. sym (takes_append s (turns d.core (xs d.core)).made _)
    ∙ ap (λ (t : CoreTurn). takes_all s t.made) (sym (turns_append d.core (xs d.core) (ys (turns d.core (xs d.core)).after))))
    (λ d s h. sym (lost_of_append d.ring (offers (turns d.core (xs d.core)).made) _) ∙ ap (lost_of d.ring) (sym (offers_append (turns d.core (xs d.core)).made _))
    ∙ ap (λ (t : CoreTurn). lost d.ring t.made) (sym (turns_append d.core (xs d.core) (ys (turns d.core (xs d.core)).after))))
