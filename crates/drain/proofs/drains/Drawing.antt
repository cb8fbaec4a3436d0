-- A drain: as many events as wait or as there is room for come out, and the others are left.
use Rattle.basics.proofs.Prelude.{◌≡◌, refl, sym, ap, subst, ◌∙◌, List, [], ◌∷◌, ◌++◌, ℕ, zero, suc, ◌-◌, ◌*◌, ◌/◌, ◌≤◌, min, arith, length, take, drop, get_or, length-take, drop_of_length-le, take_all, leb, leb-true, leb-false, put_mid, test}
use Rattle.rules.specs.{Ring.Event, Ring.drawn, Device.Device, Device.with_ring, Numbering.Numbers, Numbering.with_numbers, Numbering.quads_of, Numbering.fewer}
use Rattle.images.{specs.Form.Form, specs.Form.count, specs.Form.place, specs.Form.form_length, specs.Image.numbers_in}
use Rattle.fields.{specs.inplace.Held.Holds, proofs.ring.Counts.counted}
use Rattle.drain.specs.{shifts.Shifted.Shifts, events_out.Out.CopiesOut, drains.Drained.Drains}

-- ---- as many as wait or as are asked for

-- of the numbers only as many count as there are events
enough : (es : List Event) (ns : List ℕ) (n : ℕ) → length es ≤ n → with_numbers es (take n ns) ≡ with_numbers es ns
enough [] ns n h = refl
enough (e ∷ es) ns zero h = absurd (omega arith)
enough (e ∷ es) [] (suc n) h = refl
enough (e ∷ es) (x ∷ ns) (suc n) h = ap (λ l. record { event = e; number = x } ∷ l) (enough es ns n (omega arith))

module _ (m k n : ℕ) (e : n ≡ min m k) where
  drop_fewer : {A : Type 0} (xs : List A) → length xs ≡ m → drop n xs ≡ drop k xs
  drop_fewer xs c =
      test (leb k m) (λ t. let s : n ≡ k = omega (arith, leb-true k m t) in ap (λ j. drop j xs) s)
      (λ f. let a : length xs ≤ n = omega (arith, leb-false k m f) in let b : length xs ≤ k = omega (arith, leb-false k m f) in drop_of_length-le xs a ∙ sym (drop_of_length-le xs b))

  take_fewer : (es : List Event) (ns : List ℕ) → length es ≡ m → with_numbers (take n es) (take n ns) ≡ with_numbers (take k es) (take k ns)
  take_fewer es ns c =
      test (leb k m) (λ t. let s : n ≡ k = omega (arith, leb-true k m t) in ap (λ j. with_numbers (take j es) (take j ns)) s)
      (λ f. let a : length es ≤ n = omega (arith, leb-false k m f) in let b : length es ≤ k = omega (arith, leb-false k m f) in
      ap (λ l. with_numbers l (take n ns)) (take_all n es a) ∙ enough es ns n a ∙ sym (ap (λ l. with_numbers l (take k ns)) (take_all k es b) ∙ enough es ns k b))

-- ---- a drain

module _ (f : Form) (i : List ℕ) (long : length i ≡ form_length f) {at m n : ℕ} (g : at ≡ place f count) (c : m ≡ get_or i at 0) (entry : List ℕ) (e : n ≡ min m (length entry / 4)) where
  waits : (d : Device) (s : Numbers) → Holds i d s → m ≡ length d.ring.waiting
  waits d s h = counted f i long g c d s h

  pub drains : {j ys : List ℕ} → CopiesOut i ys n → Shifts i j m n → Drains i j entry (put_mid 0 (4 * n - 0) entry ys) n
  unfolding drawn
  drains {j} {ys} o l =
      let k = length entry / 4 in
      let none : 4 * n - 0 ≡ 4 * n = omega arith in
      record {
        does = record {
          becomes = λ d s h. let q = waits d s h in
              subst (λ es. Holds j (with_ring d (record { waiting = es; drops = d.ring.drops })) (fewer s k)) (drop_fewer m k n e d.ring.waiting (sym q))
              (subst (λ ns. Holds j (with_ring d (drawn d.ring n).after) (record { next = s.next; waiting = ns })) (drop_fewer m k n e s.waiting (h.numbered.waiting ∙ sym q)) (l d s h q));
          gives = λ d s h. omega (arith, e, waits d s h, length-take k d.ring.waiting);
        };
        events = λ d s h. let q = waits d s h in
            λ t. (o d s h (omega (arith, e, q)) ∙ ap quads_of (take_fewer m k n e d.ring.waiting (numbers_in i).waiting (sym q))) t ++ drop (none t) entry;
      }
