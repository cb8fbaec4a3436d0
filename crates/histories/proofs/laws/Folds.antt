-- What holds of each act holds of acts, and what holds of each call holds of a history: once for every relation between what was, the events made and
-- what is. Then histories in two parts, and what stays where acts leave the lines or the vector bytes.
use Rattle.basics.proofs.Prelude.{◌≡◌, refl, sym, ap, ap₂, ◌∙◌, List, [], ◌∷◌, ◌++◌, append_assoc, ℕ}
use Rattle.rules.specs.{Lines.Made, Core.Core, Core.Act, Core.move, Core.set_isr, Core.store, Core.set_vector, Core.line_turn, Core.vectors_after, Core.turn, Core.turns}
use Rattle.rules.specs.{Device.Device, Device.Call, Device.Step, Device.step, History.history}
use Rattle.histories.specs.{Premises.Along, Demands.Each, Demands.done, Demands.also}
use Rattle.histories.proofs.laws.Reach.{LeavesLines, LeavesVectors}

-- ---- acts

module _ (R : Core → List Made → Core → Type 0) (none : (c : Core) → R c [] c)
    (next : (c d e : Core) (xs ys : List Made) → R c xs d → R d ys e → R c (xs ++ ys) e) where
  pub fold_acts : (T : Act → Type 0) → ((c : Core) (a : Act) → T a → R c (turn c a).made (turn c a).after)
      → (c : Core) {xs : List Act} → Each T xs → R c (turns c xs).made (turns c xs).after
  unfolding turns
  fold_acts T h c done = none c
  fold_acts T h c (also {a = a} {xs = xs} t e) =
      let d = (turn c a).after in
      next c d (turns d xs).after (turn c a).made (turns d xs).made (h c a t) (fold_acts T h d e)

-- ---- calls

module _ (R : Device → List Made → Device → Type 0) (none : (d : Device) → R d [] d)
    (next : (d e f : Device) (xs ys : List Made) → R d xs e → R e ys f → R d (xs ++ ys) f) where
  pub fold_calls : (P : Device → Call → Type 0) → ((d : Device) (c : Call) → P d c → R d (step d c).made (step d c).after)
      → (d : Device) (cs : List Call) → Along P d cs → R d (history d cs).made (history d cs).after
  unfolding history Along
  fold_calls P h d [] p = none d
  fold_calls P h d (c ∷ cs) p =
      let e = (step d c).after in
      next d e (history e cs).after (step d c).made (history e cs).made (h d c p.0) (fold_calls P h e cs p.1)

-- ---- histories in two parts

pub history_append : (d : Device) (xs ys : List Call)
    → history d (xs ++ ys) ≡ record {
      after = (history (history d xs).after ys).after;
      made = (history d xs).made ++ (history (history d xs).after ys).made;
      drained = (history d xs).drained ++ (history (history d xs).after ys).drained;
    }
unfolding history
history_append d [] ys = refl
history_append d (c ∷ xs) ys =
    let one = step d c in
    let two = history one.after xs in
    let three = history two.after ys in
    ap (λ (s : Step). record { after = s.after; made = one.made ++ s.made; drained = one.drained ++ s.drained }) (history_append one.after xs ys)
    ∙ (λ i. record {
      after = three.after;
      made = sym (append_assoc one.made two.made three.made) i;
      drained = sym (append_assoc one.drained two.drained three.drained) i;
    })

pub along_append : (P : Device → Call → Type 0) (d : Device) (xs ys : List Call) → Along P d (xs ++ ys) → Along P d xs × Along P (history d xs).after ys
unfolding history Along
along_append P d [] ys p = (tt, p)
along_append P d (c ∷ xs) ys p = let r = along_append P (step d c).after xs ys p.1 in ((p.0, r.0), r.1)

-- what holds of each call in place of something that it follows from
pub along_each : (P Q : Device → Call → Type 0) → ((d : Device) (c : Call) → P d c → Q d c) → (d : Device) (cs : List Call) → Along P d cs → Along Q d cs
unfolding Along
along_each P Q h d [] p = tt
along_each P Q h d (c ∷ cs) p = (h d c p.0, along_each P Q h (step d c).after cs p.1)

-- ---- what acts leave

-- nothing is made, and the lines stay
abbrev pub Still : Core → List Made → Core → Type 0
Still c ms d = (ms ≡ []) × (c.lines ≡ d.lines)

pub still : (c : Core) {xs : List Act} → Each LeavesLines xs → Still c (turns c xs).made (turns c xs).after
unfolding line_turn
still c = fold_acts Still (λ c. (refl, refl)) (λ c d e xs ys x y. (ap₂ ◌++◌ x.0 y.0, x.1 ∙ y.1)) LeavesLines one c
  where
    one : (c : Core) (a : Act) → LeavesLines a → Still c (turn c a).made (turn c a).after
    one c (move m) t = absurd t
    one c (set_isr h v) t = absurd t
    one c (store s) t = (refl, refl)
    one c (set_vector n v) t = (refl, refl)

pub vectors_stay_lem : (vs : List ℕ) (a : Act) → LeavesVectors a → vectors_after vs a ≡ vs
unfolding vectors_after
vectors_stay_lem vs (move m) t = refl
vectors_stay_lem vs (set_isr h v) t = refl
vectors_stay_lem vs (store s) t = refl
vectors_stay_lem vs (set_vector n v) t = absurd t
