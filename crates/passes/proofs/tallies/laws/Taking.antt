-- Marks one after another, and what follows acts one after another.
use Rattle.basics.proofs.Prelude.{◌≡◌, refl, sym, ap, subst, ◌∙◌, Bool, List, [], ◌∷◌, ◌++◌, append_assoc, append-nil, ℕ}
use Rattle.rules.{specs.Lines.Lines, specs.Core.Core, specs.Core.Act, specs.Core.turns, specs.Device.Device, specs.Device.acted, proofs.laws.Acts.acted_none, proofs.laws.Acts.acted_append}
use Rattle.passes.specs.tallies.{Grid.Grid, Grid.Holds, Marks.Mark, Marks.marked, Marks.all_marked, Marks.act_marks, Marks.marks_of, Following.Stands, Following.Takes, Following.Follows}

pub marked_append : (f : Grid) (ms ns : List Mark) → all_marked f (ms ++ ns) ≡ all_marked (all_marked f ms) ns
unfolding all_marked
marked_append f [] ns = refl
marked_append f (m ∷ ms) ns = marked_append (marked f m) ms ns

-- ---- the sheet

pub takes_none : {wide : Bool} (b : List ℕ) → Takes wide b b []
unfolding all_marked
takes_none b f rest h = h

pub takes_one : {wide : Bool} {b a : List ℕ} (m : Mark) → ((f : Grid) (rest : List ℕ) → Holds wide b f rest → Holds wide a (marked f m) rest) → Takes wide b a (m ∷ [])
unfolding all_marked
takes_one m t = t

pub takes_then : {wide : Bool} {b c a : List ℕ} (ms ns : List Mark) → Takes wide b c ms → Takes wide c a ns → Takes wide b a (ms ++ ns)
takes_then {wide} {a} ms ns s t f rest h = subst (λ (g : Grid). Holds wide a g rest) (sym (marked_append f ms ns)) (t _ rest (s f rest h))

pub takes_same : {wide : Bool} {b a : List ℕ} {ms ns : List Mark} → ms ≡ ns → Takes wide b a ms → Takes wide b a ns
takes_same {wide} {b} {a} e t = subst (Takes wide b a) e t

-- ---- acts

pub marks_append : (k : ℕ) (d : Device) (xs ys : List Act) → marks_of k d (xs ++ ys) ≡ marks_of k d xs ++ marks_of k (acted d xs) ys
unfolding marks_of
marks_append k d [] ys = ap (λ (e : Device). marks_of k e ys) (sym (acted_none d))
marks_append k d (a ∷ xs) ys =
    ap (λ (ms : List Mark). act_marks k d a ++ ms) (marks_append k (acted d (a ∷ [])) xs ys ∙ ap (λ (e : Device). marks_of k (acted d (a ∷ [])) xs ++ marks_of k e ys) (sym (acted_append d (a ∷ []) xs)))
    ∙ sym (append_assoc (act_marks k d a) (marks_of k (acted d (a ∷ [])) xs) (marks_of k (acted d (a ∷ xs)) ys))

pub marks_one : (k : ℕ) (d : Device) (a : Act) → marks_of k d (a ∷ []) ≡ act_marks k d a
unfolding marks_of
marks_one k d a = append-nil (act_marks k d a)

-- no act
pub follows_none : {wide : Bool} (l : Lines) (w : ℕ) (b : List ℕ) (k : ℕ) → Follows wide l w l w b b k (λ c. [])
unfolding marks_of
follows_none l w b k d s = (subst (Stands l w) (sym (acted_none d)) s, takes_none b)

-- some acts, and then others, which the core that those leave may decide
pub follows_then : {wide : Bool} {l : Lines} {w : ℕ} {m : Lines} {u : ℕ} {n : Lines} {v : ℕ} {b c a : List ℕ} (k : ℕ) (xs ys : Core → List Act)
    → Follows wide l w m u b c k xs → Follows wide m u n v c a k ys → Follows wide l w n v b a k (λ x. xs x ++ ys (turns x (xs x)).after)
unfolding acted
follows_then {n} {v} {b} {a} k xs ys s t d h =
    let one = s d h in
    let two = t (acted d (xs d.core)) one.0 in (
      subst (Stands n v) (sym (acted_append d (xs d.core) (ys (acted d (xs d.core)).core))) two.0,
      takes_same (sym (marks_append k d (xs d.core) (ys (acted d (xs d.core)).core))) (takes_then _ _ one.1 two.1),
    )
