-- Two meanings are told apart by a test that computes.
use Rattle.basics.proofs.Prelude.{◌≡◌, refl, sym, ap, ◌∙◌, Bool, true, false, cond, ℕ, T, eqb, eqb→eq}
use Rattle.rules.specs.{Core.htmsi_en, Core.edge, Core.pol, Core.auto0, Core.auto1, Map.Register, Map.id, Map.mask, Map.clear, Map.irr, Map.isr, Map.plain}
use Rattle.table.specs.Meaning.{Meaning, part, route, vector, nothing}

-- ---- registers by a number each

abbrev rank : Register → ℕ
rank id = 0
rank mask = 1
rank clear = 2
rank irr = 3
rank isr = 4
rank (plain htmsi_en) = 5
rank (plain edge) = 6
rank (plain pol) = 7
rank (plain auto0) = 8
rank (plain auto1) = 9

abbrev ranked : ℕ → Register
ranked n =
    cond (eqb n 0) id (cond (eqb n 1) mask (cond (eqb n 2) clear (cond (eqb n 3) irr (cond (eqb n 4) isr
    (cond (eqb n 5) (plain htmsi_en) (cond (eqb n 6) (plain edge) (cond (eqb n 7) (plain pol) (cond (eqb n 8) (plain auto0) (plain auto1)))))))))

ranked_rank : (r : Register) → ranked (rank r) ≡ r
ranked_rank id = refl
ranked_rank mask = refl
ranked_rank clear = refl
ranked_rank irr = refl
ranked_rank isr = refl
ranked_rank (plain htmsi_en) = refl
ranked_rank (plain edge) = refl
ranked_rank (plain pol) = refl
ranked_rank (plain auto0) = refl
ranked_rank (plain auto1) = refl

same_register : (r q : Register) → T (eqb (rank r) (rank q)) → r ≡ q
same_register r q t = sym (ranked_rank r) ∙ ap ranked (eqb→eq (rank r) (rank q) t) ∙ ranked_rank q

-- ---- truth values

abbrev same_bool : Bool → Bool → Bool
same_bool true b = b
same_bool false true = false
same_bool false false = true

same_bool_lem : (a b : Bool) → T (same_bool a b) → a ≡ b
same_bool_lem true true t = refl
same_bool_lem true false t = absurd t
same_bool_lem false true t = absurd t
same_bool_lem false false t = refl

-- ---- both of two tests

abbrev pub both : Bool → Bool → Bool
both true b = b
both false b = false

pub both_left : (a b : Bool) → T (both a b) → T a
both_left true b t = tt
both_left false b t = t

pub both_right : (a b : Bool) → T (both a b) → T b
both_right true b t = t
both_right false b t = absurd t

-- ---- meanings

abbrev pub same : Meaning → Meaning → Bool
same (part r h k s) (part q g j u) = both (eqb (rank r) (rank q)) (both (same_bool h g) (both (eqb k j) (same_bool s u)))
same (part r h k s) (route m) = false
same (part r h k s) (vector m) = false
same (part r h k s) nothing = false
same (route n) (part q g j u) = false
same (route n) (route m) = eqb n m
same (route n) (vector m) = false
same (route n) nothing = false
same (vector n) (part q g j u) = false
same (vector n) (route m) = false
same (vector n) (vector m) = eqb n m
same (vector n) nothing = false
same nothing (part q g j u) = false
same nothing (route m) = false
same nothing (vector m) = false
same nothing nothing = true

pub same_meaning : (x y : Meaning) → T (same x y) → x ≡ y
same_meaning (part r h k s) (part q g j u) t =
    let b = both_right (eqb (rank r) (rank q)) _ t in
    let c = both_right (same_bool h g) _ b in
    let x = same_register r q (both_left (eqb (rank r) (rank q)) _ t) in
    let y = same_bool_lem h g (both_left (same_bool h g) _ b) in
    let z = eqb→eq k j (both_left (eqb k j) _ c) in
    let w = same_bool_lem s u (both_right (eqb k j) _ c) in
    λ i. part (x i) (y i) (z i) (w i)
same_meaning (part r h k s) (route m) t = absurd t
same_meaning (part r h k s) (vector m) t = absurd t
same_meaning (part r h k s) nothing t = absurd t
same_meaning (route n) (part q g j u) t = absurd t
same_meaning (route n) (route m) t = ap route (eqb→eq n m t)
same_meaning (route n) (vector m) t = absurd t
same_meaning (route n) nothing t = absurd t
same_meaning (vector n) (part q g j u) t = absurd t
same_meaning (vector n) (route m) t = absurd t
same_meaning (vector n) (vector m) t = ap vector (eqb→eq n m t)
same_meaning (vector n) nothing t = absurd t
same_meaning nothing (part q g j u) t = absurd t
same_meaning nothing (route m) t = absurd t
same_meaning nothing (vector m) t = absurd t
same_meaning nothing nothing t = refl
