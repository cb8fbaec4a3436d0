-- The first records of a play, and one more behind them.
use Rattle.basics.proofs.Prelude.{◌≡◌, sym, ap, ◌∙◌, List, [], ◌++◌, append-nil, append_assoc, ℕ, zero, suc, ◌+◌, arith}
use Rattle.calls.specs.Calls.{Outcome}
use Rattle.traces.specs.{Trace.nth, Played.played_on, Played.drained_in, Played.Played, Played.played_from, plays.Playing.behind}
use Rattle.traces.proofs.laws.Plays.{played_none, played_next}

-- an outcome in front of a play
abbrev before : Outcome → Played → Played
before o p = record { image = p.image; answers = o.answer ++ p.answers; events = drained_in o ++ p.events }

both : (o : Outcome) (p : Played) (q : Outcome) → before o (behind p q) ≡ behind (before o p) q
both o p q = (λ t. record {
  image = q.image;
  answers = sym (append_assoc o.answer p.answers q.answer) t;
  events = sym (append_assoc (drained_in o) p.events (drained_in q)) t;
})

-- one record more
pub played_last : (l : List ℕ) (n k : ℕ) (i : List ℕ) → played_from l (suc n) k i ≡ behind (played_from l n k i) (played_on (played_from l n k i).image (nth l (k + n)))
played_last l zero k i =
    let o = played_on i (nth l k) in
    let z : k ≡ k + 0 = omega arith in
    played_next l k i 0 ∙ ap (before o) (played_none l (suc k) o.image)
    ∙ (λ t. record { image = o.image; answers = append-nil o.answer t; events = append-nil (drained_in o) t })
    ∙ ap (λ m. behind (record { image = i; answers = []; events = [] }) (played_on i (nth l m))) z
    ∙ ap (λ (p : Played). behind p (played_on p.image (nth l (k + 0)))) (sym (played_none l k i))
played_last l (suc n) k i =
    let o = played_on i (nth l k) in
    let p = played_from l n (suc k) o.image in
    let z : suc k + n ≡ k + suc n = omega arith in
    played_next l k i (suc n) ∙ ap (before o) (played_last l n (suc k) o.image)
    ∙ both o p (played_on p.image (nth l (suc k + n)))
    ∙ ap (λ (m : ℕ). behind (before o p) (played_on p.image (nth l m))) z
    ∙ ap (λ (q : Played). behind q (played_on q.image (nth l (k + suc n)))) (sym (played_next l k i n))
