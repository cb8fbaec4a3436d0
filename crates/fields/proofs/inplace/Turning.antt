-- Turns of the lines done in place: by another name, and one after another.
use Rattle.basics.proofs.Prelude.{◌≡◌, sym, ap, ◌∙◌, List, ℕ, ◌+◌}
use Rattle.rules.specs.{Lines.Lines, Lines.Made, Lines.Turn, Lines.and_then, Ring.Ring, Ring.Drawn, Ring.ring_run, Ring.lost_of, Device.Device, Device.offers, Device.lost}
use Rattle.rules.{specs.Numbering.Numbers, specs.Numbering.takes_all, proofs.laws.Acts.offers_append, proofs.laws.Numbered.takes_append, proofs.laws.Rings.run_append, proofs.laws.Rings.lost_of_append}
use Rattle.fields.specs.inplace.Held.{Holds, Does, MovesIn, with_lines, with_ring, turned}
use Rattle.fields.proofs.inplace.Doing.{does_same, does_then}

-- a device after a turn
abbrev pub after_turn : Device → Turn → Device
after_turn d t = with_ring (with_lines d t.after) (ring_run d.ring (offers t.made)).after

pub moves_by : {A : Type 0} {i j : List ℕ} {x : A} (g : Numbers → List Made → Numbers) (w : Ring → List Made → A) (u : Device → Turn) (t : List ℕ → Lines → Turn)
    → Does i j x (λ d. after_turn d (u d)) (λ d s. g s (u d).made) (λ d. w d.ring (u d).made) → ((d : Device) (s : Numbers) → Holds i d s → u d ≡ turned d t) → MovesIn i j x g w t
moves_by g w u t p e =
    does_same p (λ d s h. ap (after_turn d) (e d s h)) (λ d s h. ap (λ (y : Turn). g s y.made) (e d s h)) (λ d s h. ap (λ (y : Turn). w d.ring y.made) (e d s h))

pub moves_then : {i j k : List ℕ} {n m : ℕ} (t u : List ℕ → Lines → Turn) → MovesIn i j n takes_all lost t → MovesIn j k m takes_all lost u → MovesIn i k (n + m) takes_all lost (λ vs l. and_then (t vs l) (u vs))
moves_then t u p q =
    does_same (does_then p q)
    (λ d s h. let a = turned d t in
    let b = u d.core.vectors a.after in
    ap (λ (x : Drawn). with_ring (with_lines d b.after) x.after) (sym (run_append d.ring (offers a.made) (offers b.made)))
    ∙ ap (λ l. with_ring (with_lines d b.after) (ring_run d.ring l).after) (sym (offers_append a.made b.made)))
    (λ d s h. sym (takes_append s (turned d t).made (u d.core.vectors (turned d t).after).made))
    (λ d s h. let a = turned d t in
    let b = u d.core.vectors a.after in
    sym (lost_of_append d.ring (offers a.made) (offers b.made)) ∙ ap (lost_of d.ring) (sym (offers_append a.made b.made)))
