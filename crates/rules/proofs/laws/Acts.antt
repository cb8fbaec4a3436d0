-- Acts, one after another: acting in two parts is acting in one, in the core, in what is made, in what is offered, and in the device.
use Rattle.basics.proofs.Prelude.{◌≡◌, refl, sym, ap, ◌∙◌, Bool, true, false, cond, List, [], ◌∷◌, ◌++◌, append_assoc}
use Rattle.rules.specs.{Lines.Made, Ring.Ring, Ring.RingAct, Ring.offer, Ring.Drawn, Ring.ring_run, Core.Core, Core.Act, Core.CoreTurn, Core.turn, Core.turns}
use Rattle.rules.specs.Device.{Device, Call, acts_of, draws, offers, acted, step}
use Rattle.rules.proofs.laws.Rings.{run_append}

pub turns_append : (c : Core) (xs ys : List Act)
    → turns c (xs ++ ys) ≡ record { after = (turns (turns c xs).after ys).after; made = (turns c xs).made ++ (turns (turns c xs).after ys).made }
unfolding turns
turns_append c [] ys = refl
turns_append c (a ∷ xs) ys =
    ap (λ (t : CoreTurn). record { after = t.after; made = (turn c a).made ++ t.made }) (turns_append (turn c a).after xs ys)
    ∙ ap (λ (ms : List Made). record { after = (turns (turns (turn c a).after xs).after ys).after; made = ms })
    (sym (append_assoc (turn c a).made (turns (turn c a).after xs).made (turns (turns (turn c a).after xs).after ys).made))

pub offers_append : (ms ns : List Made) → offers (ms ++ ns) ≡ offers ms ++ offers ns
unfolding offers
offers_append [] ns = refl
offers_append (m ∷ ms) ns = ap (λ (xs : List RingAct). cond m.offered (offer (record { vector = m.vector; asserted = m.asserted }) ∷ xs) xs) (offers_append ms ns) ∙ sym (cond_append m.offered)
  where
    cond_append : (b : Bool) → cond b (offer (record { vector = m.vector; asserted = m.asserted }) ∷ offers ms) (offers ms) ++ offers ns ≡ cond b (offer (record { vector = m.vector; asserted = m.asserted }) ∷ (offers ms ++ offers ns)) (offers ms ++ offers ns)
    cond_append true = refl
    cond_append false = refl

pub acted_none : (d : Device) → acted d [] ≡ d
unfolding acted turns offers ring_run
acted_none d = refl

pub acted_append : (d : Device) (xs ys : List Act) → acted d (xs ++ ys) ≡ acted (acted d xs) ys
unfolding acted
acted_append d xs ys =
    let one = turns d.core xs in
    let two = turns one.after ys in
    ap (λ (t : CoreTurn). record { core = t.after; ring = (ring_run d.ring (offers t.made)).after }) (turns_append d.core xs ys)
    ∙ ap (λ (r : Ring). record { core = two.after; ring = r })
    (ap (λ (os : List RingAct). (ring_run d.ring os).after) (offers_append one.made two.made) ∙ ap (λ (t : Drawn). t.after) (run_append d.ring (offers one.made) (offers two.made)))

-- a call that draws nothing leaves the device that its acts leave
pub step_acted : (d : Device) (c : Call) → draws c ≡ [] → (step d c).after ≡ acted d (acts_of d.core c)
unfolding step ring_run
step_acted d c e =
    let x = acted d (acts_of d.core c) in
    ap (λ (os : List RingAct). record { core = x.core; ring = (ring_run x.ring os).after }) e
