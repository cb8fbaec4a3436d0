-- 02, C-13: on every sequence of calls, loads and refused calls the plain engine gives what the ported one gives.
use Rattle.basics.proofs.Prelude.{◌≡◌, refl, List, [], ◌∷◌}
use Rattle.rules.specs.Device.{Device, WellFormed, none, value}
use Rattle.histories.proofs.laws.WellFormed.{step_well}
use Rattle.plain.specs.Plain.{Engine, counted, gives}
use Rattle.plain.specs.Sequence.{load_of, Item, call, load, refused, ported_sees, plain_sees, WellLoaded}
use Rattle.plain.proofs.laws.Same.{Run, Same}
use Rattle.plain.proofs.laws.Following.{stepped, counted_run, like_call, loaded_run, sized, same_load, same_counted, shown_is}

-- ---- side by side

alike : (e : Engine) (r : Run) (xs : List Item) → Same e r → WellFormed r.device → WellLoaded xs → plain_sees e xs ≡ ported_sees r.device xs
unfolding plain_sees ported_sees WellLoaded
alike e r [] x w l = refl
alike e r (call c ∷ xs) x w l =
    let a = like_call e r x (sized w) c in
    let v = step_well r.device c w in
    let shows = shown_is (gives e c).after (stepped r c) a.after (sized v) in
    let later = alike (gives e c).after (stepped r c) xs a.after v l in
    λ t. record { value = a.value t; drained = a.drained t; shows = shows t } ∷ later t
alike e r (load d ∷ xs) x w l =
    let y = same_load e d l.0 in
    let shows = shown_is (load_of e d) (loaded_run d) y (sized l.0) in
    let later = alike (load_of e d) (loaded_run d) xs y l.0 l.1 in
    λ t. record { value = none; drained = []; shows = shows t } ∷ later t
alike e r (refused ∷ xs) x w l =
    let shows = shown_is e r x (sized w) in
    let later = alike (counted e) (counted_run r) xs (same_counted e r x) w l in
    λ t. record { value = none; drained = []; shows = shows t } ∷ later t

-- From a load of any device that an image can hold, whatever the engine was before: of each call, load and refused call that follows, the plain engine
-- gives the value (the vector returned, the register read, the number of events dropped or drained) and the events drained that the ported one gives, and
-- then shows the same registers, bytes, waiting events and drop count.
pub plain_is_ported : (old : Engine) (d : Device) → WellFormed d → (xs : List Item) → WellLoaded xs → plain_sees (load_of old d) xs ≡ ported_sees d xs
plain_is_ported old d w xs l = alike (load_of old d) (loaded_run d) xs (same_load old d w) w l
