-- A play one record at a time, from number k on.
use Rattle.basics.proofs.Prelude.{◌≡◌, refl, List, [], ◌++◌, ℕ, suc}
use Rattle.traces.proofs.laws.Computed as computed
use Rattle.traces.specs.{Trace.nth, Played.played_on, Played.drained_in, Played.records_from, Played.outcomes, Played.gathered, Played.played_from}

module _ (l : List ℕ) (k : ℕ) (i : List ℕ) where
  pub played_none : played_from l 0 k i ≡ record { image = i; answers = []; events = [] }
  unfolding records_from outcomes gathered
  played_none = refl

  -- the first of them, and then the others on the image that it left
  pub played_next : (n : ℕ) → played_from l (suc n) k i ≡ record {
    image = (played_from l n (suc k) (played_on i (nth l k)).image).image;
    answers = (played_on i (nth l k)).answer ++ (played_from l n (suc k) (played_on i (nth l k)).image).answers;
    events = drained_in (played_on i (nth l k)) ++ (played_from l n (suc k) (played_on i (nth l k)).image).events;
  }
  unfolding records_from outcomes gathered
  played_next n = refl
