-- What an answer says: its bytes at the front of a buffer, and every other byte as it was.
use Rattle.std.specs.Prelude.{◌≡◌, cond, List, [], ◌∷◌, ◌++◌, ℕ, zero, suc, ◌+◌, ◌*◌, eqb, length, drop, get_or}
use Rattle.sessions.specs.Session.{space, plus, minus, digits}

-- n bytes are written to the front
pub record Says (n : ℕ) (entry exit said : List ℕ) : Type 0 where
  pub len : n ≡ length said
  pub out : exit ≡ said ++ drop n entry

-- an event, from its pair of vector and flag
abbrev pub pair_said : ℕ → ℕ → List ℕ
pair_said vector flag = space ∷ cond (eqb flag 0) minus plus ∷ digits 2 vector

-- the first n pairs of a list
unfoldable pub pairs_said : ℕ → List ℕ → List ℕ
pairs_said zero l = []
pairs_said (suc n) l = pairs_said n l ++ pair_said (get_or l (2 * n) 0) (get_or l (2 * n + 1) 0)
