-- Salvaging on closed bytes: so it is seen what is kept, what is listed, and which test comes first.
use Rattle.basics.proofs.Prelude.{◌≡◌, refl, List, [], ◌∷◌, ◌++◌, ℕ, set, replicate}
use Rattle.rules.specs.Device.{none}
use Rattle.calls.specs.Calls.{answered}
use Rattle.traces.specs.Trace.{blocks_from, records_in, back_to_back, contents_good, is_good, first_bad}
use Rattle.traces.specs.salvages.Kept.{bodies_from, kept, dropped_from, listing, joined, entries, new_trace, drop_list}
use Rattle.traces.specs.salvages.Salvaging.{SalvageTest, refused, salvages, salvage_test, salvaging}

-- one name that opens what has to compute
unfoldable pub computed : ℕ
unfolding blocks_from records_in back_to_back contents_good is_good first_bad bodies_from kept dropped_from listing joined entries salvage_test
computed = 0

-- inputs raised, a drain, a record that is bad
abbrev raise : ℕ → List ℕ
raise n = 1 ∷ n ∷ replicate 14 0

abbrev bad : List ℕ
bad = replicate 16 255

-- four blocks: a record, two of which the second is torn, one, three of which the last two are
abbrev torn : List ℕ
torn =
    (4 ∷ 0 ∷ 18 ∷ 0 ∷ 1 ∷ 0 ∷ 34 ∷ 0 ∷ 2 ∷ 0 ∷ 66 ∷ 0 ∷ 1 ∷ 0 ∷ 82 ∷ 0 ∷ 3 ∷ 0 ∷ [])
    ++ (raise 3 ++ (raise 4 ++ (bad ++ (raise 5 ++ (raise 6 ++ (bad ++ bad))))))

-- the first and the third are kept, and the second and the fourth listed, with record 1 of each
kept_blocks : new_trace torn ≡ (2 ∷ 0 ∷ 10 ∷ 0 ∷ 1 ∷ 0 ∷ 26 ∷ 0 ∷ 1 ∷ 0 ∷ []) ++ (raise 3 ++ raise 5)
unfolding computed
kept_blocks = refl

dropped_blocks : drop_list torn ≡ 1 ∷ 0 ∷ 1 ∷ 0 ∷ 3 ∷ 0 ∷ 1 ∷ 0 ∷ []
unfolding computed
dropped_blocks = refl

-- with so many bytes for the new trace and the list
abbrev tested : List ℕ → (second list : ℕ) → SalvageTest
tested l k d = salvage_test l (replicate k 0) (replicate d 0)

-- as many as are needed will do, and one less of either is 7
room_tested : tested torn 42 8 ∷ tested torn 41 8 ∷ tested torn 42 7 ∷ [] ≡ salvages ∷ refused 7 none ∷ refused 7 none ∷ []
unfolding computed
room_tested = refl

-- one block with a bad record: nothing is left, whatever room there is
abbrev lost : List ℕ
lost = (1 ∷ 0 ∷ 6 ∷ 0 ∷ 2 ∷ 0 ∷ []) ++ (raise 3 ++ bad)

nothing_first : tested lost 0 0 ∷ tested lost 38 4 ∷ [] ≡ refused 16 none ∷ refused 16 none ∷ []
unfolding computed
nothing_first = refl

-- wrong contents come before that
contents_first : tested (set lost 4 1) 38 4 ∷ tested (set torn 2 19) 0 0 ∷ [] ≡ refused 12 none ∷ refused 12 none ∷ []
unfolding computed
contents_first = refl

-- and an answer area of fifteen bytes before all of them, which stays as it was
answer_first : salvaging (set lost 4 1) [] [] (replicate 15 9) ≡ record { number = 7; second = []; list = []; answer = replicate 15 9 }
unfolding computed salvaging
answer_first = refl

-- late or early, 7 writes nothing; 16 writes sixteen bytes, and none of the two buffers
seven_silent : salvaging torn (replicate 41 7) (replicate 9 8) (replicate 17 9) ≡ record { number = 7; second = replicate 41 7; list = replicate 9 8; answer = replicate 17 9 }
unfolding computed salvaging
seven_silent = refl

sixteen_told : salvaging lost (replicate 50 7) (replicate 9 8) (replicate 17 9)
    ≡ record { number = 16; second = replicate 50 7; list = replicate 9 8; answer = (16 ∷ 0 ∷ replicate 14 0) ++ (9 ∷ []) }
unfolding computed salvaging answered
sixteen_told = refl

-- done: what is past the new trace and past the list stays, and the value is the new trace's length
done_told : salvaging torn (replicate 44 7) (replicate 9 8) (replicate 17 9) ≡ record {
  number = 0;
  second = new_trace torn ++ (7 ∷ 7 ∷ []);
  list = (1 ∷ 0 ∷ 1 ∷ 0 ∷ 3 ∷ 0 ∷ 1 ∷ 0 ∷ []) ++ (8 ∷ []);
  answer = (0 ∷ 1 ∷ replicate 6 0) ++ ((42 ∷ replicate 7 0) ++ (9 ∷ []));
}
unfolding computed salvaging answered
done_told = refl

-- wrong contents too write none of the two buffers
twelve_told : salvaging (set lost 4 1) (replicate 50 7) (replicate 9 8) (replicate 17 9)
    ≡ record { number = 12; second = replicate 50 7; list = replicate 9 8; answer = (12 ∷ 0 ∷ replicate 14 0) ++ (9 ∷ []) }
unfolding computed salvaging answered
twelve_told = refl

-- a good trace comes out as it is, with an empty list
abbrev whole : List ℕ
whole = (1 ∷ 0 ∷ 6 ∷ 0 ∷ 1 ∷ 0 ∷ []) ++ raise 3

good_told : salvaging whole (replicate 23 7) (8 ∷ []) (replicate 17 9)
    ≡ record { number = 0; second = whole ++ (7 ∷ []); list = 8 ∷ []; answer = (0 ∷ 1 ∷ replicate 6 0) ++ ((22 ∷ replicate 7 0) ++ (9 ∷ [])) }
unfolding computed salvaging answered
good_told = refl

-- so a torn one that was salvaged and is salvaged again stays, and nothing more is listed
again_told : salvaging (new_trace torn) (replicate 42 7) [] (replicate 16 9)
    ≡ record { number = 0; second = new_trace torn; list = []; answer = (0 ∷ 1 ∷ replicate 6 0) ++ (42 ∷ replicate 7 0) }
unfolding computed salvaging answered
again_told = refl
