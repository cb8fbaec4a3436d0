-- The marked dozen as one table: the calls made from reset, what is then asked, and what is to be found.
use Rattle.std.specs.Prelude.{true, List, [], ◌∷◌, ◌++◌, map, ℕ}
use Rattle.rules.specs.Access.{byte, word, dword, qword}
use Rattle.rules.specs.Device.{Device, Call, level, poll, read, write, Value, none, some, value}
use Rattle.rules.specs.Ring.{pairs_of}
use Rattle.rules.specs.History.{from_reset, raises}

-- the value of a call; the events that wait, as pairs; the drop count
pub data Question : Type 0 where
  answer_to : Call → Question
  waiting drops : Question

-- a value as a list of at most one
abbrev pub value_list : Value → List ℕ
value_list none = []
value_list (some v) = v ∷ []

-- what a device replies
abbrev pub reply : Device → Question → List ℕ
reply d (answer_to c) = value_list (value d c)
reply d waiting = pairs_of d.ring.waiting
reply d drops = d.ring.drops ∷ []

-- a row: calls from reset, questions, and the reply to each
pub record Mark : Type 0 where
  pub calls : List Call
  pub asked : List Question
  pub expected : List (List ℕ)

abbrev mark : List Call → List Question → List (List ℕ) → Mark
mark cs qs xs = record { calls = cs; asked = qs; expected = xs }

-- what is found: the reply to each question, in order
unfoldable pub found : Mark → List (List ℕ)
found m = map (reply (from_reset m.calls).after) m.asked

-- M1 to M12 (01, The marked dozen)
abbrev pub dozen : List Mark
dozen =
    -- M1
    mark [] (answer_to (read dword 0x020) ∷ []) ((0xffffffff ∷ []) ∷ []) ∷
    -- M2
    mark [] (answer_to (read dword 0x004) ∷ []) ((0x003f0001 ∷ []) ∷ []) ∷
    -- M3
    mark [] (answer_to (read dword 0x13e) ∷ []) ((0x00000101 ∷ []) ∷ []) ∷
    -- M4
    mark [] (answer_to (read qword 0x13c) ∷ []) ((0x01010101 ∷ []) ∷ []) ∷
    -- M5
    mark [] (answer_to (read word 0x0ff) ∷ []) ((0x0100 ∷ []) ∷ []) ∷
    -- M6
    mark [] (answer_to (read dword 0x0fe) ∷ []) ((0 ∷ []) ∷ []) ∷
    -- M7
    mark [] (answer_to (read dword 0x23e) ∷ []) ((0x00003f3e ∷ []) ∷ []) ∷
    -- M8
    mark (level 0 true ∷ []) (answer_to (read dword 0x380) ∷ answer_to (read byte 0x380) ∷ []) ((1 ∷ []) ∷ (0 ∷ []) ∷ []) ∷
    -- M9
    mark (level 3 true ∷ level 9 true ∷ write dword 0x020 0 ∷ []) (waiting ∷ answer_to (poll 9) ∷ []) ((3 ∷ 1 ∷ []) ∷ (9 ∷ []) ∷ []) ∷
    -- M10
    mark (level 3 true ∷ level 9 true ∷ write word 0x020 0 ∷ []) (waiting ∷ []) ((3 ∷ 1 ∷ 9 ∷ 1 ∷ []) ∷ []) ∷
    -- M11
    mark (write dword 0x3a0 3 ∷ write byte 0x3a1 0 ∷ write dword 0x020 0 ∷ []) (answer_to (read dword 0x3a0) ∷ []) ((0 ∷ []) ∷ []) ∷
    -- M12
    mark (write dword 0x020 0 ∷ (raises 0 17 ++ (write dword 0x020 0xffffffff ∷ []))) (waiting ∷ drops ∷ [])
    ((0 ∷ 0 ∷ 1 ∷ 0 ∷ 2 ∷ 0 ∷ 3 ∷ 0 ∷ 4 ∷ 0 ∷ 5 ∷ 0 ∷ 6 ∷ 0 ∷ 7 ∷ 0 ∷ 8 ∷ 0 ∷ 9 ∷ 0 ∷ 10 ∷ 0 ∷ 11 ∷ 0 ∷ 12 ∷ 0 ∷ 13 ∷ 0 ∷ 14 ∷ 0 ∷ 15 ∷ 0 ∷ []) ∷ (1 ∷ []) ∷ []) ∷
    []
