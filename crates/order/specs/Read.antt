-- What a host reads of exported calls (02, C-19): the events that they hand back, each with its number, in the bytes of answer areas and event buffers.
use Rattle.std.specs.Prelude.{cond, List, [], ◌∷◌, ◌++◌}
use Rattle.rules.specs.Numbering.{Numbered}
use Rattle.histories.specs.exported.Exported.{Exported, left_by, is_done, numbered_to, quads_to}

-- all that exported calls handed back, in order: in answer areas, and in event buffers; a refused call nothing (01, Saved image)
unfoldable pub returned_read : List Exported → List Numbered
returned_read [] = []
returned_read (x ∷ xs) = cond (is_done x) (numbered_to x.asked (left_by x).answer) [] ++ returned_read xs

unfoldable pub drained_read : List Exported → List Numbered
drained_read [] = []
drained_read (x ∷ xs) = cond (is_done x) (quads_to x.asked (left_by x).answer (left_by x).events) [] ++ drained_read xs
