-- Two small traces played one after another: the first on an image where input 3 is unmasked, the second on the image that it left; and the theorems' premises are met.
use Rattle.basics.proofs.Prelude.{◌≡◌, refl, List, [], ◌∷◌, ◌++◌, ℕ, replicate, lit≤, bytes_of}
use Rattle.rules.specs.{Ring.dropped, Device.with_lines, Device.reset, Numbering.from_zero}
use Rattle.images.specs.{Form.two, Form.numbered, Image.encode_as}
use Rattle.calls.{specs.Calls.answered, proofs.laws.Computing.computing}
use Rattle.rules.specs.Device.{none, some}
use Rattle.traces.{proofs.laws.Computed.bytes_as, proofs.laws.Computed.tracing}
use Rattle.traces.specs.Played.{records_from, records, outcomes, gathered, played_all}
use Rattle.traces.specs.plays.{Playing.drains_in, Playing.play_on_test, Playing.play_test, Playing.PlayLeft, Playing.playing, Playing.playing_on, InTurn.followed_by, InTurn.wrote_of}
use Rattle.traces.proofs.plays.demands.{OneAfterAnother.in_turn, OneAfterAnother.as_one_trace}

-- the device after reset with inputs 0 to 3 unmasked
abbrev begun : List ℕ
begun = encode_as numbered (with_lines reset (record { mask = 0xfffffffffffffff0; irr = 0; isr = 0 })) (from_zero 0)

-- raise 3; raise 64, which is refused, mask 0 to 3 and drain
abbrev morning : List ℕ
morning = (1 ∷ 0 ∷ 6 ∷ 0 ∷ 1 ∷ 0 ∷ []) ++ bytes_as 1 3 0 0

abbrev evening : List ℕ
evening = (1 ∷ 0 ∷ 6 ∷ 0 ∷ 3 ∷ 0 ∷ []) ++ (bytes_as 1 64 0 0 ++ (bytes_as 5 4 0x020 0xffffffff ++ bytes_as 6 0 0 0))

-- the records of both in one
abbrev both : List ℕ
both = (2 ∷ 0 ∷ 10 ∷ 0 ∷ 1 ∷ 0 ∷ 26 ∷ 0 ∷ 3 ∷ 0 ∷ []) ++ (bytes_as 1 3 0 0 ++ (bytes_as 1 64 0 0 ++ (bytes_as 5 4 0x020 0xffffffff ++ bytes_as 6 0 0 0)))

abbrev first : PlayLeft
first = playing_on morning begun (replicate 16 0) [] (replicate 16 0)

abbrev second : PlayLeft
second = playing_on evening first.image (replicate 49 0xee) (replicate 65 0xdd) (replicate 17 0xcc)

first_done_lem : first.number ≡ 0
unfolding computing tracing records_from drains_in play_on_test playing_on
first_done_lem = refl

second_done_lem : second.number ≡ 0
unfolding computing tracing records_from drains_in play_on_test playing_on outcomes gathered
second_done_lem = refl

-- 3 is unmasked there, so its raise returns its vector; the second call masks it, and drains its deassert, whose number is 1
first_answers : first.answers ≡ answered 0 (some 3) (replicate 16 0)
unfolding computing tracing records_from drains_in play_on_test playing_on outcomes gathered
first_answers = refl

second_events : second.events ≡ (3 ∷ 0 ∷ 1 ∷ 0 ∷ []) ++ replicate 61 0xdd
unfolding computing tracing records_from drains_in play_on_test playing_on outcomes gathered dropped
second_events = refl

-- together they are the records of both in order
in_order : followed_by (wrote_of morning begun first) (wrote_of evening first.image second) ≡ played_all begun (records morning ++ records evening)
in_order = in_turn morning begun (replicate 16 0) [] (replicate 16 0) evening (replicate 49 0xee) (replicate 65 0xdd) (replicate 17 0xcc) first_done_lem second_done_lem

-- and the one trace that has them
same_records : records both ≡ records morning ++ records evening
unfolding tracing records_from
same_records = refl

both_done : (playing_on both begun (replicate 64 0) (replicate 64 0) (replicate 16 0)).number ≡ 0
unfolding computing tracing records_from drains_in play_on_test playing_on
both_done = refl

as_one : followed_by (wrote_of morning begun first) (wrote_of evening first.image second) ≡ wrote_of both begun (playing_on both begun (replicate 64 0) (replicate 64 0) (replicate 16 0))
as_one =
    as_one_trace morning begun (replicate 16 0) [] (replicate 16 0) evening (replicate 49 0xee) (replicate 65 0xdd) (replicate 17 0xcc) both (replicate 64 0) (replicate 64 0) (replicate 16 0)
    same_records first_done_lem second_done_lem both_done

-- a play from a reset, of any bytes, is done
abbrev bytes : List ℕ
bytes = replicate 251 0xee

from_reset_done : (playing morning bytes (replicate 16 0) [] (replicate 16 0)).number ≡ 0
unfolding computing tracing records_from drains_in play_test playing
from_reset_done = refl
