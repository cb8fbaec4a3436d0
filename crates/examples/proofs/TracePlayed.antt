-- A small trace played (02, C-11): two blocks of five records, tested and played from a reset of 290 bytes.
use Rattle.basics.proofs.Prelude.{◌≡◌, refl, ap, true, List, [], ◌∷◌, ◌++◌, map, ℕ, ◌-◌, ◌^◌, lit<, lit≤, replicate, bytes_of, part}
use Rattle.traces.{proofs.laws.Computed.bytes_as, proofs.laws.Computed.tracing, specs.Trace.good, specs.Trace.trace_test}
use Rattle.traces.specs.Played.{records_from, outcomes, outcomes_of, gathered, played}
use Rattle.traces.specs.plays.{Firsts.first_records, Playing.played_to, Playing.drains_in, Playing.play_test, Playing.PlayLeft, Playing.playing}
use Rattle.traces.proofs.plays.demands.{Ended.events_of_record, Firsts.first_left}
use Rattle.histories.specs.Demands.{in_service}
use Rattle.rules.specs.{Ring.dropped, Device.with_lines, Device.reset}
use Rattle.images.specs.{Form.numbered, Image.encode_as, Image.decode}
use Rattle.calls.proofs.laws.Computing.{computing}

-- unmask 0 to 3, raise 3; then raise 64, which is refused, mask 0 to 3 and drain
abbrev day : List ℕ
day =
    (2 ∷ 0 ∷ 10 ∷ 0 ∷ 2 ∷ 0 ∷ 42 ∷ 0 ∷ 3 ∷ 0 ∷ [])
    ++ (bytes_as 5 4 0x020 0xfffffff0
    ++ (bytes_as 1 3 0 0
    ++ (bytes_as 1 64 0 0
    ++ (bytes_as 5 4 0x020 0xffffffff ++ bytes_as 6 0 0 0))))

day_good : trace_test day ≡ good 10 5
unfolding tracing
day_good = refl

-- any 290 bytes
abbrev bytes : List ℕ
bytes = replicate 290 0xee

-- the number that each record hands back, the answers, and the one event drained: the deassert of 3, whose number is 1
numbers_back : map (λ o. o.number) (outcomes_of day bytes) ≡ 0 ∷ 0 ∷ 3 ∷ 0 ∷ 0 ∷ []
unfolding computing tracing records_from outcomes
numbers_back = refl

abbrev told : (number present value : ℕ) → List ℕ
told number present value = number ∷ present ∷ (replicate 6 0 ++ bytes_of 8 value)

answers_back : (played day bytes).answers ≡ told 0 1 0 ++ (told 0 1 3 ++ (told 3 0 0 ++ (told 0 1 0 ++ told 0 1 1)))
unfolding computing tracing records_from outcomes gathered dropped
answers_back = refl

events_drained : (played day bytes).events ≡ 3 ∷ 0 ∷ 1 ∷ 0 ∷ []
unfolding computing tracing records_from outcomes gathered dropped
events_drained = refl

-- the image that is left: all masked as after the reset, 3 latched, and the next number 2
image_left : (played day bytes).image ≡ encode_as numbered (with_lines reset (record { mask = 2 ^ 64 - 1; irr = 8; isr = 0 })) (record { next = 2; waiting = [] })
unfolding computing tracing records_from outcomes gathered dropped
image_left = refl

-- ---- after each record

-- the trace is played in buffers that have just room, and so are its first two records
was_played : (playing day bytes (replicate 80 0) (replicate 64 0) (replicate 16 0)).number ≡ 0
unfolding computing tracing records_from playing play_test drains_in
was_played = refl

after_two : (playing (first_records day 2) bytes (replicate 80 0) (replicate 64 0) (replicate 16 0)).image ≡ (played_to day 2 bytes).image
unfolding tracing
after_two = ap (λ (p : PlayLeft). p.image) (first_left day bytes (replicate 80 0) (replicate 64 0) (replicate 16 0) was_played 2 (lit≤ tt) (lit≤ tt))

-- there input 3 is in service
served_by_then : in_service 3 (decode (played_to day 2 bytes).image).core.lines ≡ true
unfolding computing tracing records_from outcomes gathered dropped
served_by_then = refl

-- the events of the last record, the drain, are all there are
of_the_drain : part 0 4 (playing day bytes (replicate 80 0) (replicate 64 0) (replicate 16 0)).events ≡ 3 ∷ 0 ∷ 1 ∷ 0 ∷ []
unfolding computing tracing records_from outcomes gathered dropped
of_the_drain = events_of_record day bytes (replicate 80 0) (replicate 64 0) (replicate 16 0) was_played 4 (lit< tt)
