-- A day of two small traces, counted by a tally: input 5 is raised in the first and unmasked in the second, so that its wait goes over the end of a trace. The premises of the theorem about such days
-- are met, it is applied, and the row of input 5 is computed.
use Rattle.basics.proofs.Prelude.{◌≡◌, refl, sym, ap, subst, ◌∙◌, cond, ◌&&◌, ◌||◌, List, [], ◌∷◌, ◌++◌, ℕ, zero, suc, ◌+◌, ◌-◌, ◌*◌, ◌^◌, arith, leb, ltb, take, drop, drop-drop, replicate}
use Rattle.basics.specs.Numbers.{number_of}
use Rattle.rules.specs.{Device.with_lines, Device.reset, Numbering.from_zero}
use Rattle.images.specs.{Form.two, Image.encode_as, Image.image_test, Image.decode}
use Rattle.calls.proofs.laws.Computing.{computing}
use Rattle.traces.{proofs.laws.Computed.bytes_as, proofs.laws.Computed.tracing, specs.Played.records_from, specs.Trace.trace_test}
use Rattle.plain.specs.Sequence.{notes_of}
use Rattle.sheets.{specs.Day.begun, specs.Day.day_from, specs.Sheet.row_of, specs.Sheet.rows_below, specs.Sheet.sheet_bytes, proofs.laws.Computed.sheeted}
use Rattle.passes.specs.{tallies.Marks.day_marks, tallies.Marks.marks_of, tallies.Marks.all_marked, tallies.Marks.bumped, tallies.Tally.first_unsound, tallies.Tally.TallyTest, tallies.Tally.sound, tallies.Tally.wrong_at, tallies.Tally.of_open_wait, tallies.Tally.counted_in, tallies.Tally.tally_bytes, tallies.Tally.tally_length, tallies.Tallying.TallyLeft, tallies.Tallying.tally_leaves, tallies.Tallying.over_tally, tallies.Tallying.unless_tally, tallies.Tallying.unless_trace, tallies.Tallying.unless_image, tallies.Tallying.add_ends, tallies.Tallying.adding, tallies.Tallying.sum_ends, tallies.Tallying.summing, tallies.Tallying.tallied, tallies.Tallying.beginning, Finish.after_items}
use Rattle.passes.{specs.days.Parts.Part, specs.days.Parts.day_items, specs.days.Parts.HoldsSoFar, specs.days.Parts.added_all, specs.days.Parts.AllAdded, proofs.days.demands.Tallied.day_of_traces}

-- raise 5, which is masked; and, in the next trace, unmask it
abbrev first : List ℕ
first = (1 ∷ 0 ∷ 6 ∷ 0 ∷ 1 ∷ 0 ∷ []) ++ bytes_as 1 5 0 0

abbrev second : List ℕ
second = (1 ∷ 0 ∷ 6 ∷ 0 ∷ 1 ∷ 0 ∷ []) ++ bytes_as 5 4 0x020 0xffffffdf

-- any bytes
abbrev bytes : List ℕ
bytes = replicate 5200 0xee

abbrev answer : List ℕ
answer = replicate 16 0xee

abbrev i₁ : List ℕ
i₁ = encode_as two reset (from_zero 0)

abbrev i₂ : List ℕ
i₂ = encode_as two (with_lines reset (record { mask = 2 ^ 64 - 1; irr = 0x20; isr = 0 })) (from_zero 0)

abbrev part : (trace image : List ℕ) → Part
part l i = record { trace = l; image = i; answers = []; events = []; told = []; answer = answer }

abbrev parts : List Part
parts = part first i₁ ∷ part second i₂ ∷ []

pub holds_so_far : HoldsSoFar reset parts
unfolding computing tracing sheeted records_from after_items
holds_so_far = (refl, (refl, tt))

-- a tally that was begun, and what the first trace makes of it: one raise of input 5, whose wait is not over, and one record
abbrev none : List ℕ
none = replicate 5200 0

abbrev eight : ℕ → List ℕ
eight n = n ∷ replicate 7 0

abbrev carried : List ℕ
carried = replicate 400 0 ++ (eight 1 ++ (replicate 64 0 ++ (eight 1 ++ (replicate 4640 0 ++ (eight 1 ++ replicate 72 0)))))

pub begins : beginning bytes answer ≡ tally_leaves 0 none (replicate 16 0)
unfolding computing beginning rows_below
begins = refl

-- the test of m numbers that stand in front of a list, each taken off it: by their places in the tally each would be looked for from its beginning on
abbrev walked : (counted : ℕ) (left : List ℕ) (m k : ℕ) → TallyTest
walked n l zero k = sound
walked n l (suc m) k = cond (leb (2 ^ 63) (number_of (take 8 l)) || (of_open_wait k && ltb n (number_of (take 8 l)))) (wrong_at (8 * k)) (walked n (drop 8 l) m (suc k))

by_walking : (t l : List ℕ) (n m k : ℕ) → counted_in t ≡ n → drop (8 * k) t ≡ l → first_unsound t m k ≡ walked n l m k
unfolding first_unsound
by_walking t l n zero k e h = refl
by_walking t l n (suc m) k e h =
    let z : 8 * suc k ≡ 8 * k + 8 = omega arith in
    let next : drop (8 * suc k) t ≡ drop 8 l = ap (λ j. drop j t) z ∙ sym (drop-drop 8 (8 * k) t) ∙ ap (drop 8) h in
    let rest = by_walking t (drop 8 l) n m (suc k) e next in
    λ i. cond (leb (2 ^ 63) (number_of (take 8 (h i))) || (of_open_wait k && ltb (e i) (number_of (take 8 (h i))))) (wrong_at (8 * k)) (rest i)

sound_none : first_unsound none 650 0 ≡ sound
sound_none = by_walking none none 0 650 0 refl refl ∙ refl

sound_carried : first_unsound carried 650 0 ≡ sound
sound_carried = by_walking carried carried 1 650 0 refl refl ∙ refl

-- its row: one raise, one assert, which was offered, and a wait of one record
pub its_row : row_of (day_from begun (day_items parts)) 5
    ≡ record { raises = 1; lowers = 0; asserts = 1; deasserts = 0; returned = 0; offered = 1; dropped = 0; greatest = 1; withdrawn = 0; still_open = 0 }
unfolding computing tracing sheeted records_from
its_row = refl

counts_first : tally_bytes (tallied first none reset) ≡ carried
unfolding computing tracing sheeted records_from notes_of day_marks marks_of all_marked bumped rows_below
counts_first = refl

-- the second trace: its assert was offered, the wait is over, and there are two records
abbrev carried₂ : List ℕ
carried₂ =
    replicate 400 0 ++ (eight 1 ++ (replicate 8 0 ++ (eight 1 ++ (replicate 16 0 ++ (eight 1 ++ (replicate 8 0 ++ (eight 1 ++ (replicate 16 0 ++ (replicate 4640 0 ++ (eight 2 ++ replicate 72 0))))))))))

counts_second : tally_bytes (tallied second carried (with_lines reset (record { mask = 2 ^ 64 - 1; irr = 0x20; isr = 0 }))) ≡ carried₂
unfolding computing tracing sheeted records_from notes_of day_marks marks_of all_marked bumped rows_below
counts_second = refl

sound_carried₂ : first_unsound carried₂ 650 0 ≡ sound
sound_carried₂ = by_walking carried₂ carried₂ 2 650 0 refl refl ∙ refl

-- ---- the calls are done

-- what the tests of image and trace come to
goes_on_first : (z : TallyTest) → unless_image (image_test i₁) (unless_trace (trace_test first) (unless_tally z)) ≡ unless_tally z
unfolding computing tracing
goes_on_first z = refl

goes_on_second : (z : TallyTest) → unless_image (image_test i₂) (unless_trace (trace_test second) (unless_tally z)) ≡ unless_tally z
unfolding computing tracing
goes_on_second z = refl

held_second : decode i₂ ≡ with_lines reset (record { mask = 2 ^ 64 - 1; irr = 0x20; isr = 0 })
unfolding computing
held_second = refl

first_added : adding first i₁ none answer ≡ tally_leaves 0 carried (replicate 16 0)
unfolding computing adding
first_added =
    ap (λ x. add_ends x first i₁ none answer) (goes_on_first (first_unsound none 650 0) ∙ ap unless_tally sound_none)
    ∙ ap (λ d. tally_leaves 0 (over_tally (tally_bytes (tallied first none d)) none) (replicate 16 0)) holds_so_far.0
    ∙ ap (λ xs. tally_leaves 0 (over_tally xs none) (replicate 16 0)) counts_first

second_added : adding second i₂ carried answer ≡ tally_leaves 0 carried₂ (replicate 16 0)
unfolding computing adding
second_added =
    ap (λ x. add_ends x second i₂ carried answer) (goes_on_second (first_unsound carried 650 0) ∙ ap unless_tally sound_carried)
    ∙ ap (λ d. tally_leaves 0 (over_tally (tally_bytes (tallied second carried d)) carried) (replicate 16 0)) held_second
    ∙ ap (λ xs. tally_leaves 0 (over_tally xs carried) (replicate 16 0)) counts_second

all_added : AllAdded (beginning bytes answer).bytes parts
unfolding AllAdded
all_added =
    subst (λ (x : TallyLeft). AllAdded x.bytes parts) (sym begins)
    (ap (λ (x : TallyLeft). x.number) first_added, subst (λ (x : TallyLeft). AllAdded x.bytes (part second i₂ ∷ [])) (sym first_added) (ap (λ (x : TallyLeft). x.number) second_added, tt))

left : added_all (beginning bytes answer).bytes parts ≡ carried₂
unfolding added_all
left =
    ap (λ (x : TallyLeft). (adding second i₂ (adding first i₁ x.bytes answer).bytes answer).bytes) begins ∙ ap (λ (x : TallyLeft). (adding second i₂ x.bytes answer).bytes) first_added
    ∙ ap (λ (x : TallyLeft). x.bytes) second_added

summed : (summing carried₂ bytes answer).number ≡ 0
unfolding computing summing
summed = ap (λ z. (sum_ends z carried₂ bytes answer).number) sound_carried₂

-- The theorem of a day of traces, of this day.
pub the_day : (summing (added_all (beginning bytes answer).bytes parts) bytes answer).bytes ≡ sheet_bytes 8 (row_of (day_from begun (day_items parts))) ++ drop tally_length bytes
the_day = day_of_traces parts holds_so_far bytes answer bytes answer (ap (λ (x : TallyLeft). x.number) begins) all_added (ap (λ t. (summing t bytes answer).number) left ∙ summed)
