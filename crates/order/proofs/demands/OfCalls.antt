-- 02, C-19, of exported calls on images with the fifth body, each given the image that the one before it left. A refused call counts as none.
use Rattle.basics.proofs.Prelude.{ap, ◌≡◌, refl, sym, subst, ◌∙◌, true, List, [], ◌∷◌, ◌++◌, map-append, arith, ℕ, Bytes, test, length}
use Rattle.rules.specs.{Device.reset, Numbering.Numbered, Numbering.from_zero, Numbering.events_in, History.history}
use Rattle.images.specs.{Form.Form, Form.one, Form.two, Form.numbered, Form.numbers, Form.has, Form.form_length, Image.encode_as, Image.decode, Image.numbers_in, Image.image_test, Image.accepted}
use Rattle.calls.specs.Calls.{afresh, asked_by}
use Rattle.histories.specs.exported.Exported.{numbered_to, quads_to, Exported, left_by, is_done, Underway, carried_through, NoLoads, HandedOn, done_calls, left_after, current, in_image, Faithful, at_load, after_reset, returned_to, drained_to, returned_by, drained_by}
use Rattle.histories.proofs.exported.laws.Chains.{current_well, left_length, left_holds, faithful_at_load, faithful_after_reset, reset_leaves}
use Rattle.histories.proofs.exported.demands.FromCalls.{image_holds_numbers, image_holds_history, numbers_run_through, handed_on_is_no_load, left_through}
use Rattle.order.specs.{Numbered.InOrder, Read.returned_read, Read.drained_read}
use Rattle.order.proofs.{laws.Reading.read_as, demands.OfHistories.numbers_are_positions}
use Rattle.calls.specs.Calls as request

-- ---- from any history under way

-- 290 bytes have the fifth body
pub fifth_body : (f : Form) → form_length f ≡ 290 → has f numbers ≡ true
fifth_body one e = absurd (omega arith)
fifth_body two e = absurd (omega arith)
fifth_body numbered e = refl

-- The image left last has 290 bytes, and of the exported calls from there on none is a load. What a host reads of them, returned and drained, and what waits in
-- the image left at last has the numbers of its positions, from the next number of the image left at first.
pub numbers_of_calls : (h : Underway) → Faithful h → length h.left ≡ 290 → (xs : List Exported) → NoLoads h xs
    → InOrder (in_image h) (numbers_in h.left) (done_calls xs) (returned_read xs) (drained_read xs) (in_image (carried_through h xs)) (numbers_in (carried_through h xs).left)
numbers_of_calls h f l xs n =
    let t = fifth_body f.form (sym (left_length h f) ∙ l) in
    let r = read_as h f t xs n in
    rw (numbers_run_through h f t xs n, left_holds h f, image_holds_numbers h f t, image_holds_history h f xs n, r.returned, r.drained)
    (numbers_are_positions (current h) (current_well h f) f.numbers f.numbered (done_calls xs))

-- ---- from an image of 290 bytes

-- From any accepted image i of 290 bytes, loaded or left by whatever calls: exported calls of which the first is given i and each other the image that the one
-- before it left, none a reset. The numbers handed back, returned and drained, are the positions in the order of making modulo 65,536, from the next number in i;
-- and where none waited in i and at most 65,536 events were made, the missing ones are exactly those of the dropped events and of those that wait in the image left
-- at last.
pub numbers_of_an_image : (i : List ℕ) → Bytes i → length i ≡ 290 → image_test i ≡ accepted → (xs : List Exported) → HandedOn i xs
    → InOrder (decode i) (numbers_in i) (done_calls xs) (returned_read xs) (drained_read xs) (decode (left_after i xs)) (numbers_in (left_after i xs))
numbers_of_an_image i b l t xs o =
    rw (← left_through (at_load i) xs o) (numbers_of_calls (at_load i) (faithful_at_load i b t) l xs (handed_on_is_no_load (at_load i) xs o))

-- From a done reset of any 290 bytes: the first number is 0, and nothing waits. So of the missing ones this is said while at most 65,536 events were made.
after_reset_lem : (f : Form) → form_length f ≡ 290 → (xs : List Exported) → HandedOn (encode_as f reset (from_zero 0)) xs
    → let last = left_after (encode_as f reset (from_zero 0)) xs in
    InOrder reset (from_zero 0) (done_calls xs) (returned_read xs) (drained_read xs) (decode last) (numbers_in last)
unfolding history faithful_after_reset
after_reset_lem f l xs o =
    let h = after_reset f in
    let g = faithful_after_reset f in
    let i = encode_as f reset (from_zero 0) in
    let last = left_after i xs in
    let whole = numbers_of_calls h g (left_length h g ∙ l) xs (handed_on_is_no_load h xs o) in
    let left = subst (λ j. InOrder (decode i) (numbers_in i) (done_calls xs) (returned_read xs) (drained_read xs) (decode j) (numbers_in j)) (left_through h xs o) whole in
    let device = subst (λ d. InOrder d (numbers_in i) (done_calls xs) (returned_read xs) (drained_read xs) (decode last) (numbers_in last)) (left_holds h g) left in
    subst (λ s. InOrder reset s (done_calls xs) (returned_read xs) (drained_read xs) (decode last) (numbers_in last)) (image_holds_numbers h g (fifth_body f l)) device

pub numbers_from_reset : (x : Exported) → asked_by x.asked ≡ afresh → is_done x ≡ true → length x.given ≡ 290 → (xs : List Exported) → HandedOn (left_by x).image xs
    → let last = left_after (left_by x).image xs in
    InOrder reset (from_zero 0) (done_calls xs) (returned_read xs) (drained_read xs) (decode last) (numbers_in last)
numbers_from_reset x a t l xs o =
    let r = reset_leaves x t a in
    subst (λ i. HandedOn i xs → let last = left_after i xs in InOrder reset (from_zero 0) (done_calls xs) (returned_read xs) (drained_read xs) (decode last) (numbers_in last)) (sym r.2)
    (after_reset_lem r.0 (sym r.1 ∙ l) xs) o

-- ---- without the numbers

-- The events that a host reads with their numbers are, without them, those that it reads of any form.
pub returned_without : (xs : List Exported) → events_in (returned_read xs) ≡ returned_by xs
unfolding returned_read returned_by
returned_without [] = refl
returned_without (x ∷ xs) =
    test (is_done x)
    (λ t. rw t (map-append (λ (y : Numbered). y.event) (numbered_to x.asked (left_by x).answer) (returned_read xs) ∙ ap (λ es. returned_to x.asked (left_by x).answer ++ es) (returned_without xs)))
    (λ t. rw t (returned_without xs))

pub drained_without : (xs : List Exported) → events_in (drained_read xs) ≡ drained_by xs
unfolding drained_read drained_by
drained_without [] = refl
drained_without (x ∷ xs) =
    test (is_done x)
    (λ t. rw t (map-append (λ (y : Numbered). y.event) (quads_to x.asked (left_by x).answer (left_by x).events) (drained_read xs) ∙ ap (λ es. drained_to x.asked (left_by x).answer (left_by x).events ++ es) (drained_without xs)))
    (λ t. rw t (drained_without xs))
