-- Request C-17, of exported calls on an image of form 1: the copy that it holds, carried through the calls as the Rust writes it, is the one that the image
-- left last holds; and that is IRR. And of any call: it stores no route or vector byte at an index of 64 or more.
use Rattle.basics.proofs.Prelude.{◌≡◌, refl, sym, ap, ◌∙◌, Bool, true, false≢true, List, [], ◌∷◌, ℕ, arith, length, Bytes, test, part_number, part_known}
use Rattle.rules.specs.{Map.Register, Map.in_routes, Map.in_vectors, Access.register_acts, Access.entry_acts, Device.Device, Device.Call, Device.acts_of, Device.step, Device.reset, Numbering.from_zero, History.history}
use Rattle.rules.{specs.Copy.copy_through, specs.Copy.IndexBelow, proofs.demands.Copy.copy_is_irr, proofs.demands.Copy.route_index_below, proofs.demands.Copy.vector_index_below}
use Rattle.images.specs.{Form.Form, Form.copy, Form.irr, Form.word, Form.one, Form.two, Form.numbered, Form.has, Form.place, Form.form_length, Form.read, Image.word_in, Image.encode_as, Image.decode, Image.image_test, Image.accepted}
use Rattle.images.proofs.laws.{Tests.accepted_has, Tests.known_length, Saved.bytes_encode, Saved.length_encode}
use Rattle.laws.proofs.laws.Images.{decode_as_lem, accepted_encode, reset_well_formed, reset_numbered}
use Rattle.histories.specs.Demands.{Each, done, also}
use Rattle.histories.specs.exported.Exported.{Exported, Underway, carried_through, NoLoads, done_call, done_calls, GivenBytes, current, in_image, Faithful, after_reset, at_load}
use Rattle.histories.specs.exported.Forms.{HoldsCopy}
use Rattle.histories.proofs.laws.Reach.{Passes, register_has, any_met, call_has}
use Rattle.histories.proofs.exported.laws.Chains.{current_well, faithful_after_reset, faithful_at_load}
use Rattle.histories.proofs.exported.demands.FromCalls.{image_holds_device, faithful_through, length_through, image_holds_history, history_since_load}

-- ---- one image

-- of the forms, those that have the copy are the one that is asked for
holds_copy_exactly : (f : Form) (i : List ℕ) → length i ≡ form_length f → (HoldsCopy i → has f (word copy) ≡ true) × (has f (word copy) ≡ true → HoldsCopy i)
holds_copy_exactly one i l = (λ h. refl, λ e. omega (arith, l))
holds_copy_exactly two i l = (λ h. absurd (omega (arith, l, h)), λ e. absurd (false≢true e))
holds_copy_exactly numbered i l = (λ h. absurd (omega (arith, l, h)), λ e. absurd (false≢true e))

-- the IRR that an image of form 1 holds is the device's
irr_in : (l : List ℕ) → HoldsCopy l → word_in one l irr ≡ (decode l).core.lines.irr
irr_in l n = ap (λ (d : Device). d.core.lines.irr) (sym (decode_as_lem one l n))

-- in one that is accepted the copy equals IRR
copy_in : (l : List ℕ) → HoldsCopy l → image_test l ≡ accepted → word_in one l copy ≡ word_in one l irr
copy_in l n e = (accepted_has one l (sym (known_length one l n) ∙ e)).ruled.copied refl

-- so in the image left last
copy_left : (h : Underway) → Faithful h → HoldsCopy h.left → word_in one h.left copy ≡ word_in one h.left irr
copy_left h f n = copy_in h.left n (rw f.left (accepted_encode (current h) (current_well h f) f.numbers f.numbered f.form))

-- and so do their eight bytes
same_bytes : (l : List ℕ) → Bytes l → HoldsCopy l → word_in one l copy ≡ word_in one l irr → read one l (word copy) ≡ read one l (word irr)
same_bytes l b n e =
    part_known l (place one (word copy)) 8 b (omega (arith, n)) (word_in one l irr) e
    ∙ part_number l (place one (word irr)) 8 b (omega (arith, n))

-- ---- exported calls

module _ (h : Underway) (f : Faithful h) (l : length h.left ≡ form_length one) (xs : List Exported) (n : NoLoads h xs) where
  long : HoldsCopy (carried_through h xs).left
  long = length_through h f xs n ∙ l

  -- The copy in the image left last is the copy in the image left at first, carried through the calls that were done since,
  pub copy_of_calls : word_in one (carried_through h xs).left copy ≡ copy_through (in_image h) (word_in one h.left copy) (done_calls xs)
  copy_of_calls =
      let u = carried_through h xs in
      copy_left u (faithful_through h f xs n) long ∙ irr_in u.left long
      ∙ ap (λ (d : Device). d.core.lines.irr) (image_holds_history h f xs n)
      ∙ ap (λ d. (history d (done_calls xs)).after.core.lines.irr) (sym (image_holds_device h f))
      ∙ sym (copy_is_irr (in_image h) (word_in one h.left copy) (copy_left h f l ∙ irr_in h.left l) (done_calls xs))

  -- and it is the IRR that this image holds, byte for byte.
  pub copy_of_calls_is_irr : word_in one (carried_through h xs).left copy ≡ word_in one (carried_through h xs).left irr
  copy_of_calls_is_irr = copy_left (carried_through h xs) (faithful_through h f xs n) long

  pub copy_of_calls_same_bytes : read one (carried_through h xs).left (word copy) ≡ read one (carried_through h xs).left (word irr)
  copy_of_calls_same_bytes =
      let u = carried_through h xs in
      let g = faithful_through h f xs n in
      same_bytes u.left (rw g.left (bytes_encode (current u) (current_well u g) g.numbers g.numbered g.form)) long copy_of_calls_is_irr

-- From a reset on, where the copy is 0.
pub copy_of_calls_from_reset : (xs : List Exported) → NoLoads (after_reset one) xs
    → (word_in one (carried_through (after_reset one) xs).left copy ≡ copy_through reset 0 (done_calls xs))
    × (word_in one (carried_through (after_reset one) xs).left copy ≡ word_in one (carried_through (after_reset one) xs).left irr)
unfolding history
copy_of_calls_from_reset xs n =
    let f = faithful_after_reset one in
    let sized = length_encode reset reset_well_formed (from_zero 0) reset_numbered one in
    let here = copy_left (after_reset one) f sized ∙ irr_in (encode_as one reset (from_zero 0)) sized in
    let zero-first = here ∙ ap (λ (d : Device). d.core.lines.irr) (image_holds_device (after_reset one) f) in (
      copy_of_calls (after_reset one) f sized xs n ∙ (λ j. copy_through (image_holds_device (after_reset one) f j) (zero-first j) (done_calls xs)),
      copy_of_calls_is_irr (after_reset one) f sized xs n,
    )

-- From an accepted image of that form on, whatever it holds.
pub copy_of_calls_from_image : (i : List ℕ) → Bytes i → length i ≡ form_length one → image_test i ≡ accepted → (xs : List Exported) → NoLoads (at_load i) xs
    → (word_in one (carried_through (at_load i) xs).left copy ≡ copy_through (decode i) (word_in one i copy) (done_calls xs))
    × (word_in one (carried_through (at_load i) xs).left copy ≡ word_in one (carried_through (at_load i) xs).left irr)
copy_of_calls_from_image i b l e xs n =
    let f = faithful_at_load i b e in
    (copy_of_calls (at_load i) f l xs n, copy_of_calls_is_irr (at_load i) f l xs n)

-- With loads and resets anywhere among the calls, where the image left last is of that form: carried from the IRR of the last of them.
pub copy_since_load : (h : Underway) (xs : List Exported) → Faithful h → GivenBytes xs → let u = carried_through h xs in length u.left ≡ form_length one
    → (word_in one u.left copy ≡ copy_through u.began u.began.core.lines.irr u.calls) × (word_in one u.left copy ≡ word_in one u.left irr)
copy_since_load h xs f b l =
    let u = carried_through h xs in
    let g = history_since_load h xs f b in (
      copy_left u g l ∙ irr_in u.left l ∙ ap (λ (d : Device). d.core.lines.irr) (image_holds_device u g) ∙ sym (copy_is_irr u.began u.began.core.lines.irr refl u.calls),
      copy_left u g l,
    )

-- ---- the index

-- a byte that stands in its range has an index below 64
byte_below : (i : ℕ) → Passes IndexBelow i
unfolding entry_acts
byte_below i b h =
    test (in_routes i) (λ e. rw e (also (route_index_below i e).1 done))
    (λ e. rw e (test (in_vectors i) (λ f. rw f (also (vector_index_below i f).1 done)) (λ f. rw f done)))

register_below : (r : Register) (h : Bool) (v : ℕ) → Each IndexBelow (register_acts r h v)
register_below r h v = register_has IndexBelow (λ h v. tt) (λ b. tt) (λ p h v. tt) r h v (λ e. tt)

-- Whatever the device and the call, each route or vector byte that it stores has an index below 64.
pub indexes_below : (d : Device) (c : Call) → Each IndexBelow (acts_of d.core c)
indexes_below d c = call_has IndexBelow (λ m. tt) d.core c (λ w o v e. any_met IndexBelow register_below byte_below d.core w o v)

-- So of exported calls: a call that was done stores each route or vector byte of its image's device at an index below 64.
pub indexes_below_of_calls : (x : Exported) (c : Call) → done_call x ≡ c ∷ [] → Each IndexBelow (acts_of (decode x.given).core c)
indexes_below_of_calls x c e = indexes_below (decode x.given) c
