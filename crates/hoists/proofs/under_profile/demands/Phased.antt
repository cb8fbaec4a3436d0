-- 02, C-22 of a guest whose host keeps the phase beside the state: calls under the profile, each given the image and the phase that the one before it left, refused ones anywhere. After a done end of
-- start-up and until a done reset every vector write is refused and the vector bytes stay; and demand 3's account, service and order hold of the guest from its reset on.
use Rattle.basics.proofs.Prelude.{◌≡◌, refl, sym, ap, subst, ◌∙◌, Bool, true, false, cond, ◌&&◌, true≢false, and-false, List, [], ◌∷◌, ◌++◌, map, append-nil, ℕ, ◌+◌, ◌<◌, arith, eqb, length, get_or, Bytes, length-set, eq-eqb, eqb-true, test}
use Rattle.rules.specs.{Map.in_vectors, Lines.Made, Ring.Event, Ring.dropped, Access.Width, Device.Call, Device.step, Device.reset}
use Rattle.rules.specs.Account.{carrying, asserts_among, deasserts_among}
use Rattle.images.{specs.Image.image_test, specs.Image.accepted, specs.Image.decode, proofs.laws.Saved.bytes_encode}
use Rattle.calls.specs.Calls.{pass, access_call, Outcome, AnswerRoom}
use Rattle.calls.specs.Untouched.{IsDone}
use Rattle.laws.proofs.laws.Images.{accepted_encode}
use Rattle.histories.specs.Premises.{Along}
use Rattle.histories.specs.Demands.{in_service, Eligible, Spared, polls_or_raises, as_event, found_by, FindsRoom, FindsNone, left_full, ring_acts}
use Rattle.histories.specs.exported.Exported.{Underway, carried_on, carried_through, NoLoads, done_call, done_calls, current, in_image, Faithful, after_reset, at_load}
use Rattle.histories.proofs.exported.laws.Chains.{faithful_after_reset, faithful_at_load, current_well}
use Rattle.histories.proofs.exported.demands.FromCalls.{faithful_through}
use Rattle.histories.proofs.exported.demands.Dropped.{else_dropped_of_calls}
use Rattle.hoists.specs.{Profile.running, Profile.after_start_up, Profile.aligned_dword, HoistCalls.hoist_reset, HoistCalls.end_startup, Profile.PhaseLent}
use Rattle.hoists.specs.Hoisted.{Asks, resets, reads, writes, ends, levels, polls, drains, Hoisted, left_under, left_by, is_done, exported_as, plain_call, plain_calls, returned_under, drained_under, is_reset, left_after}
use Rattle.histories.specs.Chains.{last_left}
use Rattle.histories.proofs.laws.Chained.{made_chained, chained_made, chain_split, chain_part, last_part}
use Rattle.hoists.specs.Phased.{phase_under, phase_left, starts_over, Pair, pair_left, PhasedOn, phase_after, Posed, posed_on, posed_by, phased_on, NoneStartsOver, Guest, Started}
use Rattle.hoists.proofs.under_profile.demands.Answers.{unaligned_is_14, forbidden_is_15}
use Rattle.hoists.proofs.under_profile.demands.Under.{done_is_full, PlainIs, none, one, plain_is, EachCall}
use Rattle.hoists.proofs.under_profile.demands.Handed.{end_keeps_image, one_no_load, not_reset, ImagesOn, images_no_load, images_left, a_reset_begins_under}
use Rattle.hoists.proofs.under_profile.demands.Phases.{after_runs, done_end, refused_end_keeps, refused_reset_keeps, vectors_stay_after_start_up}
use Rattle.hoists.proofs.under_profile.demands.Ended.{vectors_forbidden}
use Rattle.hoists.proofs.under_profile.demands.DemandThree.{account_from_reset, service_under_profile, order_under_profile}
use Rattle.rules.specs.Device as device

-- ---- handed on, exactly

-- A call starts over exactly if it is a reset and is done: a refused reset does not, nor does any other call.
pub starts_over_exactly : (x : Hoisted) → (is_done x ≡ false → starts_over x ≡ false) × (is_reset x.asks ≡ false → starts_over x ≡ false) × (is_reset x.asks ≡ true → is_done x ≡ true → starts_over x ≡ true)
starts_over_exactly x = (λ d. (λ s. d s && is_reset x.asks), λ r. (λ s. is_done x && r s) ∙ and-false (is_done x), λ r d. (λ s. d s && r s))

-- Calls are handed on with image and phase exactly if they are what is made one after another on an image and a phase with no done reset among it. Refused ones, resets too, may stand anywhere.
pub phased_on_exactly : (i p : List ℕ)
    → ((qs : List Posed) → NoneStartsOver (phased_on i p qs) → PhasedOn i p (phased_on i p qs)) × ((xs : List Hoisted) → PhasedOn i p xs → (xs ≡ phased_on i p (map posed_by xs)) × NoneStartsOver xs)
unfolding phased_on PhasedOn NoneStartsOver
phased_on_exactly i p = (
  made_chained pair_left (λ (x : Hoisted). starts_over x ≡ false) posed_on (λ (x : Hoisted). (x.given, x.phase)) (λ s q. refl) (i, p),
  chained_made _ _ posed_on _ posed_by (λ s x e t. record { given = (e t).0; phase = (e t).1; asks = x.asks; answer = x.answer }) (i, p),
)

-- ---- no load

phased_images : (i p : List ℕ) (xs : List Hoisted) → PhasedOn i p xs → ImagesOn i xs
unfolding PhasedOn
phased_images i p xs c = chain_part _ _ _ (λ (k : Pair). k.0) (λ x n. n) (i, p) xs c

-- None of them is a load,
pub phased_no_load : (h : Underway) (p : List ℕ) (xs : List Hoisted) → PhasedOn h.left p xs → NoLoads h (plain_calls xs)
phased_no_load h p xs c = images_no_load h xs (phased_images h.left p xs c)

-- and the image left by the last of them is the one left last.
pub phased_left : (h : Underway) (p : List ℕ) (xs : List Hoisted) → PhasedOn h.left p xs → (carried_through h (plain_calls xs)).left ≡ left_after h.left xs
phased_left h p xs c = images_left h xs (phased_images h.left p xs c)

-- the image left at last is the one of the pair left at last
last_image : (k : Pair) (xs : List Hoisted) → (last_left pair_left k xs).0 ≡ left_after k.0 xs
unfolding left_after
last_image k [] = refl
last_image k (x ∷ xs) = last_image (pair_left x) xs

-- what is handed on comes apart where one will
pub phased_split : (i p : List ℕ) (xs ys : List Hoisted) → PhasedOn i p (xs ++ ys) → PhasedOn i p xs × PhasedOn (left_after i xs) (phase_after p xs) ys
unfolding PhasedOn left_after phase_after
phased_split i p xs ys c =
    let r = chain_split _ _ _ (i, p) xs ys c in
    let last : last_left pair_left (i, p) xs ≡ (left_after i xs, phase_after p xs) = (λ t. (last_image (i, p) xs t, last_part pair_left (λ (k : Pair). k.1) (i, p) xs t)) in
    (r.0, subst (λ (k : Pair). PhasedOn k.0 k.1 ys) last r.1)

left_append : (i : List ℕ) (xs ys : List Hoisted) → left_after i (xs ++ ys) ≡ left_after (left_after i xs) ys
unfolding left_after
left_append i [] ys = refl
left_append i (x ∷ xs) ys = left_append (left_by x).image xs ys

-- ---- the second phase lasts until a done reset

module _ (i p a : List ℕ) where
  keeps_phase : (k : Asks) → running p ≡ true → (eqb (left_under i p a k).number 0 && is_reset k) ≡ false → phase_under i p a k ≡ p
  keeps_phase resets r n = refused_reset_keeps i p a (λ z. true≢false (sym (eq-eqb (hoist_reset i p a).number 0 z) ∙ sym (both (eqb (hoist_reset i p a).number 0)) ∙ n))
    where
      both : (b : Bool) → (b && true) ≡ b
      both true = refl
      both false = refl
  keeps_phase (reads base size address width) r n = refl
  keeps_phase (writes base size address width v) r n = refl
  keeps_phase ends r n = refused_end_keeps i p a (λ z. true≢false (sym r ∙ (done_end i p a z).was_start_up))
  keeps_phase (levels m v) r n = refl
  keeps_phase (polls m) r n = refl
  keeps_phase (drains events place) r n = refl

-- Where a call is given the phase after start-up, so is each that is handed on from it, the very same bytes.
pub phase_lasts : (i p : List ℕ) (xs : List Hoisted) → running p ≡ true → PhasedOn i p xs → EachCall (λ x. x.phase ≡ p) xs
unfolding PhasedOn
phase_lasts i p [] r c = tt
phase_lasts i p (x ∷ xs) r c =
    let its : x.phase ≡ p = ap (λ (k : Pair). k.1) c.0 in
    let own : running x.phase ≡ true = ap running its ∙ r in
    let stays = keeps_phase x.given x.phase x.answer x.asks own c.1 ∙ its in
    (its, phase_lasts (left_by x).image p xs r (subst (λ q. PhasedOn (left_by x).image q xs) stays c.2))

-- ---- after the end of start-up

-- the image of each call is accepted
accepted_on : (h : Underway) → Faithful h → (p : List ℕ) (before : List Hoisted) (x : Hoisted) (later : List Hoisted) → PhasedOn h.left p (before ++ (x ∷ later)) → image_test x.given ≡ accepted
unfolding PhasedOn
accepted_on h f p before x later c =
    let s = phased_split h.left p before (x ∷ later) c in
    let k = carried_through h (plain_calls before) in
    let g = faithful_through h f (plain_calls before) (phased_no_load h p before s.0) in
    ap image_test (ap (λ (k : Pair). k.0) s.1.0 ∙ sym (phased_left h p before s.0) ∙ g.left) ∙ accepted_encode (current k) (current_well k g) g.numbers g.numbered g.form

each_at : (Q : Hoisted → Type 0) (before : List Hoisted) (x : Hoisted) (later : List Hoisted) → EachCall Q (before ++ (x ∷ later)) → Q x
each_at Q [] x later e = e.0
each_at Q (y ∷ before) x later e = each_at Q before x later e.1

module _ (e : Hoisted) (xs : List Hoisted) (s : Started e xs) where
  abbrev started : Underway
  started = at_load e.given

  was_done : IsDone (end_startup e.given e.phase e.answer).number
  was_done = eqb-true (end_startup e.given e.phase e.answer).number 0 (sym (ap (λ k. eqb (left_under e.given e.phase e.answer k).number 0) s.asked) ∙ s.ended)

  keeps_image : (left_by e).image ≡ e.given
  keeps_image = ap (λ k. (left_under e.given e.phase e.answer k).image) s.asked ∙ end_keeps_image e.given e.phase e.answer

  phase_is : phase_left e ≡ after_start_up e.phase
  phase_is = ap (phase_under e.given e.phase e.answer) s.asked ∙ (done_end e.given e.phase e.answer was_done).phase

  runs : running (phase_left e) ≡ true
  runs = ap running phase_is ∙ after_runs e.phase (done_end e.given e.phase e.answer was_done).lent

  lent : PhaseLent (phase_left e)
  lent = rw (phase_is, length-set e.phase 0 1) (done_end e.given e.phase e.answer was_done).lent

  faithful : Faithful started
  faithful = faithful_at_load e.given s.bytes (done_end e.given e.phase e.answer was_done).good

  goes_on : PhasedOn started.left (phase_left e) xs
  goes_on = subst (λ i. PhasedOn i (phase_left e) xs) keeps_image s.handed_on

  -- After a done end of start-up and until a done reset, over any calls: the vector bytes in the image left last are those in the image that the end left.
  pub vector_bytes_stay : (decode (left_after (left_by e).image xs)).core.vectors ≡ (decode (left_by e).image).core.vectors
  vector_bytes_stay =
      let each = phase_lasts e.given (phase_left e) xs runs goes_on in
      let stay = vectors_stay_after_start_up started faithful xs (each_runs xs each) (phased_no_load started (phase_left e) xs goes_on) in
      rw (keeps_image, ← phased_left started (phase_left e) xs goes_on) stay
    where
      each_runs : (ys : List Hoisted) → EachCall (λ y. y.phase ≡ phase_left e) ys → EachCall (λ y. running y.phase ≡ true) ys
      each_runs [] c = tt
      each_runs (y ∷ ys) c = (ap running c.0 ∙ runs, each_runs ys c.1)

-- Of those calls a write that the full device would do, at an offset of the vectors and with room for the answer, is refused with 15, whatever it writes; and with 14 where it is no aligned Dword.
pub vector_write_refused : (e : Hoisted) (before : List Hoisted) (x : Hoisted) (later : List Hoisted) → Started e (before ++ (x ∷ later)) → (base size address width v : ℕ)
    → x.asks ≡ writes base size address width v → (w : Width) (o : ℕ) → access_call base size address width (λ w o. device.write w o v) ≡ pass (device.write w o v) → in_vectors o ≡ true
    → AnswerRoom x.answer → (left_by x).number ≡ cond (aligned_dword w o) 15 14
vector_write_refused e before x later s base size address width v asks w o passes inside room =
    let xs = before ++ (x ∷ later) in
    let good = accepted_on (started e xs s) (faithful e xs s) (phase_left e) before x later (goes_on e xs s) in
    let own = each_at (λ y. y.phase ≡ phase_left e) before x later (phase_lasts e.given (phase_left e) xs (runs e xs s) (goes_on e xs s)) in
    let run : running x.phase ≡ true = ap running own ∙ runs e xs s in
    let long : PhaseLent x.phase = rw own (lent e xs s) in
    ap (λ k. (left_under x.given x.phase x.answer k).number) asks
    ∙ test (aligned_dword w o)
    (λ t. rw t (forbidden_is_15 base size address width v x.given x.phase x.answer w o good passes room long t (vectors_forbidden (decode x.given) o v run inside)))
    (λ t. rw t (unaligned_is_14 base size address width v x.given x.phase x.answer w o good passes room long t))

-- ---- demand 3 of a guest

-- a guest's calls xs, and those after them
module _ (r : Hoisted) (xs ys : List Hoisted) (g : Guest r (xs ++ ys)) where
  -- the history under way between them
  record Between : Type 0 where
    under : Underway
    faithful : Faithful under
    left : under.left ≡ left_after (left_by r).image xs
    phase : List ℕ
    handed_on : PhasedOn under.left phase ys
    last : (carried_through under (plain_calls ys)).left ≡ left_after (left_by r).image (xs ++ ys)

  between : Between
  between =
      let b = a_reset_begins_under r g.asked g.begun in
      let h = after_reset b.0 in
      let p = phase_left r in
      let c : PhasedOn h.left p (xs ++ ys) = rw b.1 at g.handed_on in
      let s = phased_split h.left p xs ys c in
      let k = carried_through h (plain_calls xs) in
      let at = phased_left h p xs s.0 in
      let on : PhasedOn k.left (phase_after p xs) ys = rw at s.1 in
      record {
        under = k;
        faithful = faithful_through h (faithful_after_reset b.0) (plain_calls xs) (phased_no_load h p xs s.0);
        left = at ∙ ap (λ i. left_after i xs) (sym b.1);
        phase = phase_after p xs;
        handed_on = on;
        last = phased_left k (phase_after p xs) ys on ∙ ap (λ i. left_after i ys) at ∙ sym (left_append h.left xs ys) ∙ ap (λ i. left_after i (xs ++ ys)) (sym b.1);
      }

  abbrev no_loads : NoLoads between.under (plain_calls ys)
  no_loads = phased_no_load between.under between.phase ys between.handed_on

-- Where a guest's end of start-up is done, all that is said of calls after it holds of the guest's: the image is bytes, since it came from a reset.
pub guest_started : (r : Hoisted) (xs : List Hoisted) (e : Hoisted) (ys : List Hoisted) → Guest r (xs ++ (e ∷ ys)) → e.asks ≡ ends → is_done e ≡ true → Started e ys
unfolding PhasedOn
guest_started r xs e ys g asked ended =
    let t = between r xs (e ∷ ys) g in
    let h = t.under in
    let f = t.faithful in
    let o = t.handed_on in
    record {
      asked = asked;
      ended = ended;
      bytes = subst Bytes (sym (ap (λ (k : Pair). k.0) o.0 ∙ f.left)) (bytes_encode (current h) (current_well h f) f.numbers f.numbered f.form);
      handed_on = o.2;
    }

-- The account, from the reset to the image left last.
pub guest_account : (v : ℕ) (r : Hoisted) (xs : List Hoisted) → Guest r xs → (lost : List Event) → lost ≡ dropped reset.ring (ring_acts reset (done_calls (plain_calls xs)))
    → let left = decode (left_after (left_by r).image xs) in
    asserts_among v (returned_under xs) + asserts_among v (drained_under xs) + asserts_among v left.ring.waiting + asserts_among v lost
    ≡ deasserts_among v (returned_under xs) + deasserts_among v (drained_under xs) + deasserts_among v left.ring.waiting + deasserts_among v lost + carrying v left.core
guest_account v r xs g lost is =
    let b = a_reset_begins_under r g.asked g.begun in
    let h = after_reset b.0 in
    let c : PhasedOn h.left (phase_left r) xs = rw b.1 at g.handed_on in
    let whole = account_from_reset v b.0 xs (phased_no_load h (phase_left r) xs c) lost is in
    rw (b.1, ← phased_left h (phase_left r) xs c) whole

-- Service: in the image that the guest's calls xs leave, the input i is latched and unmasked, and no call after them lowers, clears or masks it. Of those x is done and is a poll or raise of i. Then i is in
-- service in the image left last.
pub guest_service : (r : Hoisted) (xs before : List Hoisted) (x : Hoisted) (later : List Hoisted) → Guest r (xs ++ (before ++ (x ∷ later)))
    → let d = decode (left_after (left_by r).image xs) in
    (i : ℕ) → i < 64 → Eligible i d.core.lines → (c : Call) → done_calls (plain_call x) ≡ c ∷ [] → polls_or_raises i c ≡ true
    → Along (Spared i) d (done_calls (plain_calls (before ++ (x ∷ later))))
    → in_service i (decode (left_after (left_by r).image (xs ++ (before ++ (x ∷ later))))).core.lines ≡ true
guest_service r xs before x later g i b el c is asks spared =
    let ys = before ++ (x ∷ later) in
    let t = between r xs ys g in
    rw (← t.last)
    (service_under_profile t.under t.faithful i b (rw t.left el) before x later c is asks (no_loads r xs ys g)
    (subst (λ j. Along (Spared i) (decode j) (done_calls (plain_calls ys))) (sym t.left) spared))

-- Order: the done call x of a guest makes the event m and offers it, and m finds k waiting, fewer than 16. Then m is the (k+1)th event that the host reads in the event buffers of the drains from there on,
-- once it reads so many.
pub guest_order : (r : Hoisted) (xs : List Hoisted) (x : Hoisted) (later : List Hoisted) → Guest r (xs ++ (x ∷ later)) → (c : Call) → done_calls (plain_call x) ≡ c ∷ []
    → let d = decode (left_after (left_by r).image xs) in
    (earlier : List Made) (m : Made) (rest : List Made) → (step d c).made ≡ earlier ++ (m ∷ rest) → m.offered ≡ true → (k : ℕ) → length (found_by d earlier).waiting ≡ k → FindsRoom k
    → k < length (drained_under (x ∷ later)) → (e : Event) → get_or (drained_under (x ∷ later)) k e ≡ as_event m
guest_order r xs x later g c is earlier m rest made off k found small many e =
    let t = between r xs (x ∷ later) g in
    order_under_profile t.under t.faithful x later c (no_loads r xs (x ∷ later) g) is earlier m rest (rw t.left made) off k (rw t.left found) small many e

-- Else it is dropped and counted: where m finds 16 waiting, the image that x leaves has the ring that m found, and in its drop count m and those offered after it, up to the stop.
else_dropped_under_profile : (h : Underway) → Faithful h → (p : List ℕ) (x : Hoisted) (later : List Hoisted) → PhasedOn h.left p (x ∷ later) → (c : Call) → done_calls (plain_call x) ≡ c ∷ []
    → (earlier : List Made) (m : Made) (rest : List Made) → (step (in_image h) c).made ≡ earlier ++ (m ∷ rest) → m.offered ≡ true → FindsNone (length (found_by (in_image h) earlier).waiting)
    → (decode (left_by x).image).ring ≡ left_full (in_image h) earlier rest
unfolding PhasedOn done_calls
else_dropped_under_profile h f p x later o c is earlier m rest made off full = go (plain_is x)
  where
    go : PlainIs x → (decode (left_by x).image).ring ≡ left_full (in_image h) earlier rest
    go (none e) = absurd (let z : ◌≡◌ {A = ℕ} 0 1 = ap length (sym (ap done_calls e) ∙ is) in omega (arith, z))
    go (one q e d g) =
        let y = exported_as x q in
        ap (λ (w : Outcome). (decode w.image).ring) (done_is_full x d q e)
        ∙ else_dropped_of_calls h f y c (one_no_load h x q e (ap (λ (k : Pair). k.0) o.0) (not_reset x d o.1)) (sym (append-nil (done_call y)) ∙ sym (ap done_calls g) ∙ is) earlier m rest made off full

pub guest_else_dropped : (r : Hoisted) (xs : List Hoisted) (x : Hoisted) (later : List Hoisted) → Guest r (xs ++ (x ∷ later)) → (c : Call) → done_calls (plain_call x) ≡ c ∷ []
    → let d = decode (left_after (left_by r).image xs) in
    (earlier : List Made) (m : Made) (rest : List Made) → (step d c).made ≡ earlier ++ (m ∷ rest) → m.offered ≡ true → FindsNone (length (found_by d earlier).waiting)
    → (decode (left_by x).image).ring ≡ left_full d earlier rest
guest_else_dropped r xs x later g c is earlier m rest made off full =
    let t = between r xs (x ∷ later) g in
    rw (← t.left)
    (else_dropped_under_profile t.under t.faithful t.phase x later t.handed_on c is earlier m rest (rw t.left made) off (rw t.left full))
