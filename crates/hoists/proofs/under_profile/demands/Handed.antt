-- Calls under the profile, each given the image that the one before it left and none a reset: none is a load, and the image left at last is that of the history.
use Rattle.basics.proofs.Prelude.{◌≡◌, refl, sym, ap, ◌∙◌, Bool, true, false, ◌&&◌, true≢false, and-false, List, [], ◌∷◌, ◌++◌, map, ℕ, arith, eqb, leb, length, eq-eqb, leb-true, test, equal_same}
use Rattle.rules.specs.Device.{reset}
use Rattle.images.specs.{Form.Form, Image.ImageTest, Image.image_test, Image.decode}
use Rattle.calls.{specs.Calls.Request, specs.Calls.asked_by, specs.Calls.Outcome, proofs.demands.Refused.refused_changes_nothing, proofs.laws.Tables.first_kept}
use Rattle.histories.specs.exported.Exported.{Underway, carried_on, carried_through, NoLoads, after_reset}
use Rattle.histories.proofs.exported.{laws.Chains.left_last, demands.FromCalls.a_reset_begins}
use Rattle.hoists.specs.{Profile.running, HoistCalls.hoist_room, HoistCalls.cannot_end, HoistCalls.end_told, HoistCalls.hoist_reset, HoistCalls.end_startup}
use Rattle.histories.specs.Chains.{ChainOn}
use Rattle.hoists.specs.Phased.{starts_over}
use Rattle.hoists.specs.Hoisted.{Asks, resets, reads, writes, ends, levels, polls, drains, Hoisted, left_under, left_by, is_done, request_of, exported_as, plain_call, plain_calls, is_reset, HandedOn, Lent, asked_of, lent_by, made_on, NoResets, left_after}
use Rattle.hoists.proofs.under_profile.demands.ByNumber.{refused_write_untouched, refused_read_untouched}
use Rattle.hoists.proofs.under_profile.demands.Under.{reset_is_full, done_is_full, PlainIs, none, one, plain_is, plain_done}
use Rattle.images.specs.Form as form
use Rattle.images.specs.Image as image
use Rattle.calls.specs.Calls as request
use Rattle.histories.specs.exported.Exported as full

-- ---- a call that is none of the full device's leaves the image

-- the end of start-up leaves it, done or refused
pub end_keeps_image : (i p a : List ℕ) → (end_startup i p a).image ≡ i
unfolding end_startup
end_keeps_image i p a = test (hoist_room p a) (λ t. rw t (go (image_test i))) (λ t. rw t)
  where
    go : (k : ImageTest) → (end_told k (cannot_end (running p) (decode i)) i).image ≡ i
    go image.accepted = refl
    go image.wrong_length = refl
    go image.wrong_contents = refl
    go (image.broken k b) = refl

not_zero : (n : ℕ) → eqb n 0 ≡ false → n ≡ 0 → ⊥
not_zero n e z = true≢false (sym (eq-eqb n 0 z) ∙ e)

module _ (i p a : List ℕ) where
  refused_reset : eqb (hoist_reset i p a).number 0 ≡ false → (hoist_reset i p a).image ≡ i
  unfolding hoist_reset
  refused_reset n =
      test (leb 1 (length p))
      (λ t.
      let same = reset_is_full i p a (leb-true 1 (length p) t) in
      ap (λ (o : Outcome). o.image) same ∙ (refused_changes_nothing request.reset i a (λ z. not_zero (hoist_reset i p a).number n (ap (λ (o : Outcome). o.number) same ∙ z))).image)
      (λ t. rw (t, and-false (leb 16 (length a))))

  refused_keeps : (k : Asks) → eqb (left_under i p a k).number 0 ≡ false → (left_under i p a k).image ≡ i
  refused_keeps resets n = refused_reset n
  refused_keeps (reads base size address width) n = first_kept (refused_read_untouched base size address width i a (not_zero _ n))
  refused_keeps (writes base size address width v) n = first_kept (refused_write_untouched base size address width v i p a (not_zero _ n))
  refused_keeps ends n = end_keeps_image i p a
  refused_keeps (levels m v) n = (refused_changes_nothing (request.level m v) i a (not_zero _ n)).image
  refused_keeps (polls m) n = (refused_changes_nothing (request.poll m) i a (not_zero _ n)).image
  refused_keeps (drains events place) n = (refused_changes_nothing (request.drain events place) i a (not_zero _ n)).image

  none_keeps : (k : Asks) → request_of k ≡ [] → (left_under i p a k).image ≡ i
  none_keeps resets e = absurd (let z = ap length e in omega arith)
  none_keeps (reads base size address width) e = absurd (let z = ap length e in omega arith)
  none_keeps (writes base size address width v) e = absurd (let z = ap length e in omega arith)
  none_keeps ends e = end_keeps_image i p a
  none_keeps (levels m v) e = absurd (let z = ap length e in omega arith)
  none_keeps (polls m) e = absurd (let z = ap length e in omega arith)
  none_keeps (drains events place) e = absurd (let z = ap length e in omega arith)

pub no_call_keeps : (x : Hoisted) → plain_call x ≡ [] → (left_by x).image ≡ x.given
no_call_keeps x e = test (is_done x) (λ t. none_keeps x.given x.phase x.answer x.asks (nothing (request_of x.asks) (rw t at e))) (λ t. refused_keeps x.given x.phase x.answer x.asks t)
  where
    nothing : (qs : List Request) → map (exported_as x) qs ≡ [] → qs ≡ []
    nothing [] e = refl
    nothing (q ∷ qs) e = absurd (let z = ap length e in omega arith)

-- ---- handed on

-- what is no reset asks for none
asks_reset : List Request → Bool
asks_reset [] = false
asks_reset (q ∷ qs) = full.is_reset (asked_by q)

no_reset : (k : Asks) → is_reset k ≡ false → asks_reset (request_of k) ≡ false
unfolding asks_reset
no_reset resets n = n
no_reset (reads base size address width) n = refl
no_reset (writes base size address width v) n = refl
no_reset ends n = refl
no_reset (levels m v) n = refl
no_reset (polls m) n = refl
no_reset (drains events place) n = refl

module _ (h : Underway) (x : Hoisted) (q : Request) (e : request_of x.asks ≡ q ∷ []) (g : x.given ≡ h.left) where
  pub one_no_load : is_reset x.asks ≡ false → full.is_load h.left (exported_as x q) ≡ false
  unfolding asks_reset
  one_no_load n =
      let r : full.is_reset (asked_by q) ≡ false = sym (ap asks_reset e) ∙ no_reset x.asks n in
      rw (r, equal_same h.left x.given (sym g)) (and-false (full.is_done (exported_as x q)))

  pub one_left : is_done x ≡ true → (carried_on h (exported_as x q)).left ≡ (left_by x).image
  one_left d = left_last h (exported_as x q) g ∙ ap (λ (o : Outcome). o.image) (sym (done_is_full x d q e))

-- Calls are handed on exactly if they are what is made one after another on an image, with whatever phases, and no reset is among it. Refused ones may stand anywhere.
pub made_handed_on : (i : List ℕ) (qs : List Lent) → NoResets qs → HandedOn i (made_on i qs)
unfolding made_on HandedOn NoResets
made_handed_on i [] n = tt
made_handed_on i (q ∷ qs) n = (refl, n.0, made_handed_on (left_by (asked_of i q)).image qs n.1)

pub handed_on_made : (i : List ℕ) (xs : List Hoisted) → HandedOn i xs → xs ≡ made_on i (map lent_by xs)
unfolding made_on HandedOn
handed_on_made i [] h = refl
handed_on_made i (x ∷ xs) h =
    let same : x ≡ asked_of i (lent_by x) = (λ t. record { given = h.0 t; phase = x.phase; asks = x.asks; answer = x.answer }) in
    (λ t. same t ∷ handed_on_made (left_by x).image xs h.2 t) ∙ ap (λ (y : Hoisted). asked_of i (lent_by x) ∷ made_on (left_by y).image (map lent_by xs)) same

-- ---- handed on with no done reset among them, whatever the phases: none is a load

abbrev pub ImagesOn : List ℕ → List Hoisted → Type 0
ImagesOn = ChainOn (λ (x : Hoisted). x.given) (λ x. (left_by x).image) (λ x. starts_over x ≡ false)

-- a done call that does not start over is no reset
pub not_reset : (x : Hoisted) → is_done x ≡ true → starts_over x ≡ false → is_reset x.asks ≡ false
not_reset x d n = (λ s. sym d s && is_reset x.asks) ∙ n

pub images_no_load : (h : Underway) (xs : List Hoisted) → ImagesOn h.left xs → NoLoads h (plain_calls xs)
unfolding NoLoads plain_calls
images_no_load h [] c = tt
images_no_load h (x ∷ xs) c = go (plain_is x) (λ k. images_no_load k xs)
  where
    go : PlainIs x → ((k : Underway) → ImagesOn k.left xs → NoLoads k (plain_calls xs)) → NoLoads h (plain_call x ++ plain_calls xs)
    go (none e) later = rw e (later h (rw (no_call_keeps x e ∙ c.0) at c.2))
    go (one q e d f) later = rw f (one_no_load h x q e c.0 (not_reset x d c.1), later (carried_on h (exported_as x q)) (rw (one_left h x q e c.0 d) c.2))

pub images_left : (h : Underway) (xs : List Hoisted) → ImagesOn h.left xs → (carried_through h (plain_calls xs)).left ≡ left_after h.left xs
unfolding carried_through plain_calls left_after
images_left h [] c = refl
images_left h (x ∷ xs) c = go (plain_is x) (λ k. images_left k xs)
  where
    go : PlainIs x → ((k : Underway) → ImagesOn k.left xs → (carried_through k (plain_calls xs)).left ≡ left_after k.left xs)
        → (carried_through h (plain_call x ++ plain_calls xs)).left ≡ left_after (left_by x).image xs
    go (none e) later =
        let kept = no_call_keeps x e ∙ c.0 in
        rw (e, kept) (later h (rw kept at c.2))
    go (one q e d f) later =
        let k = carried_on h (exported_as x q) in
        let is = one_left h x q e c.0 d in
        rw f (later k (rw is c.2) ∙ ap (λ i. left_after i xs) is)

-- with no reset among them there is no done one
handed_images : (i : List ℕ) (xs : List Hoisted) → HandedOn i xs → ImagesOn i xs
unfolding HandedOn
handed_images i [] c = tt
handed_images i (x ∷ xs) c = (c.0, (λ s. is_done x && c.1 s) ∙ and-false (is_done x), handed_images (left_by x).image xs c.2)

pub handed_on_is_no_load : (h : Underway) (xs : List Hoisted) → HandedOn h.left xs → NoLoads h (plain_calls xs)
handed_on_is_no_load h xs c = images_no_load h xs (handed_images h.left xs c)

pub left_through : (h : Underway) (xs : List Hoisted) → HandedOn h.left xs → (carried_through h (plain_calls xs)).left ≡ left_after h.left xs
left_through h xs c = images_left h xs (handed_images h.left xs c)

-- ---- from a reset

-- A done reset under the profile leaves the image of the reset device, with numbers from 0, in the form of the length of what it is given.
pub a_reset_begins_under : (x : Hoisted) → x.asks ≡ resets → is_done x ≡ true → (f : Form) × ((left_by x).image ≡ (after_reset f).left)
a_reset_begins_under x e d =
    let asks = ap request_of e in
    let y = exported_as x request.reset in
    let b = a_reset_begins (after_reset form.one) y refl (plain_done x request.reset asks d) in
    (b.0, ap (λ (o : Outcome). o.image) (done_is_full x d request.reset asks) ∙ b.2)
