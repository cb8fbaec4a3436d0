-- A call of the device as a record's, refused or done.
use Rattle.basics.proofs.Prelude.{◌≡◌, refl, sym, ap, subst, ◌∙◌, Bool, true, false, cond, false≢true, List, [], ◌∷◌, inl, inr, ℕ, ◌<◌, ◌≤◌, arith, eqb, length, drop, length-drop, lt-ltb, le-ltb, ne_eqb, eqb-true}
use Rattle.rules.specs.{Lines.Lines, Ring.drawn, Core.Core, Core.Act, Core.Move, Core.move, Access.Width, Access.byte, Access.word, Access.dword, Access.qword, Access.write_acts}
use Rattle.rules.specs.Device.{Device, Call, level, poll, read, write, drain, acts_of, draws}
use Rattle.rules.proofs.laws.{Acts.step_acted, Steps.read_device, Steps.drain_device}
use Rattle.calls.specs.Calls.{Tested, pass, refuse, on_pass, width_test, address_test, input_call, calls, asked_by, no_width, outside}
use Rattle.calls.proofs.laws.Outcomes.{width_refused, address_refused, access_passed}
use Rattle.plain.specs.Sequence.{Item, call, refused}
use Rattle.traces.specs.{Trace.Record, Played.request_of}
use Rattle.device.specs.{map.Views.width_view, window.Tests.known_view}
use Rattle.std.specs.Prelude.{Option, Some, None, is_some}
use Rattle.sheets.specs.Day.{as_item, item_of}
use Rattle.passes.{specs.tallies.Marks.marks_of, specs.tallies.Following.Stands, specs.tallies.Following.Follows, specs.tallies.Following.FollowsItem, proofs.tallies.laws.Taking.takes_none}
use Rattle.passes.proofs.tallies.laws.Quiet.{follows_same}
use Rattle.ledger.specs.watch_write.Pieces.{Sized, width_of}
use Rattle.calls.specs.Calls as asked
use Rattle.device.specs.declared.map.Width as code

module _ {l : Lines} {w : ℕ} {m : Lines} {u : ℕ} {b a : List ℕ} (k : ℕ) where
  pub item_as : {wide : Bool} (x y : Item) → x ≡ y → FollowsItem wide l w m u b a k x → FollowsItem wide l w m u b a k y
  item_as {wide} x y e s = subst (FollowsItem wide l w m u b a k) e s

  -- a call that draws nothing is its acts
  pub follows_call : {wide : Bool} (c : Call) (xs : Core → List Act) → draws c ≡ [] → ((z : Core) → xs z ≡ acts_of z c) → Follows wide l w m u b a k xs → FollowsItem wide l w m u b a k (call c)
  follows_call c xs none e s d _ h =
      let t = follows_same k xs (λ z. acts_of z c) (λ z _. e z) s d h in
      (subst (Stands m u) (sym (step_acted d c none)) t.0, t.1)

  -- a call on an input below 64
  pub input_done : {wide : Bool} (n : ℕ) (c : Call) (x : Move) → n < 64 → draws c ≡ [] → ((z : Core) → acts_of z c ≡ move x ∷ []) → Follows wide l w m u b a k (λ _. move x ∷ []) → FollowsItem wide l w m u b a k (as_item (calls (input_call n c)))
  input_done n c x lt none e s = rw (lt-ltb n 64 lt) (follows_call c (λ _. move x ∷ []) none (λ z. sym (e z)) s)

module _ (l : Lines) (w : ℕ) (b : List ℕ) (k : ℕ) where
  pub follows_refused : {wide : Bool} → FollowsItem wide l w l w b b k refused
  follows_refused d _ h = (h, takes_none b)

  pub input_refused : {wide : Bool} (n : ℕ) (c : Call) → 64 ≤ n → FollowsItem wide l w l w b b k (as_item (calls (input_call n c)))
  input_refused n c ge = rw (le-ltb n 64 ge) follows_refused

  follows_read : {wide : Bool} (v : Width) (o : ℕ) → FollowsItem wide l w l w b b k (call (read v o))
  unfolding acts_of marks_of
  follows_read v o d _ h = (subst (Stands l w) (sym (read_device d v o)) h, takes_none b)

  pub read_follows : {wide : Bool} (base size address width : ℕ) → FollowsItem wide l w l w b b k (as_item (asked_by (asked.read base size address width)))
  read_follows base size address width = go (width_test width) (address_test base size address width)
    where
      go : {wide : Bool} (t : Tested Width) (p : Tested ℕ) → FollowsItem wide l w l w b b k (as_item (calls (on_pass t (λ v. on_pass p (λ o. pass (read v o))))))
      go (pass v) (pass o) = follows_read v o
      go (pass v) (refuse r) = follows_refused
      go (refuse r) p = follows_refused

  -- as many as can wait are drained
  pub follows_drain : {wide : Bool} → FollowsItem wide l w l 0 b b k (call (drain 16))
  unfolding acts_of marks_of drawn
  follows_drain d z h =
      let e = drain_device d 16 in
      let none : length (drop 16 d.ring.waiting) ≡ 0 = length-drop 16 d.ring.waiting ∙ omega (arith, z.waiting) in
      (record { lines = ap (λ (x : Device). x.core.lines) e ∙ h.lines; waiting = ap (λ (x : Device). length x.ring.waiting) e ∙ none }, takes_none b)

-- ---- a write through the window

abbrev written : (base size address width v : ℕ) → Item
written base size address width v = as_item (asked_by (asked.write base size address width v))

module _ (base size address width v : ℕ) where
  pub no_width_lem : {wide : Bool} (l : Lines) (w : ℕ) (b : List ℕ) (k : ℕ) → refuse no_width ≡ width_test width → FollowsItem wide l w l w b b k (written base size address width v)
  no_width_lem l w b k e =
      item_as k refused (written base size address width v) (ap (λ c. as_item (calls c)) (sym (width_refused base size address width (λ w o. write w o v) no_width (sym e)))) (follows_refused l w b k)

  module _ {y : Width} (e : pass y ≡ width_test width) where
    pub no_place : {wide : Bool} (l : Lines) (w : ℕ) (b : List ℕ) (k : ℕ) → refuse (outside address) ≡ address_test base size address width → FollowsItem wide l w l w b b k (written base size address width v)
    no_place l w b k g =
        item_as k refused (written base size address width v) (ap (λ c. as_item (calls c)) (sym (address_refused base size address width (λ w o. write w o v) y (outside address) (sym e) (sym g)))) (follows_refused l w b k)

    pub write_done : {wide : Bool} {o : ℕ} → pass o ≡ address_test base size address width → {l : Lines} {w : ℕ} {m : Lines} {u : ℕ} {b a : List ℕ} (k : ℕ) → Follows wide l w m u b a k (λ c. write_acts c y o v) → FollowsItem wide l w m u b a k (written base size address width v)
    unfolding acts_of
    write_done {o} g k s =
        item_as k (call (write y o v)) (written base size address width v) (ap (λ c. as_item (calls c)) (sym (access_passed base size address width (λ w o. write w o v) y o (sym e) (sym g))))
        (follows_call k (write y o v) (λ c. write_acts c y o v) refl (λ c. refl) s)

pub width_none : (n : ℕ) (x : Option code.Width) → is_some x ≡ false → known_view x ≡ width_test n → refuse no_width ≡ width_test n
width_none n None h e = e
width_none n (Some y) h e = absurd (false≢true (sym h))

pub width_some : (n : ℕ) (x : Option code.Width) → is_some x ≡ true → known_view x ≡ width_test n → (y : Width) × (pass y ≡ width_test n)
width_some n None h e = absurd (false≢true h)
width_some n (Some y) h e = (width_view y, e)

-- a width that is known is one of four, and is that width
pub known_width : (n : ℕ) (w : Width) → width_test n ≡ pass w → Sized n × (width_of n ≡ w)
known_width n w e = go (eqb n 1) (eqb n 2) (eqb n 4) (eqb n 8) refl refl refl refl e
  where
    go : (p q r s : Bool) → eqb n 1 ≡ p → eqb n 2 ≡ q → eqb n 4 ≡ r → eqb n 8 ≡ s
        → cond p (pass byte) (cond q (pass word) (cond r (pass dword) (cond s (pass qword) (refuse no_width)))) ≡ pass w → Sized n × (cond p byte (cond q word (cond r dword qword)) ≡ w)
    go true q r s t u v x f = let g : byte ≡ w = cc in (inl (eqb-true n 1 t), g)
    go false true r s t u v x f = let g : word ≡ w = cc in (inr (inl (eqb-true n 2 u)), g)
    go false false true s t u v x f = let g : dword ≡ w = cc in (inr (inr (inl (eqb-true n 4 v))), g)
    go false false false true t u v x f = let g : qword ≡ w = cc in (inr (inr (inr (eqb-true n 8 x))), g)
    go false false false false t u v x f = absurd (let z : ◌≡◌ {A = ℕ} 0 1 = cc in omega arith)

pub at_width : {wide : Bool} {i j : Width} → i ≡ j → (o v : ℕ) {l : Lines} {w : ℕ} {m : Lines} {u : ℕ} {b a : List ℕ} (k : ℕ) → Follows wide l w m u b a k (λ c. write_acts c i o v) → Follows wide l w m u b a k (λ c. write_acts c j o v)
at_width {i} {j} e o v k s = follows_same k (λ c. write_acts c i o v) (λ c. write_acts c j o v) (λ c _. ap (λ z. write_acts c z o v) e) s

-- ---- a record by its kind

module _ (r : Record) where
  pub kind_raise : r.kind ≡ 1 → as_item (calls (input_call r.byte (level r.byte true))) ≡ item_of r
  unfolding request_of
  kind_raise e = rw e

  pub kind_lower : r.kind ≡ 2 → as_item (calls (input_call r.byte (level r.byte false))) ≡ item_of r
  unfolding request_of
  kind_lower e = rw e

  pub kind_poll : r.kind ≡ 3 → as_item (calls (input_call r.byte (poll r.byte))) ≡ item_of r
  unfolding request_of
  kind_poll e = rw e

  pub kind_read : r.kind ≡ 4 → as_item (asked_by (asked.read 0 65536 r.offset r.byte)) ≡ item_of r
  unfolding request_of
  kind_read e = rw e

  pub kind_write : r.kind ≡ 5 → as_item (asked_by (asked.write 0 65536 r.offset r.byte r.value)) ≡ item_of r
  unfolding request_of
  kind_write e = rw e

  pub kind_drain : (r.kind ≡ 1 → ⊥) → (r.kind ≡ 2 → ⊥) → (r.kind ≡ 3 → ⊥) → (r.kind ≡ 4 → ⊥) → (r.kind ≡ 5 → ⊥) → call (drain 16) ≡ item_of r
  unfolding request_of
  kind_drain f g h i j = rw (ne_eqb r.kind 1 f, ne_eqb r.kind 2 g, ne_eqb r.kind 3 h, ne_eqb r.kind 4 i, ne_eqb r.kind 5 j)
