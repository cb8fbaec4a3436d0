-- 01, Numbers handed back, as it stands with 02: each number is given exactly when. Of the six exported calls, by their table in specs/Refusals.antt.
use Rattle.basics.proofs.Prelude.{◌≡◌, refl, sym, ap, ◌∙◌, false, not, and-false, List, [], ◌∷◌, ◌⊎◌, inl, inr, ⊎_elim, ℕ, ◌+◌, ◌-◌, ◌/◌, ◌^◌, ◌<◌, min, arith, eqb, leb, ltb, length, eqb-true, eqb-false, ne_eqb, leb-true, leb-false, lt-leb, le-ltb, ltb-false, test}
use Rattle.rules.specs.{Numbering.drained_length, Access.Width, Access.byte, Access.word, Access.dword, Access.qword, Device.Call}
use Rattle.images.specs.{Image.Fault, Image.copy_differs, Image.image_test}
use Rattle.calls.specs.Window.{inside, offset}
use Rattle.calls.specs.Calls.{Refusal, outside, no_width, fault_number, Tested, pass, refuse, on_pass, input_call, width_test, address_test, access_call, Request, reset, read, write, level, poll, drain, calls, asked_by, answered, buffer_of, place_of, Ending, ending, outcome}
use Rattle.calls.specs.Untouched.{Left, left, left_of, IsDone}
use Rattle.calls.specs.Reasons.{OfImage, bad_length, bad_head, bad_body, OfRequest, bad_input, bad_width, bad_address, Reason, short_room, of_image, of_request, of_trace, of_profile, none_left, of_tally, test_of, refusal_of, told_for, refused_for, NoneOf, Refuses, Exactly, ByNumber}
use Rattle.calls.proofs.laws.{Tables.image_told, Tables.request_told, Tables.answer_of, Tables.each_number, Requests.never, Outcomes.answer_short, Outcomes.place_past, Outcomes.room, Outcomes.image_refused, Outcomes.call_refused, Outcomes.call_done, Outcomes.reset_refused, Outcomes.reset_done}
use Rattle.laws.specs.Wrong.{Broken, Found, IsImage}
use Rattle.laws.specs.Refusals.{NoRoom, Room, Unloaded, OfInput, NoWidth, Outside, OfAccess, Unasked, Given}
use Rattle.laws.proofs.demands.{FormNumbers.eight_is_form_1, Found.found_exactly, Found.accepted_exactly, Found.not_accepted_by, Found.by_image, Found.no_form, Found.has_form, Found.by_length}
use Rattle.rules.specs.Device as device
use Rattle.images.specs.Image as image

-- ---- what a request asks, against its rows

module _ (base size address width : ℕ) where
  pub width_cases : ((u : Width) × (width_test width ≡ pass u) × (NoWidth width → ⊥)) ⊎ ((width_test width ≡ refuse no_width) × NoWidth width)
  width_cases =
      test (eqb width 1) (λ e. inl (byte, rw e, λ n. n.0 (eqb-true width 1 e))) (λ e.
      test (eqb width 2) (λ f. inl (word, rw (e, f), λ n. n.1 (eqb-true width 2 f))) (λ f.
      test (eqb width 4) (λ g. inl (dword, rw (e, f, g), λ n. n.2 (eqb-true width 4 g))) (λ g.
      test (eqb width 8) (λ h. inl (qword, rw (e, f, g, h), λ n. n.3 (eqb-true width 8 h)))
      (λ h. inr (rw (e, f, g, h), (eqb-false width 1 e, eqb-false width 2 f, eqb-false width 4 g, eqb-false width 8 h))))))

  pub is_outside : Outside base size address width → inside base size address width ≡ false
  is_outside (inl h) = rw (lt-leb base address h)
  is_outside (inr h) = rw (lt-leb (address + width) (min (base + size) (2 ^ 64 - 1)) h, and-false (leb base address))

  pub outside_is : inside base size address width ≡ false → Outside base size address width
  outside_is e =
      test (leb base address) (λ t. inr (leb-false (address + width) (min (base + size) (2 ^ 64 - 1)) (rw t at e))) (λ t. inl (leb-false base address t))

-- the test of what is asked refuses just as the rows say
pub record Asks (q : Request) (i : List ℕ) (t : Tested Call) : Type 0 where
  pub asked : asked_by q ≡ calls t
  pub refuses : (w : OfRequest) → Unasked q w → t ≡ refuse (refusal_of w)
  pub told : (r : Refusal) → t ≡ refuse r → (w : OfRequest) × (r ≡ refusal_of w) × Unasked q w
  pub loads : (x : OfImage) → Unloaded q i x → Found i x
  pub unloaded : (x : OfImage) → Found i x → Unloaded q i x

one_refusal : {r s : Refusal} → ◌≡◌ {A = Tested Call} (refuse r) (refuse s) → s ≡ r
one_refusal e = cc

module _ (n : ℕ) (c : Call) where
  input_refuses : (w : OfRequest) → OfInput n w → input_call n c ≡ refuse (refusal_of w)
  input_refuses bad_input h = rw (le-ltb n 64 (omega (arith, h)))
  input_refuses bad_width h = absurd h
  input_refuses (bad_address x) h = absurd h

  input_told : (r : Refusal) → input_call n c ≡ refuse r → (w : OfRequest) × (r ≡ refusal_of w) × OfInput n w
  input_told r e = test (ltb n 64) (λ t. never r c (sym (rw t at e))) (λ t. (bad_input, one_refusal (rw t at e), ltb-false n 64 t))

module _ (base size address width : ℕ) (f : Width → ℕ → Call) where
  access_refuses : (w : OfRequest) → OfAccess base size address width w → access_call base size address width f ≡ refuse (refusal_of w)
  access_refuses bad_input h = absurd h
  access_refuses bad_width h = rw (ne_eqb width 1 h.0, ne_eqb width 2 h.1, ne_eqb width 4 h.2, ne_eqb width 8 h.3)
  access_refuses (bad_address x) h = ⊎_elim
      (λ u. ap (λ t. on_pass t (λ w. on_pass (address_test base size address width) (λ o. pass (f w o)))) u.1
      ∙ rw (is_outside base size address width h.1) (ap (λ y. refuse (outside y)) (sym h.2)))
      (λ u. absurd (h.0 u.1))
      (width_cases base size address width)

  access_told : (r : Refusal) → access_call base size address width f ≡ refuse r → (w : OfRequest) × (r ≡ refusal_of w) × OfAccess base size address width w
  access_told r e = ⊎_elim
      (λ u. let g = sym (ap (λ t. on_pass t (λ w. on_pass (address_test base size address width) (λ o. pass (f w o)))) u.1) ∙ e in
      test (inside base size address width) (λ t. never r (f u.0 (offset base address)) (sym (rw t at g)))
      (λ t. (bad_address address, one_refusal (rw t at g), (u.2, outside_is base size address width t, refl))))
      (λ u. let g = sym (ap (λ t. on_pass t (λ w. on_pass (address_test base size address width) (λ o. pass (f w o)))) u.0) ∙ e in (bad_width, one_refusal g, u.1))
      (width_cases base size address width)

-- of each request that is no reset, whatever image it is given
module _ (i : List ℕ) where
  asks_read : (base size address width : ℕ) → Asks (read base size address width) i (access_call base size address width device.read)
  asks_read base size address width = record {
    asked = refl;
    refuses = access_refuses base size address width device.read;
    told = access_told base size address width device.read;
    loads = λ x h. h;
    unloaded = λ x h. h;
  }

  asks_write : (base size address width v : ℕ) → Asks (write base size address width v) i (access_call base size address width (λ w o. device.write w o v))
  asks_write base size address width v = record {
    asked = refl;
    refuses = access_refuses base size address width (λ w o. device.write w o v);
    told = access_told base size address width (λ w o. device.write w o v);
    loads = λ x h. h;
    unloaded = λ x h. h;
  }

  asks_level : (n v : ℕ) → Asks (level n v) i (input_call n (device.level n (not (eqb v 0))))
  asks_level n v = record {
    asked = refl;
    refuses = input_refuses n (device.level n (not (eqb v 0)));
    told = input_told n (device.level n (not (eqb v 0)));
    loads = λ x h. h;
    unloaded = λ x h. h;
  }

  asks_poll : (n : ℕ) → Asks (poll n) i (input_call n (device.poll n))
  asks_poll n = record {
    asked = refl;
    refuses = input_refuses n (device.poll n);
    told = input_told n (device.poll n);
    loads = λ x h. h;
    unloaded = λ x h. h;
  }

  asks_drain : (events : List ℕ) (place : ℕ) → Asks (drain events place) i (pass (device.drain ((length events - place) / drained_length)))
  asks_drain events place = record {
    asked = refl;
    refuses = λ w h. absurd h;
    told = λ r e. never r (device.drain ((length events - place) / drained_length)) (sym e);
    loads = λ x h. h;
    unloaded = λ x h. h;
  }

-- ---- the table is kept

module _ (q : Request) (i a : List ℕ) where
  abbrev lent : List (List ℕ)
  lent = i ∷ buffer_of q ∷ []

  abbrev Keeps : Type 0
  Keeps = Refuses (Given q i a) lent a (left_of (outcome q i a))

  -- with room, what is left is by how the call ends
  ends : Room q a → (x : Ending) → ending q i ≡ x → left_of (outcome q i a) ≡ left x.number (x.image ∷ x.events ∷ []) (answered x.number x.value a)
  ends r x e = ap left_of (sym (room q i a r.0 r.1 x (sym e) refl))

  short : NoRoom q a → left_of (outcome q i a) ≡ refused_for short_room lent a
  short (inl h) = ap left_of (answer_short q i a h)
  short (inr h) = ap left_of (place_past q i a h)

  by_room : {A : Type 0} → (NoRoom q a → A) → (Room q a → A) → A
  by_room none some =
      test (leb 16 (length a))
      (λ t. test (leb (place_of q) (length (buffer_of q))) (λ u. some (leb-true 16 (length a) t, leb-true (place_of q) (length (buffer_of q)) u))
      (λ u. none (inr (leb-false (place_of q) (length (buffer_of q)) u))))
      (λ t. none (inl (leb-false 16 (length a) t)))

  -- a call of the device
  module _ (t : Tested Call) (by : Asks q i t) where
    call_refuses : (r : Reason) → Given q i a r → left_of (outcome q i a) ≡ refused_for r lent a
    call_refuses short_room g = short g
    call_refuses (of_image x) g = ends g.0 _ (image_refused q i t by.asked (test_of x) ((found_exactly i x).1 (by.loads x g.1)) (not_accepted_by x)) ∙ image_told lent a x
    call_refuses (of_request w) g = ends g.0 _ (call_refused q i t by.asked ((accepted_exactly i).1 g.1) (refusal_of w) (by.refuses w g.2)) ∙ request_told lent a w
    call_refuses (of_trace y) g = absurd g
    call_refuses (of_profile v) g = absurd g
    call_refuses none_left g = absurd g
    call_refuses (of_tally p) g = absurd g

    call_given : (IsDone (left_of (outcome q i a)).number → ⊥) → (r : Reason) × Given q i a r
    call_given n = by_room (λ s. (short_room, s)) (λ r.
        by_image i (λ e. go r e t refl) (λ x e. (of_image x, (r, by.unloaded x ((found_exactly i x).0 e)))))
      where
        go : Room q a → image_test i ≡ image.accepted → (u : Tested Call) → t ≡ u → (r : Reason) × Given q i a r
        go r e (pass c) f = absurd (n (ap (λ (y : Left). y.number) (ends r _ (sym (call_done q i t by.asked e c f _ _ _ _ _ refl refl refl refl refl)))))
        go r e (refuse s) f = let g = by.told s f in (of_request g.0, (r, (accepted_exactly i).0 e, g.2))

    calls_keep : Keeps
    calls_keep = record { refused = call_refuses; given = call_given }

-- a reset
module _ (i a : List ℕ) where
  reset_refuses : (r : Reason) → Given reset i a r → left_of (outcome reset i a) ≡ refused_for r (i ∷ [] ∷ []) a
  reset_refuses short_room g = short reset i a g
  reset_refuses (of_image bad_length) g = ends reset i a g.0 _ (reset_refused i (no_form i g.1))
  reset_refuses (of_image bad_head) g = absurd g.1
  reset_refuses (of_image (bad_body k p)) g = absurd g.1
  reset_refuses (of_request w) g = absurd g.2
  reset_refuses (of_trace y) g = absurd g
  reset_refuses (of_profile v) g = absurd g
  reset_refuses none_left g = absurd g
  reset_refuses (of_tally p) g = absurd g

  reset_given : (IsDone (left_of (outcome reset i a)).number → ⊥) → (r : Reason) × Given reset i a r
  reset_given n = by_room reset i a (λ s. (short_room, s)) (λ r.
      by_length i (λ f. (of_image bad_length, (r, f))) (λ f. absurd (n (ap (λ (y : Left). y.number) (ends reset i a r _ (reset_done i f.0 (has_form i f)))))))

-- Whatever is asked, of any image and any answer area: where a row of the table is met the call is refused for that, with its number and its value, and where it is refused a row is met.
pub refusals_of_calls : (q : Request) (i a : List ℕ) → Refuses (Given q i a) (i ∷ buffer_of q ∷ []) a (left_of (outcome q i a))
refusals_of_calls reset i a = record { refused = reset_refuses i a; given = reset_given i a }
refusals_of_calls (read base size address width) i a = calls_keep (read base size address width) i a _ (asks_read i base size address width)
refusals_of_calls (write base size address width v) i a = calls_keep (write base size address width v) i a _ (asks_write i base size address width v)
refusals_of_calls (level n v) i a = calls_keep (level n v) i a _ (asks_level i n v)
refusals_of_calls (poll n) i a = calls_keep (poll n) i a _ (asks_poll i n)
refusals_of_calls (drain events place) i a = calls_keep (drain events place) i a _ (asks_drain i events place)

-- ---- each number, exactly when

module _ (q : Request) (i a : List ℕ) where
  -- Whatever is asked: each number is handed back exactly where its row is met, and 0 exactly where none is.
  pub calls_by_number : ByNumber (Given q i a) (outcome q i a).number
  calls_by_number = each_number (Given q i a) (lent q i a) a _ (refusals_of_calls q i a)

  -- 7 exactly for want of room
  pub seven_exactly : Exactly ((outcome q i a).number ≡ 7) (NoRoom q a)
  seven_exactly = calls_by_number.seven

  -- 4 exactly where there is room, and the length is none of the three; of a reset too
  pub four_exactly : Exactly ((outcome q i a).number ≡ 4) (Room q a × Unloaded q i bad_length)
  four_exactly = calls_by_number.four

  -- 5 exactly where there is room, it is no reset, the length is one of the three, and the contents are not those of that length
  pub five_exactly : Exactly ((outcome q i a).number ≡ 5) (Room q a × Unloaded q i bad_head)
  five_exactly = calls_by_number.five

  -- 8, 9, 10, 11 exactly where there is room, it is no reset, length and contents are right, and that rule is the first that the bodies break
  pub body_exactly : (k : Fault) → Exactly ((outcome q i a).number ≡ fault_number k) ((place : ℕ) × (Room q a × Unloaded q i (bad_body k place)))
  body_exactly = calls_by_number.body

  -- 3 exactly where there is room, the image is accepted, and a level or a poll names an input of 64 or more
  pub three_exactly : Exactly ((outcome q i a).number ≡ 3) (Room q a × IsImage i × Unasked q bad_input)
  three_exactly = calls_by_number.three

  -- 2 exactly where there is room, the image is accepted, and a read or a write has a width that is not 1, 2, 4 or 8
  pub two_exactly : Exactly ((outcome q i a).number ≡ 2) (Room q a × IsImage i × Unasked q bad_width)
  two_exactly = calls_by_number.two

  -- 1 exactly where there is room, the image is accepted, the width is one of these, and not all bytes of the access are in the window
  pub one_exactly : Exactly ((outcome q i a).number ≡ 1) ((address : ℕ) × (Room q a × IsImage i × Unasked q (bad_address address)))
  one_exactly = calls_by_number.one

  -- 0 exactly where no row of the table is met
  pub zero_exactly : Exactly (IsDone (outcome q i a).number) (NoneOf (Given q i a))
  zero_exactly = calls_by_number.zero

  -- What stands in the answer area then: number and value of the row, but of 7. The value of 1 is the address, that of 8 to 11 the place, and there is no other.
  pub row_is_told : (r : Reason) → Given q i a r → (outcome q i a).answer ≡ told_for r a
  row_is_told r g = answer_of (Given q i a) (lent q i a) a _ (refusals_of_calls q i a) r g

-- ---- the values, by the number

-- the address of an access
abbrev pub address_of : Request → ℕ
address_of reset = 0
address_of (read base size address width) = address
address_of (write base size address width v) = address
address_of (level n v) = 0
address_of (poll n) = 0
address_of (drain events place) = 0

-- With 1 the answer area has the address, with 8 to 11 the place of what is wrong; with 2, 3, 4 and 5 there is no value; and with 7 it is as it was.
pub record ValuesTold (q : Request) (i a : List ℕ) : Type 0 where
  pub one : (outcome q i a).number ≡ 1 → (outcome q i a).answer ≡ answered 1 (device.some (address_of q)) a
  pub two : (outcome q i a).number ≡ 2 → (outcome q i a).answer ≡ answered 2 device.none a
  pub three : (outcome q i a).number ≡ 3 → (outcome q i a).answer ≡ answered 3 device.none a
  pub four : (outcome q i a).number ≡ 4 → (outcome q i a).answer ≡ answered 4 device.none a
  pub five : (outcome q i a).number ≡ 5 → (outcome q i a).answer ≡ answered 5 device.none a
  pub body : (k : Fault) → (outcome q i a).number ≡ fault_number k → (place : ℕ) × Broken i k place × ((outcome q i a).answer ≡ answered (fault_number k) (device.some place) a)
  pub seven : (outcome q i a).number ≡ 7 → (outcome q i a).answer ≡ a

told_address : (q : Request) (x : ℕ) → Unasked q (bad_address x) → x ≡ address_of q
told_address reset x u = absurd u
told_address (read base size address width) x u = u.2
told_address (write base size address width v) x u = u.2
told_address (level n v) x u = absurd u
told_address (poll n) x u = absurd u
told_address (drain events place) x u = absurd u

told_broken : (q : Request) (i : List ℕ) (k : Fault) (p : ℕ) → Unloaded q i (bad_body k p) → Broken i k p
told_broken reset i k p u = absurd u
told_broken (read base size address width) i k p u = u
told_broken (write base size address width v) i k p u = u
told_broken (level n v) i k p u = u
told_broken (poll n) i k p u = u
told_broken (drain events place) i k p u = u

pub values_told : (q : Request) (i a : List ℕ) → ValuesTold q i a
values_told q i a = record {
  one = λ e. let g = (one_exactly q i a).0 e in row_is_told q i a (of_request (bad_address g.0)) g.1 ∙ ap (λ x. answered 1 (device.some x) a) (told_address q g.0 g.1.2);
  two = λ e. row_is_told q i a (of_request bad_width) ((two_exactly q i a).0 e);
  three = λ e. row_is_told q i a (of_request bad_input) ((three_exactly q i a).0 e);
  four = λ e. row_is_told q i a (of_image bad_length) ((four_exactly q i a).0 e);
  five = λ e. row_is_told q i a (of_image bad_head) ((five_exactly q i a).0 e);
  body = λ k e. let g = (body_exactly q i a k).0 e in (g.0, told_broken q i k g.0 g.1.1, row_is_told q i a (of_image (bad_body k g.0)) g.1 ∙ sym (ap (λ (y : Left). y.answer) (image_told [] a (bad_body k g.0))));
  seven = λ e. row_is_told q i a short_room ((seven_exactly q i a).0 e);
}

-- 8 is handed back of an image of 259 bytes alone, with the place 46 (02, C-17).
pub eight_of_form_1_alone : (q : Request) (i a : List ℕ) → (outcome q i a).number ≡ 8 → (length i ≡ 259) × ((outcome q i a).answer ≡ answered 8 (device.some 46) a)
eight_of_form_1_alone q i a e =
    let t = (values_told q i a).body copy_differs e in
    let f = eight_is_form_1 i t.0 ((found_exactly i (bad_body copy_differs t.0)).1 t.1) in
    (f.0, t.2 ∙ ap (λ p. answered 8 (device.some p) a) f.1)

-- A reset takes any bytes of a form's length as its target, and can refuse only with 7 or 4 (01, The boundary).
pub reset_only_seven_or_four : (i a : List ℕ) → ((outcome reset i a).number ≡ 0) ⊎ (((outcome reset i a).number ≡ 7) ⊎ ((outcome reset i a).number ≡ 4))
reset_only_seven_or_four i a =
    test (eqb (outcome reset i a).number 0) (λ t. inl (eqb-true (outcome reset i a).number 0 t))
    (λ t. let g = (refusals_of_calls reset i a).given (eqb-false (outcome reset i a).number 0 t) in inr (go g.0 g.1))
  where
    go : (r : Reason) → Given reset i a r → ((outcome reset i a).number ≡ 7) ⊎ ((outcome reset i a).number ≡ 4)
    go short_room g = inl ((seven_exactly reset i a).1 g)
    go (of_image bad_length) g = inr ((four_exactly reset i a).1 g)
    go (of_image bad_head) g = absurd g.1
    go (of_image (bad_body k p)) g = absurd g.1
    go (of_request w) g = absurd g.2
    go (of_trace y) g = absurd g
    go (of_profile v) g = absurd g
    go none_left g = absurd g
    go (of_tally p) g = absurd g
