-- Request C-17, of the exported conversion on bytes: what a done one leaves is the image moved; moved to another form and back, by two such calls, an image is the
-- same bytes; and a refused one changes nothing but the answer area, with refusal 7 not even that (00, demand 1).
use Rattle.basics.proofs.Prelude.{◌≡◌, refl, sym, ap, ◌∙◌, true, false, List, [], ℕ, arith, leb, length, drop, le-leb, Bytes, test, ◌≤◌}
use Rattle.rules.specs.Device.{none}
use Rattle.images.specs.{Form.Form, Form.numbered, Form.form_length, Image.accepted, Image.image_test}
use Rattle.calls.specs.Calls.{Tested, pass, refuse, answer_length, answered, Outcome, leaves, settled, AnswerRoom}
use Rattle.calls.specs.Convert.{converted, convert_ended, conversion}
use Rattle.calls.{specs.Untouched.IsDone, proofs.laws.Refusals.refusal_not_done}
use Rattle.histories.specs.exported.{Alike.NoFifth, Forms.RoomForNumbers}
use Rattle.histories.proofs.exported.laws.Holding as holding
use Rattle.laws.proofs.demands.Convert.{there_and_back, can_be_converted}

-- ---- what the call leaves

module _ (i t a : List ℕ) where
  -- with room, by what `converted` says
  ends_as : leb answer_length (length a) ≡ true → {x : Tested (List ℕ)} → converted i t ≡ x → conversion i t a ≡ settled a (convert_ended t x)
  unfolding conversion
  ends_as r e = rw r (ap (λ y. settled a (convert_ended t y)) e)

  short : leb answer_length (length a) ≡ false → conversion i t a ≡ leaves 7 t a []
  unfolding conversion
  short r = rw r

  -- what a refused conversion leaves: the target as it was, and of the answer area the bytes past its 16; for want of room every byte
  pub record Unmoved : Type 0 where
    pub target : (conversion i t a).image ≡ t
    pub past : drop answer_length (conversion i t a).answer ≡ drop answer_length a
    pub seven : leb answer_length (length a) ≡ false → ((conversion i t a).number ≡ 7) × ((conversion i t a).answer ≡ a)

  pub refused_moves_nothing : ((conversion i t a).number ≡ 0 → ⊥) → Unmoved
  unfolding answered
  refused_moves_nothing n =
      test (leb answer_length (length a)) (λ r. go r (converted i t) refl)
      (λ r. let e = short r in
      record {
        target = ap (λ (o : Outcome). o.image) e;
        past = ap (λ (o : Outcome). drop answer_length o.answer) e;
        seven = λ q. (ap (λ (o : Outcome). o.number) e, ap (λ (o : Outcome). o.answer) e);
      })
    where
      apart : true ≡ false → ◌≡◌ {A = ℕ} 0 1
      apart h = cc

      go : leb answer_length (length a) ≡ true → (x : Tested (List ℕ)) → converted i t ≡ x → Unmoved
      go r (pass j) e = absurd (n (ap (λ (o : Outcome). o.number) (ends_as r e)))
      go r (refuse k) e =
          let left = ends_as r e in
          record {
            target = ap (λ (o : Outcome). o.image) left;
            past = ap (λ (o : Outcome). drop answer_length o.answer) left;
            seven = λ q. absurd (omega (arith, apart (sym r ∙ q)));
          }

  -- a done one leaves what the image is in the form of the target's length
  pub done_is_converted : (conversion i t a).number ≡ 0 → converted i t ≡ pass (conversion i t a).image
  done_is_converted z =
      test (leb answer_length (length a)) (λ r. go r (converted i t) refl)
      (λ r. absurd (omega (arith, sym (ap (λ (o : Outcome). o.number) (short r)) ∙ z)))
    where
      go : leb answer_length (length a) ≡ true → (x : Tested (List ℕ)) → converted i t ≡ x → converted i t ≡ pass (conversion i t a).image
      go r (pass j) e = e ∙ ap (λ (o : Outcome). pass o.image) (sym (ends_as r e))
      go r (refuse k) e = absurd (refusal_not_done k (sym (ap (λ (o : Outcome). o.number) (ends_as r e)) ∙ z))

-- ---- there and back, by two calls

-- an image without numbers has none to lose, whatever it is moved to
pub none_to_lose : (i t : List ℕ) → NoFifth i → RoomForNumbers i t
none_to_lose i t n e = absurd (n (omega (arith, e)))

-- and one with numbers finds room for them where the target holds numbers too
pub room_for_numbers : (i t : List ℕ) → RoomForNumbers i t → length i ≡ form_length numbered → length t ≡ form_length numbered
room_for_numbers i t r e = omega (arith, r (omega (arith, e)))

module _ (i t a : List ℕ) (b : Bytes i) where
  -- Moved by a done call, and from what that left by another into any bytes of the length that the image had: the call is done, and leaves the image as it was. Where the
  -- image has numbers of events the target has to have room for them, or they are lost (02, C-19).
  pub moved_and_back : (conversion i t a).number ≡ 0 → (u c : List ℕ) → length u ≡ length i → (length i ≡ form_length numbered → length t ≡ form_length numbered)
      → answer_length ≤ length c → conversion (conversion i t a).image u c ≡ leaves 0 i (answered 0 none c) []
  moved_and_back z u c s keeps r =
      ends_as (conversion i t a).image u c (le-leb answer_length (length c) r) (there_and_back i t (conversion i t a).image b (done_is_converted i t a z) u s (λ e. omega (arith, keeps e)))

  -- From form 1 or form 2, so, by way of any form: nothing is asked of the target (02, C-17).
  pub without_numbers_and_back : IsDone (conversion i t a).number → NoFifth i → (u c : List ℕ) → length u ≡ length i
      → AnswerRoom c → conversion (conversion i t a).image u c ≡ leaves 0 i (answered 0 none c) []
  without_numbers_and_back z n u c s r = moved_and_back z u c s (room_for_numbers i t (none_to_lose i t n)) r

  -- And an accepted image can be moved to the length of any form: the call is done.
  pub moves : image_test i ≡ accepted → (g : Form) → length t ≡ form_length g → answer_length ≤ length a → (conversion i t a).number ≡ 0
  moves e g s r = ap (λ (o : Outcome). o.number) (ends_as i t a (le-leb answer_length (length a) r) (can_be_converted i t e g s))
