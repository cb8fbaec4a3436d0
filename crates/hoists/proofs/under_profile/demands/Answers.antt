-- 02, C-22: 'every accepted call answers as the full device does'. A read or a write that the profile does not refuse with 14 or 15 leaves what the full device's leaves, in its number and in every byte;
-- these two are given only where that would be done; and a refused call changes no byte but the answer area's.
use Rattle.basics.proofs.Prelude.{◌≡◌, refl, sym, ap, ◌∙◌, ◌⊎◌, inl, inr, ⊎_elim, Bool, true, false, cond, true≢false, and-false, List, ℕ, arith, leb, length, le-leb, leb-true, test, and-eq-true_iff, ◌≤◌, drop}
use Rattle.rules.specs.Access.{Width}
use Rattle.images.specs.Image.{image_test, accepted, decode}
use Rattle.calls.specs.Calls.{pass, access_call, Request, read, write, asked_by, answer_length, buffer_of, Outcome, leaves, ending, settled, outcome, answered}
use Rattle.calls.specs.Untouched.{IsDone}
use Rattle.hoists.specs.Profile.{running, PhaseLent, aligned_dword, forbidden, Verdict, passes, unaligned, unfit, verdict}
use Rattle.hoists.specs.HoistCalls.{judged, ends_by, hoist_ending, hoist_room, hoist_read, hoist_write}
use Rattle.hoists.proofs.laws.Judged.{is_unfit, read_fits, ending_below, ends_by_lem, then_verdict, refuses_done}
use Rattle.calls.proofs.demands.Refused.{refused_changes_nothing}
use Rattle.rules.specs.Device as device

-- what a refused call leaves, of an image i and an answer area a: the image, and of the answer area the bytes past its 16; with refusal 7 every byte
pub record Untouched (x : Outcome) (i a : List ℕ) : Type 0 where
  pub image : x.image ≡ i
  pub past : drop answer_length x.answer ≡ drop answer_length a
  pub seven : x.number ≡ 7 → x.answer ≡ a

-- ---- one law for both: b, there is room

module _ (r : Bool) (q : Request) (i a : List ℕ) (b : Bool) where
  abbrev under : Outcome
  under = cond b (settled a (hoist_ending r q i)) (leaves 7 i a (buffer_of q))

  abbrev full : Outcome
  full = cond b (settled a (ending q i)) (leaves 7 i a (buffer_of q))

  -- by whether there is room, and by the verdict
  by_verdict : {A : Type 0} → (b ≡ false → A) → ((v : Verdict) → b ≡ true → judged r (asked_by q) i ≡ v → under ≡ settled a (ends_by v q i) → A) → A
  by_verdict f g = test b (λ t. g (judged r (asked_by q) i) t refl (rw t)) f

  alike : (under.number ≡ 14 → ⊥) → (under.number ≡ 15 → ⊥) → under ≡ full
  alike m n = by_verdict (λ t. rw t) go
    where
      go : (v : Verdict) → b ≡ true → judged r (asked_by q) i ≡ v → under ≡ settled a (ends_by v q i) → under ≡ full
      go passes t e u = u ∙ rw t
      go unaligned t e u = absurd (m (ap (λ (o : Outcome). o.number) u))
      go unfit t e u = absurd (n (ap (λ (o : Outcome). o.number) u))

  would_be_done : (under.number ≡ 14) ⊎ (under.number ≡ 15) → IsDone full.number
  would_be_done h = by_verdict (λ t. absurd (seven t h)) go
    where
      seven : b ≡ false → (under.number ≡ 14) ⊎ (under.number ≡ 15) → ⊥
      seven t (inl e) = let z : ◌≡◌ {A = ℕ} 7 14 = rw t at e in omega arith
      seven t (inr e) = let z : ◌≡◌ {A = ℕ} 7 15 = rw t at e in omega arith

      neither : {n : ℕ} → under.number ≡ n → n ≡ (ending q i).number → (under.number ≡ 14) ⊎ (under.number ≡ 15) → ⊥
      neither f g (inl e) = let s = ending_below q i in omega arith
      neither f g (inr e) = let s = ending_below q i in omega arith

      go : (v : Verdict) → b ≡ true → judged r (asked_by q) i ≡ v → under ≡ settled a (ends_by v q i) → IsDone full.number
      go passes t e u = absurd (neither (ap (λ (o : Outcome). o.number) u) refl h)
      go unaligned t e u = rw t (refuses_done r q i unaligned e (λ z. let y = sym (ap (λ v. (ends_by v q i).number) z) in let s = ending_below q i in omega arith))
      go unfit t e u = rw t (refuses_done r q i unfit e (λ z. let y = sym (ap (λ v. (ends_by v q i).number) z) in let s = ending_below q i in omega arith))

  refused_untouched : (b ≡ true → full ≡ outcome q i a) → (under.number ≡ 0 → ⊥) → Untouched under i a
  unfolding answered
  refused_untouched is n = by_verdict (λ t. record { image = rw t; past = rw t; seven = λ z. rw t }) go
    where
      go : (v : Verdict) → b ≡ true → judged r (asked_by q) i ≡ v → under ≡ settled a (ends_by v q i) → Untouched under i a
      go passes t e u =
          let same : under ≡ outcome q i a = u ∙ sym (rw t) ∙ is t in
          let c = refused_changes_nothing q i a (λ z. n (ap (λ (o : Outcome). o.number) same ∙ z)) in
          record {
            image = ap (λ (o : Outcome). o.image) same ∙ c.image;
            past = ap (λ (o : Outcome). drop answer_length o.answer) same ∙ c.past;
            seven = λ z. ap (λ (o : Outcome). o.answer) same ∙ c.seven (sym (ap (λ (o : Outcome). o.number) same) ∙ z);
          }
      go unaligned t e u = record {
        image = ap (λ (o : Outcome). o.image) u;
        past = ap (λ (o : Outcome). drop answer_length o.answer) u;
        seven = λ z. absurd (let y : ◌≡◌ {A = ℕ} 14 7 = sym (ap (λ (o : Outcome). o.number) u) ∙ z in omega arith);
      }
      go unfit t e u = record {
        image = ap (λ (o : Outcome). o.image) u;
        past = ap (λ (o : Outcome). drop answer_length o.answer) u;
        seven = λ z. absurd (let y : ◌≡◌ {A = ℕ} 15 7 = sym (ap (λ (o : Outcome). o.number) u) ∙ z in omega arith);
      }

-- ---- a write

module _ (base size address width v : ℕ) (i p a : List ℕ) where
  abbrev asks_write : Request
  asks_write = write base size address width v

  abbrev wrote : Outcome
  wrote = hoist_write base size address width v i p a

  has_phase : PhaseLent p → leb 1 (length p) ≡ true
  has_phase h = le-leb 1 (length p) (omega (arith, h))

  -- without a phase the number is 7
  lent_unless_7 : (wrote.number ≡ 7 → ⊥) → PhaseLent p
  unfolding hoist_write
  lent_unless_7 n = test (leb 1 (length p)) (λ e. omega (arith, leb-true 1 (length p) e)) (λ e. absurd (n (rw (e, and-false (leb answer_length (length a))))))

  full_write : leb 1 (length p) ≡ true → full (running p) asks_write i a (hoist_room p a) ≡ outcome asks_write i a
  unfolding outcome
  full_write e = rw e

  -- With a phase lent, whatever its bytes: not refused with 14 or 15, it leaves what the full device's write leaves; so with every other refusal, and where it is done.
  pub write_answers_alike : 1 ≤ length p → (wrote.number ≡ 14 → ⊥) → (wrote.number ≡ 15 → ⊥) → wrote ≡ outcome asks_write i a
  unfolding hoist_write
  write_answers_alike h m n = alike (running p) asks_write i a (hoist_room p a) m n ∙ full_write (has_phase h)

  pub done_write_is_full : wrote.number ≡ 0 → wrote ≡ outcome asks_write i a
  done_write_is_full d = write_answers_alike (lent_unless_7 (λ e. omega (arith, d, e))) (λ e. omega (arith, d, e)) (λ e. omega (arith, d, e))

  -- 14 and 15 are given only where the full device's write would be done.
  pub forbidden_write_was_done : (wrote.number ≡ 14) ⊎ (wrote.number ≡ 15) → IsDone (outcome asks_write i a).number
  unfolding hoist_write
  forbidden_write_was_done n =
      let h = lent_unless_7 (λ e. ⊎_elim (λ f. omega (arith, e, f)) (λ f. omega (arith, e, f)) n) in
      sym (ap (λ (o : Outcome). o.number) (full_write (has_phase h))) ∙ would_be_done (running p) asks_write i a (hoist_room p a) n

  pub refused_write_was_done : 1 ≤ length p → (wrote.number ≡ 14) ⊎ (wrote.number ≡ 15) → (outcome asks_write i a).number ≡ 0
  refused_write_was_done h n = forbidden_write_was_done n

  -- Refused, it changes no byte but the answer area's, and with 7 not even that.
  pub refused_write_untouched : (wrote.number ≡ 0 → ⊥) → Untouched wrote i a
  unfolding hoist_write
  refused_write_untouched n =
      refused_untouched (running p) asks_write i a (hoist_room p a) (λ t. full_write ((and-eq-true_iff (leb answer_length (length a)) (leb 1 (length p))).0 t).1) n

  -- Where the full device would do it, the profile's verdict decides: 14 where it is no aligned Dword, whatever else it is, and then 15.
  module _ (w : Width) (o : ℕ) (good : image_test i ≡ accepted) (asks : access_call base size address width (λ w o. device.write w o v) ≡ pass (device.write w o v)) (room : answer_length ≤ length a) (lent : 1 ≤ length p) where
    pub write_judged : wrote ≡ settled a (ends_by (verdict (running p) (decode i) (device.write w o v)) asks_write i)
    unfolding hoist_write
    write_judged =
        rw (le-leb answer_length (length a) room, has_phase lent)
        (ap (settled a) (ends_by_lem (running p) asks_write i (then_verdict (running p) asks_write i _ refl good (device.write w o v) asks)))

    pub unaligned_is_14 : aligned_dword w o ≡ false → wrote.number ≡ 14
    unfolding verdict
    unaligned_is_14 e = ap (λ (x : Outcome). x.number) write_judged ∙ rw e

    pub forbidden_is_15 : aligned_dword w o ≡ true → forbidden (running p) (decode i) o v ≡ true → wrote.number ≡ 15
    unfolding verdict
    forbidden_is_15 e f = ap (λ (x : Outcome). x.number) write_judged ∙ rw (e, f)

    pub allowed_is_full : aligned_dword w o ≡ true → forbidden (running p) (decode i) o v ≡ false → wrote ≡ outcome asks_write i a
    unfolding verdict outcome
    allowed_is_full e f = write_judged ∙ rw (e, f, le-leb answer_length (length a) room)

-- ---- a read: the same, and 15 is not given

module _ (base size address width : ℕ) (i a : List ℕ) where
  abbrev asks_read : Request
  asks_read = read base size address width

  abbrev read_under : Outcome
  read_under = hoist_read base size address width i a

  full_read : full false asks_read i a (leb answer_length (length a)) ≡ outcome asks_read i a
  unfolding outcome
  full_read = test (leb answer_length (length a)) (λ t. rw t) (λ t. rw t)

  not_15 : read_under.number ≡ 15 → ⊥
  unfolding hoist_read
  not_15 e = by_verdict false asks_read i a (leb answer_length (length a)) (λ t. let z : ◌≡◌ {A = ℕ} 7 15 = sym (rw t) ∙ e in omega arith) go
    where
      go : (v : Verdict) → leb answer_length (length a) ≡ true → judged false (asked_by asks_read) i ≡ v → under false asks_read i a (leb answer_length (length a)) ≡ settled a (ends_by v asks_read i) → ⊥
      go passes t f u = let y = sym (ap (λ (x : Outcome). x.number) u) ∙ e in let s = ending_below asks_read i in omega arith
      go unaligned t f u = let z : ◌≡◌ {A = ℕ} 14 15 = sym (ap (λ (x : Outcome). x.number) u) ∙ e in omega arith
      go unfit t f u = true≢false (sym (ap is_unfit f) ∙ read_fits false base size address width i)

  pub read_answers_alike : (read_under.number ≡ 14 → ⊥) → read_under ≡ outcome asks_read i a
  unfolding hoist_read
  read_answers_alike m = alike false asks_read i a (leb answer_length (length a)) m not_15 ∙ full_read

  pub done_read_is_full : read_under.number ≡ 0 → read_under ≡ outcome asks_read i a
  done_read_is_full d = read_answers_alike (λ e. let z : ◌≡◌ {A = ℕ} 0 14 = sym d ∙ e in omega arith)

  pub refused_read_was_done : read_under.number ≡ 14 → (outcome asks_read i a).number ≡ 0
  unfolding hoist_read
  refused_read_was_done n = sym (ap (λ (o : Outcome). o.number) full_read) ∙ would_be_done false asks_read i a (leb answer_length (length a)) (inl n)

  pub refused_read_untouched : (read_under.number ≡ 0 → ⊥) → Untouched read_under i a
  unfolding hoist_read
  refused_read_untouched n = refused_untouched false asks_read i a (leb answer_length (length a)) (λ t. full_read) n

  -- 14 exactly where it is no aligned Dword
  module _ (w : Width) (o : ℕ) (good : image_test i ≡ accepted) (asks : access_call base size address width device.read ≡ pass (device.read w o)) (room : answer_length ≤ length a) where
    pub read_judged : read_under ≡ settled a (ends_by (verdict false (decode i) (device.read w o)) asks_read i)
    unfolding hoist_read
    read_judged = rw (le-leb answer_length (length a) room) (ap (settled a) (ends_by_lem false asks_read i (then_verdict false asks_read i _ refl good (device.read w o) asks)))

    pub unaligned_read_is_14 : aligned_dword w o ≡ false → read_under.number ≡ 14
    unfolding verdict
    unaligned_read_is_14 e = ap (λ (x : Outcome). x.number) read_judged ∙ rw e

    pub aligned_read_is_full : aligned_dword w o ≡ true → read_under ≡ outcome asks_read i a
    unfolding verdict outcome
    aligned_read_is_full e = read_judged ∙ rw (e, le-leb answer_length (length a) room)
