-- What a sound tally has, and what the tests of an added trace come to.
use Rattle.basics.proofs.Prelude.{◌≡◌, refl, sym, ap, ◌∙◌, Bool, true, false, cond, ◌||◌, true≢false, List, [], ℕ, zero, suc, ◌+◌, ◌*◌, ◌^◌, ◌<◌, arith, leb, leb-false, replicate, test}
use Rattle.rules.specs.Device.{none}
use Rattle.images.specs.Image.{ImageTest, accepted, wrong_length, wrong_contents, broken, image_test}
use Rattle.calls.specs.Calls.{image_number, image_value}
use Rattle.traces.specs.Trace.{contents_good, trace_test}
use Rattle.passes.specs.tallies.Tally.{number_at, counted_in, unsound, TallyTest, sound, wrong_at, first_unsound, tally_test}
use Rattle.passes.specs.tallies.Tallying.{AddTest, refused, unless_image, add_test, summing}

pub not_wrong : (a : ℕ) → wrong_at a ≡ sound → ⊥
not_wrong a e = true≢false (ap is_wrong e)
  where
    is_wrong : TallyTest → Bool
    is_wrong sound = false
    is_wrong (wrong_at a) = true

-- no number is wrong where none is found
pub all_sound : (t : List ℕ) (m k : ℕ) → first_unsound t m k ≡ sound → (j : ℕ) → j < m → unsound t (k + j) ≡ false
unfolding first_unsound
all_sound t zero k e j h = absurd (omega arith)
all_sound t (suc m) k e zero h =
    let z : k + 0 ≡ k = omega arith in
    ap (unsound t) z ∙ test (unsound t k) (λ u. absurd (not_wrong (8 * k) (ap (λ b. cond b (wrong_at (8 * k)) (first_unsound t m (suc k))) (sym u) ∙ e))) (λ u. u)
all_sound t (suc m) k e (suc j) h =
    let z : suc k + j ≡ k + suc j = omega arith in
    test (unsound t k) (λ u. absurd (not_wrong (8 * k) (ap (λ b. cond b (wrong_at (8 * k)) (first_unsound t m (suc k))) (sym u) ∙ e)))
    (λ u. ap (unsound t) (sym z) ∙ all_sound t m (suc k) (ap (λ b. cond b (wrong_at (8 * k)) (first_unsound t m (suc k))) (sym u) ∙ e) j (omega arith))

low : (a b : Bool) → (a || b) ≡ false → a ≡ false
low true b e = e
low false b e = refl

-- fewer than 2 ^ 63 records were counted
pub counted_few : (t : List ℕ) → tally_test t ≡ sound → counted_in t < 2 ^ 63
counted_few t e = leb-false (2 ^ 63) (counted_in t) (low (leb (2 ^ 63) (counted_in t)) _ (all_sound t 650 0 e 640 (omega arith)))

-- ---- the tests of an added trace

-- of an image and a trace of no bytes the image is told, whatever the tally is
image_first : (t : List ℕ) → add_test [] [] t ≡ refused 4 none
unfolding image_test trace_test contents_good
image_first t = refl

-- and with an accepted image the trace
trace_first : (i t : List ℕ) → image_test i ≡ accepted → add_test [] i t ≡ refused 12 none
unfolding trace_test contents_good
trace_first i t e = ap (λ x. unless_image x (refused 12 none)) e

-- of a sheet, a tally of no bytes is 7
tally_first : (summing [] (replicate 5200 0) (replicate 16 0)).number ≡ 7
unfolding summing
tally_first = refl

pub image_left : (x : ImageTest) (t : AddTest) → (x ≡ accepted → ⊥) → unless_image x t ≡ refused (image_number x) (image_value x)
image_left accepted t n = absurd (n refl)
image_left wrong_length t n = refl
image_left wrong_contents t n = refl
image_left (broken k a) t n = refl
