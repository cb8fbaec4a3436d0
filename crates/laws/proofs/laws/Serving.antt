-- A poll of an input that is latched and unmasked brings it into service, or finds it there; so does a raise of one that is unmasked.
use Rattle.basics.proofs.Prelude.{◌≡◌, refl, ◌∙◌, true, false, or-true, List, ℕ, ◌<◌, eq-eqb, on, put, test, on_put}
use Rattle.rules.specs.Lines.{Lines, with_irr, polled, raised}
use Rattle.laws.proofs.laws.Sets.{only_waiting}

module _ (n : ℕ) (b : n < 64) where
  on_put_self : (x : ℕ) → on (put x n) n ≡ true
  on_put_self x = on_put x n n b ∙ rw (eq-eqb n n refl) (or-true (on x n))

  pub poll_serves : (vs : List ℕ) (l : Lines) → on l.irr n ≡ true → on l.mask n ≡ false → on (polled vs l n).after.isr n ≡ true
  unfolding polled
  poll_serves vs l latched unmasked =
      rw (only_waiting n l b, latched, unmasked) (test (on l.isr n) (λ e. rw e e) (λ e. rw e (on_put_self l.isr)))

  -- a raise latches it
  pub raise_latches : (l : Lines) → on (put l.irr n) n ≡ true
  raise_latches l = on_put_self l.irr

  pub raise_serves : (vs : List ℕ) (l : Lines) → on l.mask n ≡ false → on (raised vs l n).after.isr n ≡ true
  unfolding raised
  raise_serves vs l unmasked = poll_serves vs (with_irr l (put l.irr n)) (raise_latches l) unmasked
