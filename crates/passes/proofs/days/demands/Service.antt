-- 02, C-21, of each input: its asserts less its deasserts are 1 or 0, and are whether it is in service at the end, where no record's write reaches ISR.
use Rattle.basics.proofs.Prelude.{◌≡◌, refl, sym, ap, ◌∙◌, Bool, true≢false, cond, List, [], ◌∷◌, ℕ, ◌+◌, ◌<◌, arith, on, on_none}
use Rattle.rules.{specs.Lines.Made, specs.Ring.Ring, specs.Account.tally, specs.Access.dword, specs.Device.write, specs.Device.reset, specs.Device.acts_of, specs.Device.acted, specs.Device.step, proofs.laws.Counts.tally_append}
use Rattle.histories.proofs.laws.Reach.{no_isr_act}
use Rattle.laws.proofs.laws.Images.{reset_well_formed}
use Rattle.plain.specs.Events.{Note}
use Rattle.plain.specs.Sequence.{Item, call, load, refused, load_of, shown, note_of, fate_in, ring_with, notes_of, Ported, ported_follows, ported_after}
use Rattle.plain.proofs.demands.History.{shows_device, same_history}
use Rattle.traces.specs.Played.{records}
use Rattle.sheets.specs.{Day.items, Day.begun, Day.day_of, Waits.assert_of, Waits.deassert_of, Sheet.row_of}
use Rattle.passes.specs.{days.Accounts.NoIsrWrite, days.Accounts.at_last, Slots.NoLoad}
use Rattle.passes.proofs.{days.laws.Balance.up, days.laws.Balance.down, days.laws.Balance.balanced_acts, laws.Passing.no_load_well, laws.Days.items_loadless}

-- the premise shuts out a write to ISR, and lets one to MASK be
not_to_isr : NoIsrWrite (call (write dword 0x020 0) ∷ call (write dword 0x3a0 0) ∷ []) → ⊥
not_to_isr w = true≢false w.1.0

to_mask : NoIsrWrite (call (write dword 0x020 0) ∷ [])
to_mask = (refl, tt)

-- an event as it is noted has its input and its kind
noted_tally : (q : Made → Bool) (p : Note → Bool) → ((k : ℕ) (r : Ring) (m : Made) → p (note_of k (fate_in r m) m) ≡ q m) → (k : ℕ) (r : Ring) (ms : List Made) → tally p (notes_of k r ms) ≡ tally q ms
unfolding tally notes_of
noted_tally q p e k r [] = refl
noted_tally q p e k r (m ∷ ms) = (λ i. cond (e k r m i) 1 0 + noted_tally q p e k (ring_with r m) ms i)

module _ (n : ℕ) (below : n < 64) where
  abbrev one : Bool → ℕ
  one b = cond b 1 0

  -- the events so far balance with service
  record Even (p : Ported) : Type 0 where
    is : tally (assert_of n) p.history ≡ tally (deassert_of n) p.history + one (on p.device.core.lines.isr n)

  even_after : (xs : List Item) (p : Ported) → NoLoad xs → NoIsrWrite xs → Even p → Even (ported_after p xs)
  unfolding ported_after step acted
  even_after [] p l w h = h
  even_after (call c ∷ xs) p l w h =
      let d = p.device in
      let ms = (step d c).made in
      let new = notes_of p.call d.ring ms in
      let b = balanced_acts n below d.core (acts_of d.core c) (no_isr_act d.core c w.0) in
      let ups = noted_tally (up n) (assert_of n) (λ k r m. refl) p.call d.ring ms in
      let downs = noted_tally (down n) (deassert_of n) (λ k r m. refl) p.call d.ring ms in
      even_after xs (ported_follows p (call c)) l w.1
      (record { is = omega (arith, tally_append (assert_of n) p.history new, tally_append (deassert_of n) p.history new, ups, downs, b.is, h.is) })
  even_after (load d ∷ xs) p l w h = absurd l
  even_after (refused ∷ xs) p l w h = even_after xs (ported_follows p refused) l w.1 (record { is = h.is })

  even_begun : Even (record { device = reset; call = 0; history = [] })
  unfolding tally
  even_begun = record { is = rw (on_none n) refl }

  -- Of any trace none of whose records writes to ISR, and any input: as many asserts as deasserts, and one more exactly if it is in service at the end.
  pub asserts_less_deasserts : (l : List ℕ) → NoIsrWrite (items l)
      → (row_of (day_of l) n).asserts ≡ (row_of (day_of l) n).deasserts + cond (on (shown (at_last l)).core.lines.isr n) 1 0
  unfolding row_of begun load_of
  asserts_less_deasserts l w =
      let xs = items l in
      let none = items_loadless (records l) in
      let e = even_after xs (record { device = reset; call = 0; history = [] }) none w even_begun in
      let h = same_history begun reset reset_well_formed xs (no_load_well xs none) in
      let d = shows_device begun reset reset_well_formed xs (no_load_well xs none) in
      ap (tally (assert_of n)) h ∙ e.is ∙ (λ i. tally (deassert_of n) (sym h i) + one (on (sym d i).core.lines.isr n))
