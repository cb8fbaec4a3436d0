-- What enters and what leaves, done in place: the stores to the registers come to the rules' steps.
use Rattle.basics.proofs.Prelude.{◌≡◌, refl, sym, ap, ◌∙◌, Bool, false, cond, List, [], ◌∷◌, map, ℕ, ◌-◌, ◌*◌, ◌%◌, ◌^◌, ◌<◌, arith, bit_and, bit_or, count_trailing_zeros, get_or, on, inputs, only, register, without, test, put_is, without_these, on_bit, bit_lt, inputs_ext, first_input, no_input_lem}
use Rattle.rules.specs.{Lines.stay, Lines.with_isr, Lines.event, Lines.served_in, Lines.pending_in, Lines.serve, Lines.enter, Lines.leave, Ring.ring_run}
use Rattle.rules.specs.{Device.Device, Device.none, Device.some, Device.offers, Numbering.Numbers}
use Rattle.laws.proofs.laws.Sets.{leave_ext, only_served}
use Rattle.device.{specs.decide.Sets.waiting_of, specs.decide.Sets.served_of, proofs.decide.Deciding.inputs_of, proofs.decide.Deciding.none_served}
use Rattle.fields.specs.inplace.Held.{Holds, Reads, Becomes, Does, MovesIn, with_lines, given, untaken}
use Rattle.fields.proofs.inplace.{Doing.does_same, Turning.moves_by}

-- ---- enter

module _ (i : List ℕ) (x : ℕ) {irr mask isr : ℕ} (rirr : Reads i irr (λ d. d.core.lines.irr)) (rmask : Reads i mask (λ d. d.core.lines.mask)) (risr : Reads i isr (λ d. d.core.lines.isr))
    {p : ℕ} (is : p ≡ register (waiting_of x irr mask isr)) where
  -- the inputs that wait, by what was read
  waiting : (d : Device) (ns : Numbers) → Holds i d ns → inputs (on p) ≡ inputs (pending_in (on x) d.core.lines)
  waiting d ns h = inputs_of (waiting_of x irr mask isr) is ∙ (λ t. inputs (waiting_of x (rirr d ns h t) (rmask d ns h t) (risr d ns h t)))

  pub enter_none : p ≡ 0 → MovesIn i i none untaken given (λ vs. enter vs false (on x))
  unfolding offers ring_run
  enter_none z =
      moves_by untaken given (λ d. stay d.core.lines) (λ vs. enter vs false (on x)) (record { becomes = λ d ns h. h; gives = λ d ns h. refl })
      (λ d ns h. ap (serve d.core.vectors false d.core.lines) (sym (no_input_lem p z) ∙ waiting d ns h))

  module _ (below : p < 2 ^ 64) (some-wait : p ≡ 0 → ⊥) (lt : count_trailing_zeros 64 p < 64) where
    abbrev lowest : ℕ
    lowest = count_trailing_zeros 64 p

    pub enter_some : {j : List ℕ} {v : ℕ} → Becomes i j (λ d. with_lines d (with_isr d.core.lines (bit_or isr (1 * 2 ^ lowest % 2 ^ 64)))) → Reads j v (λ d. get_or d.core.vectors lowest 0) → MovesIn i j (some v) untaken given (λ vs. enter vs false (on x))
    unfolding offers ring_run
    enter_some {j} {v} s r =
        let stored : Does i j (some v) (λ d. with_lines d (with_isr d.core.lines (bit_or isr (1 * 2 ^ lowest % 2 ^ 64)))) (λ d ns. ns) (λ d. some (get_or d.core.vectors lowest 0)) = record { becomes = s; gives = λ d ns h. ap some (r _ ns (s d ns h)) } in
        moves_by untaken given (λ d. serve d.core.vectors false d.core.lines (lowest ∷ [])) (λ vs. enter vs false (on x))
        (does_same stored (λ d ns h. ap (λ y. with_lines d (with_isr d.core.lines y)) (ap (λ y. bit_or y (1 * 2 ^ lowest % 2 ^ 64)) (risr d ns h) ∙ put_is d.core.lines.isr lowest h.well.isr lt)) (λ d ns h. refl) (λ d ns h. refl))
        (λ d ns h. ap (serve d.core.vectors false d.core.lines) (sym (first_input p below some-wait) ∙ waiting d ns h))

-- ---- leave

module _ (i : List ℕ) (x : ℕ) {isr : ℕ} (risr : Reads i isr (λ d. d.core.lines.isr)) {p : ℕ} (is : p ≡ register (served_of x isr)) where
  -- the inputs that are in service, by what was read
  pub serving : (d : Device) (ns : Numbers) → Holds i d ns → inputs (on p) ≡ inputs (served_in (on x) d.core.lines)
  serving d ns h = inputs_of (served_of x isr) is ∙ (λ t. inputs (served_of x (risr d ns h t)))

  -- with none in service the lines stay
  pub stays : p ≡ 0 → (o : Bool) (d : Device) (ns : Numbers) → Holds i d ns → stay d.core.lines ≡ leave d.core.vectors o (on x) d.core.lines
  stays z o d ns h =
      let e = risr d ns h in
      let isr-stays = none_served x d.core.lines.isr h.well.isr (is ∙ ap (λ y. register (served_of x y)) e) z in
      λ t. record { after = with_isr d.core.lines (isr-stays t); made = map (event d.core.vectors o false) ((sym (no_input_lem p z) ∙ serving d ns h) t) }

-- one input, whose event is returned
module _ (i : List ℕ) (n : ℕ) (lt : n < 64) {isr : ℕ} (risr : Reads i isr (λ d. d.core.lines.isr)) {p : ℕ} (is : p ≡ register (served_of (1 * 2 ^ n % 2 ^ 64) isr)) where
  abbrev bit : ℕ
  bit = 1 * 2 ^ n % 2 ^ 64

  alone : (d : Device) → leave d.core.vectors false (on bit) d.core.lines ≡ leave d.core.vectors false (only n) d.core.lines
  alone d = leave_ext d.core.vectors false (on bit) (only n) d.core.lines (λ k l. on_bit n lt k)

  pub leave_one_none : p ≡ 0 → MovesIn i i none untaken given (λ vs. leave vs false (only n))
  unfolding offers ring_run
  leave_one_none z = moves_by untaken given (λ d. stay d.core.lines) (λ vs. leave vs false (only n)) (record { becomes = λ d ns h. h; gives = λ d ns h. refl }) (λ d ns h. stays i bit risr is z false d ns h ∙ alone d)

  module _ (below : p < 2 ^ 64) (some_leave : p ≡ 0 → ⊥) where
    -- it is in service
    its : (d : Device) (ns : Numbers) → Holds i d ns → n ∷ [] ≡ inputs (served_in (only n) d.core.lines)
    its d ns h =
        let same = sym (first_input p below some_leave) ∙ serving i bit risr is d ns h ∙ inputs_ext _ (served_in (only n) d.core.lines) (λ k l. rw (on_bit n lt k)) ∙ only_served n d.core.lines lt in
        sym (only_served n d.core.lines lt ∙ test (on d.core.lines.isr n) (λ t. ap (λ b. cond b (n ∷ []) []) t) (λ t. absurd (let e = same ∙ ap (λ b. cond b (n ∷ []) []) t in let z : ◌≡◌ {A = ℕ} 0 1 = cc in omega arith)))

    pub leave_one_done : {j : List ℕ} {v : ℕ} → Becomes i j (λ d. with_lines d (with_isr d.core.lines (bit_and isr ((2 ^ 64 - 1) - bit)))) → Reads j v (λ d. get_or d.core.vectors n 0) → MovesIn i j (some v) untaken given (λ vs. leave vs false (only n))
    unfolding offers ring_run
    leave_one_done {j} {v} s r =
        let stored : Does i j (some v) (λ d. with_lines d (with_isr d.core.lines (bit_and isr ((2 ^ 64 - 1) - bit)))) (λ d ns. ns) (λ d. some (get_or d.core.vectors n 0)) = record { becomes = s; gives = λ d ns h. ap some (r _ ns (s d ns h)) } in
        moves_by untaken given (λ d. record { after = with_isr d.core.lines (without d.core.lines.isr (only n)); made = event d.core.vectors false false n ∷ [] }) (λ vs. leave vs false (only n))
        (does_same stored
        (λ d ns h. ap (λ y. with_lines d (with_isr d.core.lines y)) (ap (λ y. bit_and y ((2 ^ 64 - 1) - bit)) (risr d ns h) ∙ without_these d.core.lines.isr bit (only n) h.well.isr (bit_lt n) (λ k l. on_bit n lt k)))
        (λ d ns h. refl) (λ d ns h. refl))
        (λ d ns h. ap (λ ns. record { after = with_isr d.core.lines (without d.core.lines.isr (only n)); made = map (event d.core.vectors false false) ns }) (its d ns h))
