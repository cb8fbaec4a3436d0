-- What the exported calls with a board leave: refused, not a byte of image, board and event buffer changes, and 7 writes none at all; and no second outcome keeps a promise.
use Rattle.basics.proofs.Prelude.{◌≡◌, sym, ap, ◌∙◌, Bool, cond, List, ℕ, leb, length, ne_eqb, test}
use Rattle.calls.{specs.Calls.Request, specs.Calls.buffer_of, specs.Calls.outcome, proofs.demands.Refused.refused_changes_nothing}
use Rattle.boards.specs.Boarding.{Boarded, board_leaves, board_after, boarding, Heard, hears, hearing}

-- ---- refused

module _ (q : Request) (i b a : List ℕ) where
  abbrev left : Boarded
  left = boarding q i b a

  by_room : {r : Bool} → leb 256 (length b) ≡ r
      → left ≡ cond r (record { call = outcome q i a; board = board_after (outcome q i a).number (outcome q i a).image b }) (board_leaves 7 i b a (buffer_of q))
  unfolding boarding
  by_room e t = cond (e t) (record { call = outcome q i a; board = board_after (outcome q i a).number (outcome q i a).image b }) (board_leaves 7 i b a (buffer_of q))

  -- what a refused call leaves as it was; 7 the answer area too
  pub record Untouched : Type 0 where
    pub image : left.call.image ≡ i
    pub board : left.board ≡ b
    pub events : left.call.events ≡ buffer_of q
    pub seven : left.call.number ≡ 7 → left.call.answer ≡ a

  -- Whatever is asked, of any image, board and answer area: where the number handed back is not 0, nothing else has changed.
  pub refused_leaves_the_board : (left.call.number ≡ 0 → ⊥) → Untouched
  refused_leaves_the_board n =
      test (leb 256 (length b))
      (λ e.
      let is = by_room e in
      let no : (outcome q i a).number ≡ 0 → ⊥ = λ z. n (ap (λ (x : Boarded). x.call.number) is ∙ z) in
      let same = refused_changes_nothing q i a no in
      record {
        image = ap (λ (x : Boarded). x.call.image) is ∙ same.image;
        board = ap (λ (x : Boarded). x.board) is ∙ rw (ne_eqb (outcome q i a).number 0 no);
        events = ap (λ (x : Boarded). x.call.events) is ∙ same.events;
        seven = λ z. ap (λ (x : Boarded). x.call.answer) is ∙ same.seven (sym (ap (λ (x : Boarded). x.call.number) is) ∙ z);
      })
      (λ e.
      let is = by_room e in
      record {
        image = ap (λ (x : Boarded). x.call.image) is;
        board = ap (λ (x : Boarded). x.board) is;
        events = ap (λ (x : Boarded). x.call.events) is;
        seven = λ z. ap (λ (x : Boarded). x.call.answer) is;
      })

-- ---- no second outcome

-- in the contracts' own words: of two runs whose contract holds, number, image, board, answer area and event buffer are the same
pub one_result_with_a_board : (q : Request) (i b a : List ℕ) (r s : ℕ) (j k c d f g e h : List ℕ) → board_leaves r j c f e ≡ boarding q i b a
    → board_leaves s k d g h ≡ boarding q i b a → (r ≡ s) × (j ≡ k) × (c ≡ d) × (f ≡ g) × (e ≡ h)
one_result_with_a_board q i b a r s j k c d f g e h x y =
    let same = x ∙ sym y in (
      ap (λ (o : Boarded). o.call.number) same,
      ap (λ (o : Boarded). o.call.image) same,
      ap (λ (o : Boarded). o.board) same,
      ap (λ (o : Boarded). o.call.answer) same,
      ap (λ (o : Boarded). o.call.events) same,
    )

pub one_result_of_an_event : (b : List ℕ) (v f : ℕ) (a : List ℕ) (r s : ℕ) (c d g h : List ℕ) → hears r c g ≡ hearing b v f a → hears s d h ≡ hearing b v f a
    → (r ≡ s) × (c ≡ d) × (g ≡ h)
one_result_of_an_event b v f a r s c d g h x y =
    let same = x ∙ sym y in
    (ap (λ (o : Heard). o.number) same, ap (λ (o : Heard). o.board) same, ap (λ (o : Heard). o.answer) same)
