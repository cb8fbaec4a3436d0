-- Fields put into an image one after another: what is put stands there, all else stays, and where every field is put the image is the device's.
use Rattle.basics.proofs.Prelude.{neither as both-off, ◌≡◌, refl, sym, ap, ◌∙◌, subst, Bool, true, false, ◌||◌, false≢true, or-false, List, [], ◌∷◌, ◌++◌, append_assoc, ℕ, ◌+◌, ◌-◌, ◌≤◌, zero-add, arith, length, take, drop, length-append, length-drop, drop-drop, length-take-le, take_all, take_at, drop_at, take-take, take-append-le, drop-append-add, put_mid, bytes_of, part, length_part, part_add, length_bytes_of, part_number, test}
use Rattle.rules.specs.{Device.Device, Device.reset, Device.up_from, Numbering.Numbers, Numbering.from_zero}
use Rattle.images.specs.Form.{Field, word, copy, irr, vectors, count, drops, pairs, next, numbers, Form, one, two, numbered, is, listed, has, size, place, form_length, contents_length, contents_of, read}
use Rattle.images.specs.Image.{field_of, encode_as, register_at, ring_body, ring_length, number_body, number_body_length}
use Rattle.images.proofs.laws.Layout.{by_word, by_plain, by_field, is_sound, never, always, has_all, field_fits, listed_append, image_known, length_contents, length_over, read_over, other_over, head_over}
use Rattle.images.proofs.laws.Saved.{bytes_contents, length_up_from}
use Rattle.image.{specs.Shown.place_in, specs.Shown.PlacesOf, specs.Shown.ContentsOf, specs.declared.form.Places.Places, specs.declared.form.Contents.Contents, proofs.Forms.behind_next}
use Rattle.bits.specs.bytes.Put.{with_bytes}
use Rattle.stored.specs.saves.Shown.{Puts, SavesOthers}

module _ (f : Form) (d : Device) (s : Numbers) where
  -- one field
  pub puts_one : (l : List ℕ) (p : Field) → length l ≡ form_length f → has f p ≡ true → length (field_of d s p) ≡ size p
      → Puts f d s (p ∷ []) l (put_mid (place f p) (size p) l (field_of d s p))
  puts_one l p e h n = record {
    size = length_over f l e p h (field_of d s p) n ∙ sym e;
    head = head_over f l e p h (field_of d s p) n;
    put = λ q k t. let same = is_sound q p (sym (or-false (is q p)) ∙ t) in
        ap (read f (put_mid (place f p) (size p) l (field_of d s p))) same ∙ read_over f l e p h (field_of d s p) n ∙ ap (field_of d s) (sym same);
    stays = λ q k t. other_over f l e p h (field_of d s p) n q k (sym (or-false (is q p)) ∙ t);
  }

  -- some fields, and then others
  pub puts_then : {ps rs : List Field} {l m n : List ℕ} → Puts f d s ps l m → Puts f d s rs m n → Puts f d s (rs ++ ps) l n
  puts_then {ps} {rs} a b = record {
    size = b.size ∙ a.size;
    head = b.head ∙ a.head;
    put = λ p h t. test (listed p rs) (b.put p h) (λ u. b.stays p h u ∙ a.put p h (sym (ap (λ x. x || listed p ps) u) ∙ sym (listed_append p rs ps) ∙ t));
    stays = λ p h t. let u = both-off (listed p rs) (listed p ps) (sym (listed_append p rs ps) ∙ t) in b.stays p h u.0 ∙ a.stays p h u.1;
  }

  -- a field that the form lacks is listed for nothing
  pub puts_lacking : {ps : List Field} {l m : List ℕ} (rs : List Field) → ((p : Field) → has f p ≡ true → listed p rs ≡ listed p ps) → Puts f d s ps l m → Puts f d s rs l m
  puts_lacking rs e a = record { size = a.size; head = a.head; put = λ p h t. a.put p h (sym (e p h) ∙ t); stays = λ p h t. a.stays p h (sym (e p h) ∙ t) }

  -- every field is put
  pub puts_all : {ps : List Field} {l m : List ℕ} → length l ≡ form_length f → part 0 (contents_length f) l ≡ contents_of f
      → ((p : Field) → has f p ≡ true → listed p ps ≡ true) → Puts f d s ps l m → m ≡ encode_as f d s
  puts_all {ps} {l} {m} e h all a = sym (image_known f m (field_of d s) (a.size ∙ e) (a.head ∙ h) (λ p k. sym (a.put p k (all p k))))

  -- a field's bytes are written to its place
  pub puts_at : {l m ys : List ℕ} (q : Field) (a k : ℕ) → length l ≡ form_length f → has f q ≡ true → a ≡ place f q → k ≡ size q → ys ≡ field_of d s q → length ys ≡ size q
      → m ≡ put_mid a k l ys → Puts f d s (q ∷ []) l m
  puts_at {l} {m} {ys} q a k e h w n y z g =
      let same : put_mid (place f q) (size q) l (field_of d s q) ≡ m = sym (g ∙ (λ i. put_mid (w i) (n i) l (y i))) in
      subst (λ x. Puts f d s (q ∷ []) l x) same (puts_one l q e h (sym (ap length y) ∙ z))

-- a number's bytes at a place, as a part that is put
bytes_put : (a n x : ℕ) (l : List ℕ) → with_bytes a n x l ≡ put_mid a n l (bytes_of n x)
bytes_put a n x l = λ j. take a l ++ (bytes_of n x ++ sym (drop-drop n a l) j)

-- a part that is lent from a place on
whole_put : (a k : ℕ) (l ys : List ℕ) → put_mid a (a + k - a) l ys ≡ put_mid a k l ys
whole_put a k l ys = let w : a + k - a ≡ k = omega arith in ap (λ n. put_mid a n l ys) w

-- where the code's places are those of the form
module _ (f : Form) (d : Device) (s : Numbers) (p : Places) (o : PlacesOf f p) where
  at : (q : Field) → always q ≡ true → place_in p q ≡ place f q
  at q h = o.fields q (has_all f q h)

  -- a number into its field, and a lent part that is filled
  pub puts_number : {l m : List ℕ} (q : Field) → always q ≡ true → (x : ℕ) → length l ≡ form_length f → bytes_of (size q) x ≡ field_of d s q
      → m ≡ with_bytes (place_in p q) (size q) x l → Puts f d s (q ∷ []) l m
  puts_number {l} q h x e y g =
      puts_at f d s q (place_in p q) (size q) e (has_all f q h) (at q h) refl y (length_bytes_of (size q) x) (g ∙ bytes_put (place_in p q) (size q) x l)

  pub puts_part : {l m ys : List ℕ} (q : Field) → always q ≡ true → length l ≡ form_length f → ys ≡ field_of d s q → length ys ≡ size q
      → m ≡ put_mid (place_in p q) (place_in p q + size q - place_in p q) l ys → Puts f d s (q ∷ []) l m
  puts_part {l} {m} {ys} q h e y z g =
      puts_at f d s q (place_in p q) (size q) e (has_all f q h) (at q h) refl y z (g ∙ whole_put (place_in p q) (size q) l ys)

  -- IRR and its copy, which is IRR again in a form without one
  pub puts_latched : {l m n : List ℕ} (x : ℕ) → length l ≡ form_length f → x ≡ d.core.lines.irr
      → m ≡ with_bytes p.last_intirr 8 x l → n ≡ with_bytes p.intirr 8 x m → Puts f d s (word irr ∷ word copy ∷ []) l n
  puts_latched {l} {m} {n} x e y g k =
      test (has f (word copy))
      (λ h. let first = puts_at f d s (word copy) p.last_intirr 8 e h (o.fields (word copy) h) refl (ap (bytes_of 8) y) refl (g ∙ bytes_put p.last_intirr 8 x l) in
      puts_then f d s first (second first))
      (λ h. let first = puts_at f d s (word irr) p.last_intirr 8 e (has_all f (word irr) refl) (o.copy h ∙ at (word irr) refl) refl (ap (bytes_of 8) y) refl (g ∙ bytes_put p.last_intirr 8 x l) in
      puts_lacking f d s (word irr ∷ word copy ∷ []) (lacks h) (puts_then f d s first (second first)))
    where
      second : {ps : List Field} → Puts f d s ps l m → Puts f d s (word irr ∷ []) m n
      second first = puts_number (word irr) refl x (first.size ∙ e) (ap (bytes_of 8) y) k

      lacks : has f (word copy) ≡ false → (q : Field) → has f q ≡ true → listed q (word irr ∷ word copy ∷ []) ≡ listed q (word irr ∷ word irr ∷ [])
      lacks h q t =
          let no : is q (word copy) ≡ false = test (is q (word copy)) (λ u. absurd (false≢true (sym h ∙ ap (has f) (sym (is_sound q (word copy) u)) ∙ t))) (λ u. u) in
          rw no (twice (is q (word irr)))
        where
          twice : (b : Bool) → (b || false) ≡ (b || (b || false))
          twice true = refl
          twice false = refl

-- ---- the numbers

-- ys in two parts, one put behind the other
put_two : (l u v : List ℕ) (a k n : ℕ) → a ≤ length l → length u ≡ k → put_mid (a + k) n (put_mid a k l u) v ≡ put_mid a (k + n) l (u ++ v)
put_two l u v a k n h e =
    let rest = drop k (drop a l) in
    let m = put_mid a k l u in
    let split : m ≡ (take a l ++ u) ++ rest = sym (append_assoc (take a l) u rest) in
    let ahead : length (take a l ++ u) ≡ a + k = length-append (take a l) u ∙ (λ i. length-take-le a l h i + e i) in
    let front : take (a + k) m ≡ take a l ++ u = ap (take (a + k)) split ∙ take_at (take a l ++ u) rest (a + k) ahead in
    let back : drop (a + k) m ≡ rest = ap (drop (a + k)) split ∙ drop_at (take a l ++ u) rest (a + k) ahead in
    (λ i. front i ++ (v ++ drop n (back i))) ∙ append_assoc (take a l) u (v ++ drop n rest)
    ∙ ap (λ x. take a l ++ x) (sym (append_assoc u v (drop n rest)) ∙ ap (λ x. (u ++ v) ++ x) (drop-drop n k (drop a l)))

module _ (f : Form) (d : Device) (s : Numbers) where
  -- the body's bytes are those of both fields of the fifth body
  pub puts_numbers : {l m body : List ℕ} (a : ℕ) → length l ≡ form_length f → has f next ≡ true → has f numbers ≡ true → a ≡ place f next → length body ≡ number_body_length
      → number_body s ≡ body → m ≡ put_mid a (a + number_body_length - a) l body → Puts f d s (numbers ∷ next ∷ []) l m
  unfolding number_body
  puts_numbers {l} {m} {body} a e t h w z y g =
      let u = field_of d s next in
      let v = field_of d s numbers in
      let fits : length v ≡ size numbers = omega (arith, ap length y, length-append u v) in
      let room : place f next ≤ length l = omega (arith, field_fits f next t) in
      let first = puts_one f d s l next e t refl in
      let second = puts_one f d s (put_mid (place f next) (size next) l u) numbers (first.size ∙ e) h fits in
      let whole : put_mid (place f numbers) (size numbers) (put_mid (place f next) (size next) l u) v ≡ m =
      ap (λ b. put_mid b (size numbers) (put_mid (place f next) (size next) l u) v) (sym (behind_next f h)) ∙ put_two l u v (place f next) (size next) (size numbers) room refl
      ∙ (λ i. put_mid (sym w i) number_body_length l (y i)) ∙ sym (g ∙ whole_put a number_body_length l body)
      in
      subst (λ x. Puts f d s (numbers ∷ next ∷ []) l x) whole (puts_then f d s first second)

-- ---- the ring

-- its fields stand one behind the other
behind_count : (f : Form) → (place f count + size count ≡ place f drops) × (place f count + (size count + size drops) ≡ place f pairs)
behind_count one = (refl, refl)
behind_count two = (refl, refl)
behind_count numbered = (refl, refl)

-- and end within the image
pub ring_within : (f : Form) (l : List ℕ) → length l ≡ form_length f → (p : Places) → PlacesOf f p → p.count + ring_length ≤ length l
ring_within f l e p o = omega (arith, o.fields count (has_all f count refl), (behind_count f).1, field_fits f pairs (has_all f pairs refl))

module _ (f : Form) (d : Device) (s : Numbers) where
  -- the body's bytes are those of all three
  pub puts_ring : {l m body : List ℕ} (a : ℕ) → length l ≡ form_length f → a ≡ place f count → length body ≡ ring_length → ring_body d ≡ body
      → m ≡ put_mid a (a + ring_length - a) l body → Puts f d s (pairs ∷ drops ∷ count ∷ []) l m
  unfolding ring_body
  puts_ring {l} {m} {body} a e w z y g =
      let u = field_of d s count in
      let v = field_of d s drops in
      let x = field_of d s pairs in
      let c = place f count in
      let many : length v ≡ size drops = length_bytes_of 4 d.ring.drops in
      let fits : length x ≡ size pairs = omega (arith, ap length y, length-append u (v ++ x), length-append v x) in
      let room : c ≤ length l = omega (arith, field_fits f count (has_all f count refl)) in
      let both : length (u ++ v) ≡ size count + size drops = length-append u v ∙ ap (λ n. 1 + n) many in
      let first = puts_one f d s l count e (has_all f count refl) refl in
      let l₁ = put_mid c (size count) l u in
      let second = puts_one f d s l₁ drops (first.size ∙ e) (has_all f drops refl) many in
      let l₂ = put_mid (place f drops) (size drops) l₁ v in
      let two = puts_then f d s first second in
      let third = puts_one f d s l₂ pairs (two.size ∙ e) (has_all f pairs refl) fits in
      let front : l₂ ≡ put_mid c (size count + size drops) l (u ++ v) = ap (λ b. put_mid b (size drops) l₁ v) (sym (behind_count f).0) ∙ put_two l u v c (size count) (size drops) room refl in
      let whole : put_mid (place f pairs) (size pairs) l₂ x ≡ m =
      (λ i. put_mid (sym (behind_count f).1 i) (size pairs) (front i) x) ∙ put_two l (u ++ v) x c (size count + size drops) (size pairs) room both
      ∙ (λ i. put_mid (sym w i) ring_length l ((append_assoc u v x ∙ y) i)) ∙ sym (g ∙ whole_put a ring_length l body)
      in
      subst (λ n. Puts f d s (pairs ∷ drops ∷ count ∷ []) l n) whole (puts_then f d s two third)

-- ---- the contents

-- of four bodies
contents_of_four : (f : Form) → has f numbers ≡ false → contents_length f ≡ 22
contents_of_four one h = refl
contents_of_four two h = refl
contents_of_four numbered h = never h

module _ (f : Form) (c : Contents) (o : ContentsOf f c) (l : List ℕ) where
  -- u bytes of the contents stand in front of the rest
  abbrev Begun : ℕ → List ℕ → Type 0
  Begun u m = m ≡ part 0 u (contents_of f) ++ drop u l

  -- eight more, which begin among them or behind them
  begun : {m n : List ℕ} (u at x : ℕ) → at ≤ u → u ≤ at + 8 → at + 8 ≤ length (contents_of f) → x ≡ register_at at (contents_of f) → Begun u m → n ≡ with_bytes at 8 x m → Begun (at + 8) n
  begun {m} u at x low high room q b g =
      let k = contents_of f in
      let long : length (part 0 u k) ≡ u = length_part k 0 u (omega arith) in
      let front : take at m ≡ part 0 at k = ap (take at) b ∙ take-append-le at (part 0 u k) (drop u l) (omega arith) ∙ take-take at u k low in
      let spells : bytes_of 8 x ≡ part at 8 k = ap (bytes_of 8) q ∙ part_number k at 8 (bytes_contents f) room in
      let past : length (part 0 u k) + (at + 8 - u) ≡ at + 8 = omega arith in
      let rest : u + (at + 8 - u) ≡ at + 8 = omega arith in
      let back : drop (at + 8) m ≡ drop (at + 8) l =
      ap (drop (at + 8)) b ∙ ap (λ n. drop n (part 0 u k ++ drop u l)) (sym past) ∙ drop-append-add (part 0 u k) (drop u l) (at + 8 - u) ∙ drop-drop (at + 8 - u) u l ∙ ap (λ n. drop n l) rest
      in
      let joined : part 0 at k ++ part at 8 k ≡ part 0 (at + 8) k = ap (λ a. part 0 at k ++ part a 8 k) (sym (zero-add at)) ∙ part_add k 0 at 8 in
      g ∙ (λ i. front i ++ (spells i ++ back i)) ∙ sym (append_assoc (part 0 at k) (part at 8 k) (drop (at + 8) l)) ∙ ap (λ x. x ++ drop (at + 8) l) joined

  -- the first three numbers
  three_put : {l₁ l₂ l₃ : List ℕ} → l₁ ≡ with_bytes 0 8 c.first l → l₂ ≡ with_bytes 8 8 c.second l₁ → l₃ ≡ with_bytes 14 8 c.third l₂ → Begun 22 l₃
  three_put g₁ g₂ g₃ =
      let long : length (contents_of f) ≡ c.last_at + 8 = length_contents f ∙ sym o.ends in
      let one = begun 0 0 c.first (omega arith) (omega arith) (omega (arith, o.low)) o.first refl g₁ in
      let two = begun 8 8 c.second (omega arith) (omega arith) (omega (arith, o.low)) o.second one g₂ in
      begun 16 14 c.third (omega arith) (omega arith) (omega (arith, o.low)) o.third two g₃

  pub four_bodies_put : {l₁ l₂ l₃ : List ℕ} → has f numbers ≡ false → l₁ ≡ with_bytes 0 8 c.first l → l₂ ≡ with_bytes 8 8 c.second l₁ → l₃ ≡ with_bytes 14 8 c.third l₂
      → l₃ ≡ contents_of f ++ drop (contents_length f) l
  four_bodies_put h g₁ g₂ g₃ =
      let e = contents_of_four f h in
      three_put g₁ g₂ g₃ ∙ (λ i. take_all 22 (contents_of f) (omega (arith, length_contents f, e)) i ++ drop (sym e i) l)

  pub contents_put : {l₁ l₂ l₃ l₄ : List ℕ} → l₁ ≡ with_bytes 0 8 c.first l → l₂ ≡ with_bytes 8 8 c.second l₁ → l₃ ≡ with_bytes 14 8 c.third l₂ → l₄ ≡ with_bytes c.last_at 8 c.last l₃
      → l₄ ≡ contents_of f ++ drop (contents_length f) l
  contents_put g₁ g₂ g₃ g₄ =
      let a = c.last_at in
      let long : length (contents_of f) ≡ a + 8 = length_contents f ∙ sym o.ends in
      let four = begun 22 a c.last o.high (omega (arith, o.low)) (omega arith) o.last (three_put g₁ g₂ g₃) g₄ in
      four ∙ (λ i. take_all (a + 8) (contents_of f) (omega arith) i ++ drop (o.ends i) l)

-- contents in front of the rest
pub headed : (f : Form) (l : List ℕ) {m : List ℕ} → length l ≡ form_length f → m ≡ contents_of f ++ drop (contents_length f) l
    → (length m ≡ form_length f) × (part 0 (contents_length f) m ≡ contents_of f)
headed f l e g =
    let size : length (contents_of f ++ drop (contents_length f) l) ≡ form_length f = simp (length-append, length-drop) (omega (arith, length_contents f)) in
    (ap length g ∙ size, ap (take (contents_length f)) g ∙ take_at (contents_of f) (drop (contents_length f) l) (contents_length f) (length_contents f))

-- the contents, the vectors after reset and then all else: the image of the device after reset, with numbers from 0
pub reset_saved : (f : Form) (l : List ℕ) {m ys r : List ℕ} (a : ℕ) → length l ≡ form_length f → a ≡ place f vectors → m ≡ contents_of f ++ drop (contents_length f) l
    → ys ≡ up_from 0 (length (part a 64 m)) → SavesOthers f (put_mid a 64 m ys) r → r ≡ encode_as f reset (from_zero 0)
reset_saved f l {m} a e w g y others =
    let h = headed f l e g in
    let long : length (part a 64 m) ≡ 64 = length_part m a 64 (omega (arith, w, h.0, field_fits f vectors (has_all f vectors refl))) in
    let order = y ∙ ap (up_from 0) long in
    puts_all f reset (from_zero 0) h.0 h.1
    (by_field _ (by_word _ (λ h. refl) (λ h. refl) (λ h. refl) (λ h. refl) (by_plain _ (λ h. refl, λ h. refl, λ h. refl, λ h. refl, λ h. refl))) (λ h. refl) (λ h. refl) (λ h. refl, λ h. refl, λ h. refl) (λ h. refl, λ h. refl))
    (puts_then f reset (from_zero 0) (puts_at f reset (from_zero 0) vectors a 64 h.0 (has_all f vectors refl) w refl order (ap length order ∙ length_up_from 0 64) refl) others)
