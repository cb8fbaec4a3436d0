-- A byte of the input, and then another: the line so far grows, or is played; and the end.
use Rattle.basics.proofs.Prelude.{◌≡◌, refl, sym, ap, subst, ◌∙◌, List, [], ◌∷◌, ◌++◌, append_assoc, ℕ, ◌+◌, ◌-◌, ◌*◌, ◌<◌, ◌≤◌, add-one, arith, length, take, drop, get_or, set, length-set, length-take-le, take-suc, take-suc-set, ne_eqb, put_mid}
use Rattle.rules.specs.Device.{Device}
use Rattle.sessions.specs.Session.{newline, played, lines_of, answers}
use Rattle.device.specs.state.View.{view}
use Rattle.session.specs.{play_line.Plays.Plays, line_end.Ended.ended, Feeds.Unended, Feeds.Starts, Feeds.Ready, Feeds.to_say, Feeds.Feeds, declared.play_line.Played.Played}
use Rattle.session.specs.declared.Session.{Session}
use Rattle.session.proofs.reply.Writing.{filled, put_part, size, says}
use Rattle.session.proofs.Splitting.{unended_more, lines_ended, lines_last, byte_lost}

-- the start is ready for an input
pub start_ready : (s : Session) (line : List ℕ) → Starts s → 32 ≤ length line → Ready s line
start_ready s line h k = record { well = h.state.well; room = k; kept = omega (arith, h.kept); unended = subst (λ (n : ℕ). Unended (take n line)) (sym h.kept) tt }

-- ---- one byte

module _ (s : Session) (line : List ℕ) (ready : Ready s line) (b : ℕ) where
  -- an ending plays the line so far
  pub fed_ending : (r : Played) (entry exit : List ℕ) → b ≡ newline → Plays r entry exit (ended (played (view s.state) (take s.kept line)))
      → Feeds s line (b ∷ []) entry (record { state = r.state; kept = 0 }) line r.len exit
  unfolding answers
  fed_ending r entry exit e p =
      let l = take s.kept line in
      let one = played (view s.state) l in
      record {
        ready = record { well = p.state.well; room = ready.room; kept = omega arith; unended = tt };
        said = one.answer ++ (newline ∷ []);
        writes = p.says;
        whole = λ rest.
            ap (λ (x : ℕ). to_say s line (x ∷ rest)) e ∙ ap (answers (view s.state)) (lines_ended l rest ready.unended)
            ∙ sym (append_assoc one.answer (newline ∷ []) (answers one.after (lines_of rest)))
            ∙ ap (λ (d : Device). (one.answer ++ (newline ∷ [])) ++ answers d (lines_of rest)) (sym p.state.shows);
      }

  -- any other byte goes behind it
  pub fed_kept : (entry : List ℕ) → (b ≡ newline → ⊥) → s.kept < length line
      → Feeds s line (b ∷ []) entry (record { state = s.state; kept = s.kept + 1 }) (set line s.kept b) 0 entry
  fed_kept entry n h =
      let l = take s.kept line in
      let e : take (s.kept + 1) (set line s.kept b) ≡ l ++ (b ∷ []) = rw add-one (take-suc-set line s.kept b h) in
      record {
        ready = record {
          well = ready.well;
          room = simp length-set ready.room;
          kept = simp length-set (omega arith);
          unended = subst Unended (sym e) (unended_more l b ready.unended (ne_eqb b newline n));
        };
        said = [];
        writes = record { len = refl; out = refl };
        whole = λ rest. ap (λ (x : List ℕ). answers (view s.state) (lines_of x)) (sym (append_assoc l (b ∷ []) rest) ∙ ap (λ (x : List ℕ). x ++ rest) (sym e));
      }

  -- or is lost, where the line is long already
  pub fed_lost : (entry : List ℕ) → (b ≡ newline → ⊥) → length line ≤ s.kept → Feeds s line (b ∷ []) entry s line 0 entry
  fed_lost entry n h =
      let k : 32 ≤ length (take s.kept line) = rw (length-take-le s.kept line ready.kept) (omega (arith, ready.room)) in
      record {
        ready = ready;
        said = [];
        writes = record { len = refl; out = refl };
        whole = λ rest. byte_lost (view s.state) (take s.kept line) rest b ready.unended k (ne_eqb b newline n);
      }

-- ---- bytes one after another

-- what holds after i bytes of a chunk: what was written is what they say, at most 66 bytes for each
pub record Feeding (s : Session) (line chunk entry : List ℕ) (t : Session) (after : List ℕ) (i n : ℕ) (exit : List ℕ) : Type 0 where
  pub fed : Feeds s line (take i chunk) entry t after n exit
  pub within : i ≤ length chunk
  pub most : n ≤ 66 * i
  pub size : length exit ≡ length entry
  pub line_size : length after ≡ length line

-- the next byte's answer goes behind those before it
pub feed_next : (s t u : Session) (line mid after chunk entry exit ys : List ℕ) (i n m : ℕ) → Feeding s line chunk entry t mid i n exit
    → i < length chunk → n ≤ length entry - 66 → 66 ≤ length entry
    → Feeds t mid (get_or chunk i 0 ∷ []) (take (length exit - n) (drop n exit)) u after m ys → m ≤ 66 → length after ≡ length mid
    → Feeding s line chunk entry u after (i + 1) (n + m) (put_mid n (length exit - n) exit ys)
feed_next s t u line mid after chunk entry exit ys i n m f h j r g q z =
    let b = get_or chunk i 0 in
    let e : take (i + 1) chunk ≡ take i chunk ++ (b ∷ []) = rw add-one (take-suc chunk i 0 h) in
    let room : n + (length exit - n) ≤ length entry = omega (arith, f.size) in
    let fits : m ≤ length exit - n = omega (arith, f.size) in
    let w = says (put_part (filled f.fed.writes) (length exit - n) m ys g.said room fits g.writes) in
    record {
      fed = record {
        ready = g.ready;
        said = f.fed.said ++ g.said;
        writes = w;
        whole = λ rest.
            ap (to_say s line) (ap (λ (x : List ℕ). x ++ rest) e ∙ append_assoc (take i chunk) (b ∷ []) rest) ∙ f.fed.whole (b ∷ rest)
            ∙ ap (λ (x : List ℕ). f.fed.said ++ x) (g.whole rest) ∙ sym (append_assoc f.fed.said g.said (to_say u after rest));
      };
      within = omega arith;
      most = omega (arith, f.most);
      size = size w (omega (arith, f.size));
      line_size = z ∙ f.line_size;
    }

-- ---- the end

-- between two lines
pub none_kept : (d : Device) (line : List ℕ) (n : ℕ) → n ≡ 0 → answers d [] ≡ answers d (lines_of (take n line))
unfolding lines_of
none_kept d line n e = ap (λ (k : ℕ). answers d (lines_of (take k line))) (sym e)

-- within one
pub last_line : (d after : Device) (l : List ℕ) → Unended l → 0 < length l → after ≡ (played d l).after
    → ((played d l).answer ++ (newline ∷ [])) ++ answers after [] ≡ answers d (lines_of l)
unfolding answers
last_line d after l h k e =
    append_assoc (played d l).answer (newline ∷ []) (answers after []) ∙ ap (λ (x : Device). (played d l).answer ++ (newline ∷ answers x [])) e
    ∙ ap (answers d) (sym (lines_last l h k))
