-- The session program as one equation: what start, any feeds and close write, one after another, is `session input` (01, The session program). It follows
-- from their contracts alone, whatever the chunks, the buffers and the line buffer are.
use Rattle.basics.proofs.Prelude.{◌≡◌, refl, sym, ap, ◌∙◌, List, [], ◌∷◌, ◌++◌, append_assoc, append-nil, ℕ, ◌≤◌, length, take, take_at}
use Rattle.sessions.specs.Session.{lines_of, answers, session}
use Rattle.device.specs.state.View.{view}
use Rattle.session.specs.{reply.Says.Says, Feeds.Starts, Feeds.Ready, Feeds.to_say, Feeds.Feeds, declared.Session.Session}
use Rattle.session.proofs.Feeding.{start_ready}

-- a call of `feed`: the bytes that it took of its chunk, its buffer at entry, and what it left, with how many bytes it wrote
pub record Feed : Type 0 where
  pub taken : List ℕ
  pub entry : List ℕ
  pub after : Session
  pub line : List ℕ
  pub len : ℕ
  pub exit : List ℕ

-- calls of `feed`, each going on from what the one before it left, and each with its contract
abbrev pub FedOn : Session → List ℕ → List Feed → Type 0
FedOn s line [] = Unit {0}
FedOn s line (f ∷ fs) = Feeds s line f.taken f.entry f.after f.line f.len f.exit × FedOn f.after f.line fs

-- the session and the line buffer after them
abbrev pub session_after : Session → List Feed → Session
session_after s [] = s
session_after s (f ∷ fs) = session_after f.after fs

abbrev pub line_after : List ℕ → List Feed → List ℕ
line_after line [] = line
line_after line (f ∷ fs) = line_after f.line fs

-- the bytes that they took, and the bytes that they wrote, each in order
abbrev pub input_of : List Feed → List ℕ
input_of [] = []
input_of (f ∷ fs) = f.taken ++ input_of fs

abbrev pub output_of : List Feed → List ℕ
output_of [] = []
output_of (f ∷ fs) = take f.len f.exit ++ output_of fs

-- what was said is what was written
said_written : {n : ℕ} {entry exit said : List ℕ} → Says n entry exit said → take n exit ≡ said
said_written {n} {entry} {exit} {said} s = ap (take n) s.out ∙ take_at said _ n (sym s.len)

-- they are ready for more, and what they wrote and what is still to be said is the whole
fed_ready : (s : Session) (line : List ℕ) (fs : List Feed) → Ready s line → FedOn s line fs → Ready (session_after s fs) (line_after line fs)
fed_ready s line [] r p = r
fed_ready s line (f ∷ fs) r p = fed_ready f.after f.line fs p.0.ready p.1

fed_whole : (s : Session) (line : List ℕ) (fs : List Feed) → FedOn s line fs → (rest : List ℕ)
    → to_say s line (input_of fs ++ rest) ≡ output_of fs ++ to_say (session_after s fs) (line_after line fs) rest
fed_whole s line [] p rest = refl
fed_whole s line (f ∷ fs) p rest =
    let last = to_say (session_after f.after fs) (line_after f.line fs) rest in
    ap (to_say s line) (append_assoc f.taken (input_of fs) rest) ∙ p.0.whole (input_of fs ++ rest)
    ∙ (λ i. sym (said_written p.0.writes) i ++ fed_whole f.after f.line fs p.1 rest i)
    ∙ sym (append_assoc (take f.len f.exit) (output_of fs) last)

-- s is what start gives, with a line buffer of 32 bytes or more; then any feeds, whose chunks come to the input; then close, which writes m bytes. What
-- the feeds and close wrote is what the rules say of that input. At every step the session is ready, as the next call asks.
pub whole_session : (s : Session) (line : List ℕ) → Starts s → 32 ≤ length line → (fs : List Feed) → FedOn s line fs
    → let t = session_after s fs in let after = line_after line fs in
    (m : ℕ) (entry exit : List ℕ) → Says m entry exit (answers (view t.state) (lines_of (take t.kept after)))
    → Ready t after × (output_of fs ++ take m exit ≡ session (input_of fs))
unfolding session
whole_session s line b k fs p m entry exit c =
    let t = session_after s fs in
    let after = line_after line fs in
    let input = input_of fs in
    let started : to_say s line input ≡ session input = (λ i. answers (b.state.shows i) (lines_of (take (b.kept i) line ++ input))) in
    let to_come : to_say t after [] ≡ take m exit = ap (λ l. answers (view t.state) (lines_of l)) (append-nil (take t.kept after)) ∙ sym (said_written c) in (
      fed_ready s line fs (start_ready s line b k) p,
      sym (
          sym started ∙ ap (to_say s line) (sym (append-nil input)) ∙ fed_whole s line fs p [] ∙ ap (λ l. output_of fs ++ l) to_come
          ),
    )
