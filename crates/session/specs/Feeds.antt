-- What taking bytes of the input leaves: the line so far is kept, and what was said and what is still to be said is the whole.
use Rattle.std.specs.Prelude.{◌≡◌, false, List, [], ◌∷◌, ◌++◌, ℕ, ◌<◌, ◌≤◌, eqb, length, take}
use Rattle.rules.specs.Device.{reset}
use Rattle.sessions.specs.Session.{newline, lines_of, answers}
use Rattle.device.specs.state.View.{view, Well, Is}
use Rattle.session.specs.reply.Says.{Says}
use Rattle.session.specs.declared.Session.{Session}
use Rattle.session.specs.declared.Step.{Step}
use Rattle.session.specs.declared.Fed.{Fed}

-- a line that goes on: no byte of it is an ending
abbrev pub Unended : List ℕ → Type 0
Unended [] = Unit {0}
Unended (b ∷ l) = (eqb b newline ≡ false) × Unended l

-- the start: the device as after a reset, and nothing of a line
pub record Starts (s : Session) : Type 0 where
  pub state : Is s.state reset
  pub kept : s.kept ≡ 0

-- the line so far stands at the front of a line buffer that has room for every line that asks for something
pub record Ready (s : Session) (line : List ℕ) : Type 0 where
  pub well : Well s.state
  pub room : 32 ≤ length line
  pub kept : s.kept ≤ length line
  pub unended : Unended (take s.kept line)

-- what is said from here on, where so much of the input is still to come
abbrev pub to_say : Session → List ℕ → List ℕ → List ℕ
to_say s line rest = answers (view s.state) (lines_of (take s.kept line ++ rest))

-- bytes of the input are taken, and n bytes are written to the front of a buffer: they and what is still to be said are the whole
pub record Feeds (s : Session) (line input entry : List ℕ) (t : Session) (after : List ℕ) (n : ℕ) (exit : List ℕ) : Type 0 where
  pub ready : Ready t after
  pub said : List ℕ
  pub writes : Says n entry exit said
  pub whole : (rest : List ℕ) → to_say s line (input ++ rest) ≡ said ++ to_say t after rest

-- so many bytes of a chunk are taken, at least one where there is one, and so many of a buffer are written
pub record Takes (n : ℕ) (chunk : List ℕ) (m : ℕ) (out : List ℕ) : Type 0 where
  pub within : n ≤ length chunk
  pub some : 0 < length chunk → 0 < n
  pub room : m ≤ length out

-- one byte of the input is taken, with no more written than a line's answer and its ending
pub record FeedsByte (s : Session) (line : List ℕ) (b : ℕ) (entry : List ℕ) (r : Step) (after exit : List ℕ) : Type 0 where
  pub feeds : Feeds s line (b ∷ []) entry r.session after r.len exit
  pub short : r.len ≤ 66

-- the front of a chunk is taken
pub record FeedsChunk (s : Session) (line chunk entry : List ℕ) (r : Fed) (after exit : List ℕ) : Type 0 where
  pub feeds : Feeds s line (take r.taken chunk) entry r.session after r.len exit
  pub takes : Takes r.taken chunk r.len entry
