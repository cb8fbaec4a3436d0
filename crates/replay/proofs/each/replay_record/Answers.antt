-- `replay_record`: a byte of no kind is none of 1 to 9, and changes nothing.
use Rattle.basics.proofs.Prelude.{◌≡◌, sym, false≢true, true, ℕ, List}
use Rattle.std.proofs.Common.{Result, Ok, Err, IsErr}
use Rattle.replay.specs.records.Records.{agreed, kind_of, code_of}
use Rattle.replay.specs.Replays.{Replays}
use Rattle.replay.specs.declared.records.Mismatch.{Mismatch}
use Rattle.replay.specs.declared.records.Held.{Held}
use Rattle.replay.specs.declared.records.Kind.{Kind}
use Rattle.replay.specs.declared.records.Kind.TheVariants as kind
use Rattle.replay.proofs.each.replay_record.Goals as goal

refused : (v : Result Held Mismatch) → IsErr v → agreed v ≡ true → ⊥
refused (Ok h) e t = false≢true e
refused (Err m) e t = false≢true t

unknown : (r b i : List ℕ) (v : Result Held Mismatch) → IsErr v → ((k : Kind) → code_of k ≡ kind_of r → ⊥) → Replays r b i i v
unknown r b i v e d = record {
  called = λ h t. absurd (refused v e t);
  replaced = λ h. absurd (d kind.Image (sym h));
  compared = λ h. absurd (d kind.Whole (sym h));
  damaged = λ h l. absurd (d kind.Byte (sym h));
}

pub returns-in_err-try_from : goal.returns-in_err-try_from
returns-in_err-try_from c = unknown c.args.noted.now c.args.bytes.now c.args.image.now c.from_residual.result c.from_residual.ensures.0 c.in_err-try_from.ensures
