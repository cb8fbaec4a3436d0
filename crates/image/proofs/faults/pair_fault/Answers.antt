-- `pair_fault`: the first bad flag, or else the first unused byte that is set.
use Rattle.basics.proofs.Prelude.{◌≡◌, ◌+◌, ◌-◌, arith}
use Rattle.image.proofs.faults.{Firsts.flag_told, Firsts.unused_told, Firsts.pairs_clear}
use Rattle.image.proofs.faults.pair_fault.Goals as goal

pub returns-then-flag-lt-PAIRS_LENGTH : goal.returns-then-flag-lt-PAIRS_LENGTH
returns-then-flag-lt-PAIRS_LENGTH c =
    let w : c.args.at + 32 - c.args.at ≡ 32 = omega arith in
    flag_told c.args.at c.args.count c.args.image.now c.requires.0 w c.bad_flag-flag.ensures c.if-flag-lt-PAIRS_LENGTH.true

pub returns-then-byte-lt-PAIRS_LENGTH : goal.returns-then-byte-lt-PAIRS_LENGTH
returns-then-byte-lt-PAIRS_LENGTH c =
    let w : c.args.at + 32 - c.args.at ≡ 32 = omega arith in
    unused_told c.args.at c.args.count c.args.image.now c.requires.0 w c.bad_flag-flag.ensures c.if-flag-lt-PAIRS_LENGTH.false c.used_byte-byte.ensures c.if-byte-lt-PAIRS_LENGTH.true

pub returns : goal.returns
returns c =
    let w : c.args.at + 32 - c.args.at ≡ 32 = omega arith in
    pairs_clear c.args.at c.args.count c.args.image.now c.requires.0 w c.bad_flag-flag.ensures c.if-flag-lt-PAIRS_LENGTH.false c.used_byte-byte.ensures c.if-byte-lt-PAIRS_LENGTH.false
