use Rattle.std.proofs.Common.{◌≡◌, ◌+◌, arith}
use Rattle.cfb_format.proofs.Runs.{range_more}
use Rattle.cfb_format.proofs.consts.longer_numbers.Goals as goal

pub returns-then-from-clause-words : goal.returns-then-from-clause-words
returns-then-from-clause-words c =
    let is : c.in_ok-more.more ≡ c.args.more + 1 = grind arith in
    rw is (range_more c.args.first (c.args.more + 1) c.args.word (omega arith))
