use Rattle.std.proofs.Common.{arith, ap, ◌∙◌}
use Rattle.cfb_format.specs.Bytes.{words}
use Rattle.cfb_sectors.proofs.ReadWords.{words_each}
use Rattle.cfb_sectors.proofs.sector.get_words.Goals as goal

pub returns : goal.returns
returns c =
    words_each c.args.bytes.now c.loop-i.into (λ k low. c.loop-i.invariant k (omega (arith, low, c.loop-i.auto.into, c.loop-i-test.false)))
    ∙ ap (λ n. words n c.args.bytes.now) c.loop-i.auto.into
