use Rattle.std.proofs.Common.{ℕ, List, ◌∙◌, ap}
use Rattle.cfb_format.specs.Bytes.{word_at}
use Rattle.cfb_mending.proofs.InTables.{word_of_part}
use Rattle.cfb_mending.proofs.loaded.word_at.Goals as goal

pub returns-clause-ok : goal.returns-clause-ok
returns-clause-ok g c told =
    c.u32_at.ensures ∙ ap (λ (bytes : List ℕ). word_at bytes 0) (c.in_ok-read_whole.ensures.ok told) ∙ word_of_part (g.F.ReadMedium.bytes c.args.medium.now) c.args.at
