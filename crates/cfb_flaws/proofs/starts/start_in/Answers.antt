use Rattle.std.proofs.Common.{◌≡◌, ℕ, List, [], true, false, refl, sym, ◌∙◌}
use Rattle.cfb_format.specs.Bytes.{end_of_chain}
use Rattle.cfb_codecs.specs.EntryModel.{entry_of}
use Rattle.cfb_flaws.specs.Claims.{words_of}
use Rattle.cfb_flaws.proofs.Knowing.{chain-is}
use Rattle.cfb_flaws.proofs.Lying.{lies-members}
use Rattle.cfb_flaws.proofs.starts.start_in.Goals as goal

pub returns-then-lies_in : goal.returns-then-lies_in
returns-then-lies_in g c = λ r. lies-members c.args.table r (entry_of c.args.entry.now) (c.lies_in.ensures.lies.0 c.if-lies_in.true)

pub returns : goal.returns
returns g c = λ r. c.lies_in.ensures.else_none c.if-lies_in.false r ∙ sym (chain-is (words_of c.args.table r) end_of_chain [] refl)
