use Rattle.std.proofs.Common.{◌≡◌, ℕ, ◌*◌, List, length, sym, ◌∙◌, ap, subst, arith}
use Rattle.cfb_format.specs.Bytes.{words_per_sector}
use Rattle.cfb_format.specs.Chain.{IsChain}
use Rattle.cfb_format.proofs.Unique.{IsChain-unique}
use Rattle.cfb_mini.specs.cfb_alloc.Alloc.{AllocatorState}
use Rattle.cfb_mini.proofs.MiniOpening.{invalid-because}
use Rattle.cfb_mini.proofs.opening.minifat_sectors_from.Goals as goal

pub returns-then-words-len-clause-refused : goal.returns-then-words-len-clause-refused
returns-then-words-len-clause-refused g c =
    let d = c.args.directory.now in
    let v = d.table.tables.version in
    let items = c.in_ok-sectors.sectors.items in
    let chain = subst (λ (a : AllocatorState). IsChain a.tables.fat c.args.start items) c.allocator.ensures c.in_ok-sectors.ensures.ok in
    let long : length items ≡ c.len.result = omega (arith, c.len.ensures, c.in_ok-sectors.sectors.ok.0) in
    let per : c.words_per_sector.result ≡ words_per_sector v = c.words_per_sector.ensures ∙ ap words_per_sector c.version.ensures in
    invalid-because _ (λ all list len are strict.
    let same = IsChain-unique d.table.tables.fat c.args.start list items are.chain chain in
    c.if-words-len.true (sym len ∙ are.words ∙ ap (λ (l : List ℕ). length l * words_per_sector v) same ∙ ap (λ n. n * words_per_sector v) long
    ∙ ap (λ n. c.len.result * n) (sym per))) c.miscounted.result c.miscounted.ensures
