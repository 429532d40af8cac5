use Rattle.std.proofs.Common.{◌≡◌, ◌+◌, ◌-◌, ◌*◌, ◌++◌, ℕ, List, min, inl, ◌∙◌, ap, arith, append_assoc}
use Rattle.cfb_format.specs.Bytes.{sector_start, words_per_sector}
use Rattle.cfb_mending.specs.declared.patches.Patch.{Patch}
use Rattle.cfb_mending.specs.Missing.{chain_mark, freed, known_of, marked}
use Rattle.cfb_mending.proofs.scan.Scan.mend_fat_sector.Goals as goal

pub end_chains-requires : goal.end_chains-requires
end_chains-requires g c = omega (arith, c.words_in.ensures.is, c.min-there.ensures)

pub returns-clause-same : goal.returns-clause-same
returns-clause-same g c told =
    ap g.F.ReadMedium.bytes c.in_ok-free_behind.ensures.same ∙ ap g.F.ReadMedium.bytes c.in_ok-end_chains.ensures.same ∙ c.in_ok-loaded.ensures.same told

pub returns-clause-mends : goal.returns-clause-mends
returns-clause-mends g c told before =
    let bytes = g.F.ReadMedium.bytes c.args.self.now.medium in
    let fat = c.args.tables.now.fat.items in
    c.in_ok-free_behind.ensures.mends bytes fat (inl c.requires) (c.in_ok-end_chains.ensures.mends bytes fat (inl c.requires) before)

pub returns-clause-exact : goal.returns-clause-exact
returns-clause-exact g c told bytes same len =
    let version = c.args.tables.now.bounds.version in
    let words = words_per_sector version in
    let start = sector_start version c.args.sector in
    let known = known_of version c.args.tables.now.bounds.sectors c.args.tables.now.fat.items in
    let old = c.args.self.now.patches.items in
    let there : c.min-there.result ≡ min c.args.left words = c.min-there.ensures ∙ ap (λ (n : ℕ). min c.args.left n) c.words_in.ensures.is in
    let h = c.in_ok-loaded.ensures.holds told bytes same len in
    c.in_ok-free_behind.ensures.exact bytes h ∙ ap (λ (l : List Patch). l ++ freed bytes (start + 4 * c.min-there.result) (words - c.min-there.result)) (c.in_ok-end_chains.ensures.exact bytes h)
    ∙ append_assoc old (marked (chain_mark c.known.result bytes start) start c.min-there.result) (freed bytes (start + 4 * c.min-there.result) (words - c.min-there.result))
    ∙ (λ j. old ++ (marked (chain_mark (c.known.ensures j) bytes start) start (there j) ++ freed bytes (start + 4 * there j) (words - there j)))
