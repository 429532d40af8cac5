use Rattle.std.proofs.Common.{[], ◌∷◌, ◌<◌, ◌+◌, ◌*◌, ◌++◌, ℕ, List, inr, refl, sym, ◌∙◌, ap, arith, append-nil}
use Rattle.std.proofs.lemmas.List.Elements.{All-same}
use Rattle.cfb_format.specs.Bytes.{sector_start, words_per_sector}
use Rattle.cfb_format.specs.Fat.{is_fat_padding}
use Rattle.cfb_mending.specs.declared.patches.Patch.{Patch}
use Rattle.cfb_mending.specs.Tables.{IsInTables}
use Rattle.cfb_mending.proofs.InTables.{rest-patch, tables-more}
use Rattle.cfb_mending.proofs.FreedWords.{freed-from, freed-more, freed-none}
use Rattle.cfb_mending.proofs.HeldWords.{most-words, word-there}
use Rattle.cfb_mending.proofs.scan.Scan.free_behind.Goals as goal

pub returns-then-not-is_behind-clause-mends : goal.returns-then-not-is_behind-clause-mends
returns-then-not-is_behind-clause-mends g c bytes fat table before =
    let version = c.args.version in
    tables-more version bytes fat _ c.loop-index.self.patches.items _ c.in_ok-set.ensures.added
    (rest-patch version bytes fat c.args.sector c.loop-index.index _ _ _ table c.place_in-at.ensures.is
    (c.place_in.ensures.is ∙ ap (λ (n : ℕ). sector_start version c.args.sector + 4 * n) c.words_in-words.ensures.is) (inr refl))
    (All-same (IsInTables version bytes fat) _ _ c.loop-index.invariant.stays before)

pub returns-clause-mends : goal.returns-clause-mends
returns-clause-mends g c bytes fat table before = All-same (IsInTables c.args.version bytes fat) _ _ c.loop-index.invariant.stays before

pub is_behind-requires : goal.is_behind-requires
is_behind-requires g c = omega (arith, c.loop-index-test.true, c.words_in-words.ensures.is, most-words c.args.version)

pub loop-index-preserved : goal.loop-index-preserved
loop-index-preserved g c =
    let loop = c.loop-index.invariant in
    let version = c.args.version in
    let below : c.loop-index.index < words_per_sector version = omega (arith, c.loop-index-test.true, c.words_in-words.ensures.is) in
    record {
      same = loop.same;
      stays = loop.stays;
      exact = λ bytes h.
          freed-more bytes (sector_start version c.args.sector) c.loop-index.index (words_per_sector version) _ below
          (sym (word-there is_fat_padding version bytes c.args.sector _ _ c.loop-index.index h below) ∙ sym c.is_behind.ensures ∙ c.if-not-is_behind.false) (loop.exact bytes h);
    }

pub returns-then-not-is_behind-clause-exact : goal.returns-then-not-is_behind-clause-exact
returns-then-not-is_behind-clause-exact g c bytes h =
    let loop = c.loop-index.invariant in
    let version = c.args.version in
    let below : c.loop-index.index < words_per_sector version = omega (arith, c.loop-index-test.true, c.words_in-words.ensures.is) in
    c.in_ok-set.ensures.added ∙ ap (λ (l : List Patch). l ++ record { at = c.place_in-at.result; «end» = c.place_in.result; word = 4294967295 } ∷ []) loop.stays
    ∙ ap (λ (l : List Patch). c.args.self.now.patches.items ++ l)
    (freed-from bytes (sector_start version c.args.sector) c.loop-index.index (words_per_sector version) _ _ _ below
    (sym (word-there is_fat_padding version bytes c.args.sector _ _ c.loop-index.index h below) ∙ sym c.is_behind.ensures ∙ c.if-not-is_behind.true) c.place_in-at.ensures.is
    (c.place_in.ensures.is ∙ ap (λ (n : ℕ). sector_start version c.args.sector + 4 * n) c.words_in-words.ensures.is) (loop.exact bytes h))

pub returns-clause-exact : goal.returns-clause-exact
returns-clause-exact g c bytes h =
    let loop = c.loop-index.invariant in
    let version = c.args.version in
    loop.stays ∙ sym (append-nil c.args.self.now.patches.items)
    ∙ ap (λ (l : List Patch). c.args.self.now.patches.items ++ l)
    (freed-none bytes (sector_start version c.args.sector) c.loop-index.index (words_per_sector version) _ (omega (arith, c.loop-index-test.false, c.words_in-words.ensures.is)) (loop.exact bytes h))
