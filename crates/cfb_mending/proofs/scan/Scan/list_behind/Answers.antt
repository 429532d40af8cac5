use Rattle.std.proofs.Common.{◌≡◌, ◌+◌, ◌-◌, ◌*◌, ◌≤◌, ℕ, List, false, true, inl, refl, sym, ◌∙◌, ap, subst, arith}
use Rattle.std.specs.Prelude.{not}
use Rattle.std.proofs.lemmas.Bool.{and_right, le-leb, lt-leb, or_from, or_left, or_right}
use Rattle.std.proofs.lemmas.Bool.Decides.{nat_tests}
use Rattle.cfb_format.specs.Bytes.{is_regular, word_at, sector_start, words_per_sector}
use Rattle.cfb_mending.specs.Missing.{has_word, leads_below}
use Rattle.cfb_mending.specs.Tables.{IsDifatEntry, IsDifatLink}
use Rattle.cfb_mending.proofs.ChainWalk.{file-has, mark-below, missing-below}
use Rattle.cfb_mending.proofs.ListingFat.{listed-is, one-ended, one-listed, one-marked}
use Rattle.cfb_mending.proofs.InTables.{difat-entry, difat-link-word, difat-next, tables-more, tables-moved, word-patch}
use Rattle.cfb_mending.proofs.scan.Scan.list_behind.Goals as goal

pub returns-then-not-has_word-clause-mends : goal.returns-then-not-has_word-clause-mends
returns-then-not-has_word-clause-mends g c told table before =
    let version = c.args.bounds.version in
    let bytes = g.F.ReadMedium.bytes c.args.self.now.medium in
    tables-more version bytes table _ c.args.self.now.patches.items _ c.in_ok-set.ensures.added
    (word-patch version bytes table c.args.link _ (difat-link-word version bytes table c.args.link (c.requires.link told)) (inl refl)) before

pub returns-then-not-is_listed-clause-mends : goal.returns-then-not-is_listed-clause-mends
returns-then-not-is_listed-clause-mends g c told table before =
    let version = c.args.bounds.version in
    let bytes = g.F.ReadMedium.bytes c.args.self.now.medium in
    tables-more version bytes table _ c.args.self.now.patches.items _ c.in_ok-set-2.ensures.added
    (word-patch version bytes table c.args.link _ (difat-link-word version bytes table c.args.link (c.requires.link told)) (inl refl)) before

pub list_in-requires-clause-entries : goal.list_in-requires-clause-entries
list_in-requires-clause-entries g c told index below =
    let version = c.args.bounds.version in
    let bytes = g.F.ReadMedium.bytes c.args.self.now.medium in
    let low : c.in_ok-next.next ≤ 4294967290 = omega arith in
    let regular : is_regular c.in_ok-next.next ≡ true = grind (arith, nat_tests) in
    subst (λ (b : List ℕ). IsDifatEntry version b (c.place_in.result + 4 * index)) (sym (c.in_ok-next.ensures.same told))
    (difat-entry version bytes c.args.link c.in_ok-next.next index (c.place_in.result + 4 * index) (c.requires.link told) (sym (c.in_ok-next.ensures.ok told)) regular
    (omega (arith, below, c.words_in-count.ensures.is)) (omega (arith, c.place_in.ensures.is)))

pub returns-clause-link : goal.returns-clause-link
returns-clause-link g c told =
    let version = c.args.bounds.version in
    let bytes = g.F.ReadMedium.bytes c.args.self.now.medium in
    let next = c.in_ok-next.next in
    let low : next ≤ 4294967290 = omega arith in
    let regular : is_regular next ≡ true = grind (arith, nat_tests) in
    let e : c.place_in-2.result ≡ sector_start version next + 4 * (words_per_sector version - 1) =
    c.place_in-2.ensures.is ∙ ap (λ (n : ℕ). sector_start version next + 4 * (n - 1)) c.words_in-count.ensures.is in
    subst (λ (n : ℕ). IsDifatLink version bytes n) (sym e) (difat-next version bytes c.args.link next (c.requires.link told) (sym (c.in_ok-next.ensures.ok told)) regular)

pub returns-clause-mends : goal.returns-clause-mends
returns-clause-mends g c told table before =
    tables-moved c.args.bounds.version (g.F.ReadMedium.bytes c.word_at.new.medium) (g.F.ReadMedium.bytes c.args.self.now.medium) table _ _ (c.in_ok-next.ensures.same told)
    (c.in_ok-ends.ensures.mends told table) before

pub returns-then-not-has_word-clause-one : goal.returns-then-not-has_word-clause-one
returns-then-not-has_word-clause-one g c told file same len =
    let n = c.args.bounds.sectors in
    let at = c.args.link in
    let version = c.args.bounds.version in
    let lacks : has_word file at ≡ false = file-has at c.args.bounds.len file _ false c.has_word.ensures c.if-not-has_word.true len in
    one-marked version file n c.args.is_cut at c.args.fat.now.items c.args.self.now.patches.items _ (and_right (not c.args.is_cut) (leads_below n file at) (missing-below n file at lacks))
    (or_left (not (has_word file at)) (is_regular (word_at file at)) (ap not lacks)) c.in_ok-set.ensures.added

pub returns-then-next-gt-MAX_REGULAR_SECTOR-clause-one : goal.returns-then-next-gt-MAX_REGULAR_SECTOR-clause-one
returns-then-next-gt-MAX_REGULAR_SECTOR-clause-one g c told file same len =
    let n = c.args.bounds.sectors in
    let at = c.args.link in
    let version = c.args.bounds.version in
    let next = c.in_ok-next.next in
    let has : has_word file at ≡ true = file-has at c.args.bounds.len file _ true c.has_word.ensures c.if-not-has_word.false len in
    let named : word_at file at ≡ next = sym (c.in_ok-next.ensures.ok told ∙ ap (λ (b : List ℕ). word_at b at) same) in
    let mark : is_regular (word_at file at) ≡ false = ap is_regular named ∙ lt-leb next 4294967290 (omega (arith, c.if-next-gt-MAX_REGULAR_SECTOR.true)) in
    one-ended version file n c.args.is_cut at c.args.fat.now.items c.args.self.now.patches.items (and_right (not c.args.is_cut) (leads_below n file at) (mark-below n file at has mark))
    (or_from (not (has_word file at)) (is_regular (word_at file at)) (ap not has) mark)

pub returns-then-not-is_listed-clause-one : goal.returns-then-not-is_listed-clause-one
returns-then-not-is_listed-clause-one g c told file same len =
    let n = c.args.bounds.sectors in
    let at = c.args.link in
    let version = c.args.bounds.version in
    let next = c.in_ok-next.next in
    let has : has_word file at ≡ true = file-has at c.args.bounds.len file _ true c.has_word.ensures c.if-not-has_word.false len in
    let named : word_at file at ≡ next = sym (c.in_ok-next.ensures.ok told ∙ ap (λ (b : List ℕ). word_at b at) same) in
    let regular : is_regular next ≡ true = le-leb next 4294967290 (omega (arith, c.if-next-gt-MAX_REGULAR_SECTOR.false)) in
    one-marked version file n c.args.is_cut at c.args.fat.now.items c.args.self.now.patches.items _
    (listed-is n file at next c.args.is_cut c.is_listed.result false has named regular c.is_listed.ensures c.if-not-is_listed.true)
    (or_right (not (has_word file at)) (is_regular (word_at file at)) (ap is_regular named ∙ regular)) c.in_ok-set-2.ensures.added

pub returns-clause-one : goal.returns-clause-one
returns-clause-one g c told file same len =
    let n = c.args.bounds.sectors in
    let at = c.args.link in
    let version = c.args.bounds.version in
    let next = c.in_ok-next.next in
    let has : has_word file at ≡ true = file-has at c.args.bounds.len file _ true c.has_word.ensures c.if-not-has_word.false len in
    let named : word_at file at ≡ next = sym (c.in_ok-next.ensures.ok told ∙ ap (λ (b : List ℕ). word_at b at) same) in
    let regular : is_regular next ≡ true = le-leb next 4294967290 (omega (arith, c.if-next-gt-MAX_REGULAR_SECTOR.false)) in
    let later = c.in_ok-next.ensures.same told ∙ same in
    one-listed version file n c.args.is_cut at next c.place_in.result _ _ c.in_ok-ends.ends c.args.fat.now.items _ c.args.self.now.patches.items _
    (listed-is n file at next c.args.is_cut c.is_listed.result true has named regular c.is_listed.ensures c.if-not-is_listed.false) named
    (omega (arith, c.place_in.ensures.is)) (ap (λ (w : ℕ). w - 1) c.words_in-count.ensures.is) (c.place_in-2.ensures.is ∙ ap (λ (w : ℕ). sector_start version next + 4 * (w - 1)) c.words_in-count.ensures.is)
    (c.in_ok-ends.ensures.named told file later len) (c.in_ok-ends.ensures.patched told file later len) (c.in_ok-ends.ensures.ends told file later len)
