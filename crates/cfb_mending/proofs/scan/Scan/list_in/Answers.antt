use Rattle.std.proofs.Common.{[], ◌∷◌, ◌≡◌, ◌<◌, ◌+◌, ◌-◌, ◌*◌, ◌++◌, ℕ, List, IsTrue, false, true, inr, refl, sym, ◌∙◌, ap, arith}
use Rattle.std.specs.Prelude.{nat_lt}
use Rattle.std.proofs.lemmas.Bool.{le-leb, lt-leb}
use Rattle.std.proofs.lemmas.List.Elements.{All-same}
use Rattle.cfb_format.specs.Bytes.{is_regular, word_at}
use Rattle.cfb_mending.specs.declared.patches.Patch.{Patch}
use Rattle.cfb_mending.specs.Listing.{is_named_cut, named_from, named_patches}
use Rattle.cfb_mending.specs.Missing.{has_word}
use Rattle.cfb_mending.specs.Tables.{IsInTables}
use Rattle.cfb_mending.proofs.ChainWalk.{file-has, list-ends, mark-below, missing-below}
use Rattle.cfb_mending.proofs.InTables.{entries-patch, fat-more, tables-more}
use Rattle.cfb_mending.proofs.ListingFat.{cut-here, cut-more, cut-spent, entry-mark, entry-missing, entry-past, freed-here, freed-more, freed-not, freed-spent, is-below, named-ends, named-more, named-spent, not-below, nothing-then}
use Rattle.cfb_mending.proofs.scan.Scan.list_in.Goals as goal

pub returns-then-not-has_word-clause-mends : goal.returns-then-not-has_word-clause-mends
returns-then-not-has_word-clause-mends g c told table before =
    let bytes = g.F.ReadMedium.bytes c.args.self.now.medium in
    tables-more c.args.bounds.version bytes table _ c.loop-index.self.patches.items _ c.in_ok-set.ensures.added
    (entries-patch c.args.bounds.version bytes table c.args.at c.args.count c.loop-index.index _ _ _ (c.requires.entries told) refl refl (inr refl))
    (All-same (IsInTables c.args.bounds.version bytes table) _ _ c.loop-index.invariant.stays before)

pub returns-then-not-has-clause-mends : goal.returns-then-not-has-clause-mends
returns-then-not-has-clause-mends g c told table before =
    let bytes = g.F.ReadMedium.bytes c.args.self.now.medium in
    tables-more c.args.bounds.version bytes table _ c.loop-index.self.patches.items _ c.in_ok-set-2.ensures.added
    (entries-patch c.args.bounds.version bytes table c.args.at c.args.count c.loop-index.index _ _ _ (c.requires.entries told) refl refl (inr refl))
    (All-same (IsInTables c.args.bounds.version bytes table) _ _ c.loop-index.invariant.stays before)

pub returns-then-word-gt-MAX_REGULAR_SECTOR-clause-mends : goal.returns-then-word-gt-MAX_REGULAR_SECTOR-clause-mends
returns-then-word-gt-MAX_REGULAR_SECTOR-clause-mends g c told table before =
    All-same (IsInTables c.args.bounds.version (g.F.ReadMedium.bytes c.args.self.now.medium) table) _ _ c.loop-index.invariant.stays before

pub returns-clause-mends : goal.returns-clause-mends
returns-clause-mends g c told table before = All-same (IsInTables c.args.bounds.version (g.F.ReadMedium.bytes c.args.self.now.medium) table) _ _ c.loop-index.invariant.stays before

pub loop-index-init : goal.loop-index-init
loop-index-init g c =
    let n = c.args.bounds.sectors in
    let first : c.args.at + 4 * 0 ≡ c.args.at = omega arith in
    let all : c.args.count - 0 ≡ c.args.count = omega arith in
    record {
      same = λ told. refl;
      stays = refl;
      listed = λ told before. before;
      named = λ told file same len. λ j. c.args.fat.now.items ++ named_from n file (first j) (all j);
      patched = λ told file same len. λ j. named_patches n file (first j) (all j);
      ends = λ told file same len. λ j. is_named_cut n file (first j) (all j);
    }

pub loop-index-preserved : goal.loop-index-preserved
loop-index-preserved g c =
    let loop = c.loop-index.invariant in
    let version = c.args.bounds.version in
    let bytes = g.F.ReadMedium.bytes c.args.self.now.medium in
    let n = c.args.bounds.sectors in
    let i = c.loop-index.index in
    let at : ℕ = c.args.at + 4 * i in
    let word = c.in_ok-word.word in
    let below : i < c.args.count = c.loop-index-test.true in
    let named : IsTrue g.F.ReadMedium.tells → word_at bytes at ≡ word =
    λ told. sym (c.in_ok-word.ensures.ok told ∙ ap (λ (b : List ℕ). word_at b at) (loop.same told)) in
    let regular : is_regular word ≡ true = le-leb word 4294967290 (omega (arith, c.if-word-gt-MAX_REGULAR_SECTOR.false)) in
    let known : nat_lt word n ≡ true = sym c.has.ensures ∙ c.if-not-has.false in
    record {
      same = λ told. c.in_ok-word.ensures.same told ∙ loop.same told;
      stays = loop.stays;
      listed = λ told before.
          fat-more version bytes at word c.loop-index.fat.items _ c.in_ok-push.ensures.items (c.requires.entries told i below) (named told) (loop.listed told before);
      named = λ told file same len.
          let has : has_word file at ≡ true = file-has at c.args.bounds.len file _ true c.has_word.ensures c.if-not-has_word.false len in
          let here : word_at file at ≡ word = sym (c.in_ok-word.ensures.ok told ∙ ap (λ (b : List ℕ). word_at b at) (loop.same told ∙ same)) in
          named-more n file c.args.at i c.args.count below word c.loop-index.fat.items _ _ (is-below n file at word has here regular known) here c.in_ok-push.ensures.items (loop.named told file same len);
      patched = λ told file same len.
          let has : has_word file at ≡ true = file-has at c.args.bounds.len file _ true c.has_word.ensures c.if-not-has_word.false len in
          let here : word_at file at ≡ word = sym (c.in_ok-word.ensures.ok told ∙ ap (λ (b : List ℕ). word_at b at) (loop.same told ∙ same)) in
          freed-more n file c.args.at i c.args.count below _ (is-below n file at word has here regular known) (loop.patched told file same len);
      ends = λ told file same len.
          let has : has_word file at ≡ true = file-has at c.args.bounds.len file _ true c.has_word.ensures c.if-not-has_word.false len in
          let here : word_at file at ≡ word = sym (c.in_ok-word.ensures.ok told ∙ ap (λ (b : List ℕ). word_at b at) (loop.same told ∙ same)) in
          cut-more n file c.args.at i c.args.count below _ (is-below n file at word has here regular known) (loop.ends told file same len);
    }

pub returns-then-not-has_word-clause-named : goal.returns-then-not-has_word-clause-named
returns-then-not-has_word-clause-named g c told file same len =
    let loop = c.loop-index.invariant in
    let n = c.args.bounds.sectors in
    let i = c.loop-index.index in
    let at : ℕ = c.args.at + 4 * i in
    let lacks : has_word file at ≡ false = file-has at c.args.bounds.len file _ false c.has_word.ensures c.if-not-has_word.true len in
    list-ends _ _ _ (named-ends n file at (c.args.count - i) (missing-below n file at lacks)) (loop.named told file same len)

pub returns-then-not-has_word-clause-patched : goal.returns-then-not-has_word-clause-patched
returns-then-not-has_word-clause-patched g c told file same len =
    let loop = c.loop-index.invariant in
    let n = c.args.bounds.sectors in
    let i = c.loop-index.index in
    let at : ℕ = c.args.at + 4 * i in
    let lacks : has_word file at ≡ false = file-has at c.args.bounds.len file _ false c.has_word.ensures c.if-not-has_word.true len in
    c.in_ok-set.ensures.added ∙ ap (λ (l : List Patch). l ++ record { at = at; «end» = c.args.at + 4 * c.args.count; word = 4294967295 } ∷ []) loop.stays
    ∙ ap (λ (l : List Patch). c.args.self.now.patches.items ++ l) (freed-here n file c.args.at i c.args.count c.loop-index-test.true _ _ (missing-below n file at lacks) (entry-missing n file at lacks) refl (loop.patched told file same len))

pub returns-then-not-has_word-clause-ends : goal.returns-then-not-has_word-clause-ends
returns-then-not-has_word-clause-ends g c told file same len =
    let loop = c.loop-index.invariant in
    let n = c.args.bounds.sectors in
    let i = c.loop-index.index in
    let at : ℕ = c.args.at + 4 * i in
    let lacks : has_word file at ≡ false = file-has at c.args.bounds.len file _ false c.has_word.ensures c.if-not-has_word.true len in
    cut-here n file c.args.at i c.args.count c.loop-index-test.true _ _ (missing-below n file at lacks) (entry-missing n file at lacks) (loop.ends told file same len)

pub returns-then-word-gt-MAX_REGULAR_SECTOR-clause-named : goal.returns-then-word-gt-MAX_REGULAR_SECTOR-clause-named
returns-then-word-gt-MAX_REGULAR_SECTOR-clause-named g c told file same len =
    let loop = c.loop-index.invariant in
    let n = c.args.bounds.sectors in
    let i = c.loop-index.index in
    let at : ℕ = c.args.at + 4 * i in
    let word = c.in_ok-word.word in
    let has : has_word file at ≡ true = file-has at c.args.bounds.len file _ true c.has_word.ensures c.if-not-has_word.false len in
    let named : word_at file at ≡ word = sym (c.in_ok-word.ensures.ok told ∙ ap (λ (b : List ℕ). word_at b at) (loop.same told ∙ same)) in
    let mark : is_regular word ≡ false = lt-leb word 4294967290 (omega (arith, c.if-word-gt-MAX_REGULAR_SECTOR.true)) in
    list-ends _ _ _ (named-ends n file at (c.args.count - i) (mark-below n file at has (ap is_regular named ∙ mark))) (loop.named told file same len)

pub returns-then-word-gt-MAX_REGULAR_SECTOR-clause-patched : goal.returns-then-word-gt-MAX_REGULAR_SECTOR-clause-patched
returns-then-word-gt-MAX_REGULAR_SECTOR-clause-patched g c told file same len =
    let loop = c.loop-index.invariant in
    let n = c.args.bounds.sectors in
    let i = c.loop-index.index in
    let at : ℕ = c.args.at + 4 * i in
    let word = c.in_ok-word.word in
    let has : has_word file at ≡ true = file-has at c.args.bounds.len file _ true c.has_word.ensures c.if-not-has_word.false len in
    let named : word_at file at ≡ word = sym (c.in_ok-word.ensures.ok told ∙ ap (λ (b : List ℕ). word_at b at) (loop.same told ∙ same)) in
    let mark : is_regular word ≡ false = lt-leb word 4294967290 (omega (arith, c.if-word-gt-MAX_REGULAR_SECTOR.true)) in
    nothing-then c.args.self.now.patches.items _ _ loop.stays
    (freed-not n file c.args.at i c.args.count c.loop-index-test.true _ (mark-below n file at has (ap is_regular named ∙ mark)) (entry-mark n file at word has named mark) (loop.patched told file same len))

pub returns-then-word-gt-MAX_REGULAR_SECTOR-clause-ends : goal.returns-then-word-gt-MAX_REGULAR_SECTOR-clause-ends
returns-then-word-gt-MAX_REGULAR_SECTOR-clause-ends g c told file same len =
    let loop = c.loop-index.invariant in
    let n = c.args.bounds.sectors in
    let i = c.loop-index.index in
    let at : ℕ = c.args.at + 4 * i in
    let word = c.in_ok-word.word in
    let has : has_word file at ≡ true = file-has at c.args.bounds.len file _ true c.has_word.ensures c.if-not-has_word.false len in
    let named : word_at file at ≡ word = sym (c.in_ok-word.ensures.ok told ∙ ap (λ (b : List ℕ). word_at b at) (loop.same told ∙ same)) in
    let mark : is_regular word ≡ false = lt-leb word 4294967290 (omega (arith, c.if-word-gt-MAX_REGULAR_SECTOR.true)) in
    cut-here n file c.args.at i c.args.count c.loop-index-test.true _ _ (mark-below n file at has (ap is_regular named ∙ mark)) (entry-mark n file at word has named mark) (loop.ends told file same len)

pub returns-then-not-has-clause-named : goal.returns-then-not-has-clause-named
returns-then-not-has-clause-named g c told file same len =
    let loop = c.loop-index.invariant in
    let n = c.args.bounds.sectors in
    let i = c.loop-index.index in
    let at : ℕ = c.args.at + 4 * i in
    let word = c.in_ok-word.word in
    let has : has_word file at ≡ true = file-has at c.args.bounds.len file _ true c.has_word.ensures c.if-not-has_word.false len in
    let named : word_at file at ≡ word = sym (c.in_ok-word.ensures.ok told ∙ ap (λ (b : List ℕ). word_at b at) (loop.same told ∙ same)) in
    let regular : is_regular word ≡ true = le-leb word 4294967290 (omega (arith, c.if-word-gt-MAX_REGULAR_SECTOR.false)) in
    let past = sym c.has.ensures ∙ c.if-not-has.true in
    list-ends _ _ _ (named-ends n file at (c.args.count - i) (not-below n file at word has named regular past)) (loop.named told file same len)

pub returns-then-not-has-clause-patched : goal.returns-then-not-has-clause-patched
returns-then-not-has-clause-patched g c told file same len =
    let loop = c.loop-index.invariant in
    let n = c.args.bounds.sectors in
    let i = c.loop-index.index in
    let at : ℕ = c.args.at + 4 * i in
    let word = c.in_ok-word.word in
    let has : has_word file at ≡ true = file-has at c.args.bounds.len file _ true c.has_word.ensures c.if-not-has_word.false len in
    let named : word_at file at ≡ word = sym (c.in_ok-word.ensures.ok told ∙ ap (λ (b : List ℕ). word_at b at) (loop.same told ∙ same)) in
    let regular : is_regular word ≡ true = le-leb word 4294967290 (omega (arith, c.if-word-gt-MAX_REGULAR_SECTOR.false)) in
    let past = sym c.has.ensures ∙ c.if-not-has.true in
    c.in_ok-set-2.ensures.added ∙ ap (λ (l : List Patch). l ++ record { at = at; «end» = c.args.at + 4 * c.args.count; word = 4294967295 } ∷ []) loop.stays
    ∙ ap (λ (l : List Patch). c.args.self.now.patches.items ++ l)
    (freed-here n file c.args.at i c.args.count c.loop-index-test.true _ _ (not-below n file at word has named regular past) (entry-past n file at word has named regular past) refl (loop.patched told file same len))

pub returns-then-not-has-clause-ends : goal.returns-then-not-has-clause-ends
returns-then-not-has-clause-ends g c told file same len =
    let loop = c.loop-index.invariant in
    let n = c.args.bounds.sectors in
    let i = c.loop-index.index in
    let at : ℕ = c.args.at + 4 * i in
    let word = c.in_ok-word.word in
    let has : has_word file at ≡ true = file-has at c.args.bounds.len file _ true c.has_word.ensures c.if-not-has_word.false len in
    let named : word_at file at ≡ word = sym (c.in_ok-word.ensures.ok told ∙ ap (λ (b : List ℕ). word_at b at) (loop.same told ∙ same)) in
    let regular : is_regular word ≡ true = le-leb word 4294967290 (omega (arith, c.if-word-gt-MAX_REGULAR_SECTOR.false)) in
    let past = sym c.has.ensures ∙ c.if-not-has.true in
    cut-here n file c.args.at i c.args.count c.loop-index-test.true _ _ (not-below n file at word has named regular past) (entry-past n file at word has named regular past) (loop.ends told file same len)

pub returns-clause-named : goal.returns-clause-named
returns-clause-named g c told file same len =
    let loop = c.loop-index.invariant in
    let n = c.args.bounds.sectors in
    let i = c.loop-index.index in
    let at : ℕ = c.args.at + 4 * i in
    list-ends _ _ _ (named-spent n file at (c.args.count - i) (omega (arith, c.loop-index-test.false))) (loop.named told file same len)

pub returns-clause-patched : goal.returns-clause-patched
returns-clause-patched g c told file same len =
    let loop = c.loop-index.invariant in
    let n = c.args.bounds.sectors in
    let i = c.loop-index.index in
    let at : ℕ = c.args.at + 4 * i in
    nothing-then c.args.self.now.patches.items _ _ loop.stays (sym (freed-spent n file at (c.args.count - i) (omega (arith, c.loop-index-test.false))) ∙ loop.patched told file same len)

pub returns-clause-ends : goal.returns-clause-ends
returns-clause-ends g c told file same len =
    let loop = c.loop-index.invariant in
    let n = c.args.bounds.sectors in
    let i = c.loop-index.index in
    let at : ℕ = c.args.at + 4 * i in
    sym (cut-spent n file at (c.args.count - i) (omega (arith, c.loop-index-test.false))) ∙ loop.ends told file same len
