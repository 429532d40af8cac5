use Rattle.std.proofs.Common.{◌≡◌, ◌+◌, ◌-◌, ◌++◌, ℕ, List, IsTrue, true, false, inl, refl, sym, ◌∙◌, ap, arith}
use Rattle.std.specs.Prelude.{None, Some}
use Rattle.std.proofs.lemmas.Bool.{le-leb, lt-leb}
use Rattle.std.proofs.lemmas.List.Elements.{All-nil, All-same}
use Rattle.cfb_format.specs.Bytes.{is_regular, word_at}
use Rattle.cfb_mending.specs.Missing.{chain_from, chain_patches, has_word, known_of}
use Rattle.cfb_mending.specs.Tables.{IsOnChain}
use Rattle.cfb_mending.proofs.InTables.{chain-first, chain-more, chain-next, fat-word, start-bound, start-word, tables-more, word-patch}
use Rattle.cfb_mending.proofs.ChainWalk.{chain-ends, chain-nowhere, chain-spent, file-has, link-mark, link-more, link-past, list-ends, marks-end, marks-nowhere, marks-spent, missing-below, missing-past, sector-mark, sector-more, sector-past}
use Rattle.cfb_mending.proofs.scan.Scan.mend_chain.Goals as goal

pub loop-turn-init : goal.loop-turn-init
loop-turn-init g c =
    let version = c.args.tables.now.bounds.version in
    let bytes = g.F.ReadMedium.bytes c.args.self.now.medium in
    let fat = c.args.tables.now.fat.items in
    let m = c.args.tables.now.bounds.sectors in
    let known = known_of version m fat in
    let all : m - 0 ≡ m = omega arith in
    record {
      bound = start-bound c.args.start_at c.requires;
      same = λ told. refl;
      link = λ told. chain-first version bytes fat c.args.start_at;
      word = λ told. start-word version bytes fat c.args.start_at c.requires;
      chain = λ told. All-same (IsOnChain version bytes fat c.args.start_at) _ _ c.new-chain.ensures.items (All-nil (IsOnChain version bytes fat c.args.start_at));
      mends = λ told before. before;
      exact = λ told file same len.
          ap (λ (l : List ℕ). l ++ chain_from version file fat known (m - 0) (Some c.args.start_at)) c.new-chain.ensures.items
          ∙ ap (λ (n : ℕ). chain_from version file fat known n (Some c.args.start_at)) all;
      ends = λ told file same len. ap (λ (n : ℕ). c.args.self.now.patches.items ++ chain_patches version file fat known n (Some c.args.start_at)) all;
    }

pub returns-then-is_missing-clause-mends : goal.returns-then-is_missing-clause-mends
returns-then-is_missing-clause-mends g c told before =
    let loop = c.loop-turn.invariant in
    let version = c.args.tables.now.bounds.version in
    let bytes = g.F.ReadMedium.bytes c.args.self.now.medium in
    let fat = c.args.tables.now.fat.items in
    tables-more version bytes fat _ c.loop-turn.self.patches.items _ c.in_ok-set.ensures.added
    (word-patch version bytes fat c.loop-turn.at _ (loop.word told) (inl refl)) (loop.mends told before)

pub returns-in_default-clause-chain : goal.returns-in_default-clause-chain
returns-in_default-clause-chain g c told =
    let loop = c.loop-turn.invariant in
    let version = c.args.tables.now.bounds.version in
    let bytes = g.F.ReadMedium.bytes c.args.self.now.medium in
    let fat = c.args.tables.now.fat.items in
    let word = c.in_ok-word.word in
    let named : word_at bytes c.loop-turn.at ≡ word = sym (c.in_ok-word.ensures.ok told ∙ ap (λ (b : List ℕ). word_at b c.loop-turn.at) (loop.same told)) in
    chain-more version bytes fat c.args.start_at c.loop-turn.at word c.loop-turn.chain.items _ c.in_ok-push.ensures.items (loop.link told) named (loop.chain told)

pub loop-turn-preserved : goal.loop-turn-preserved
loop-turn-preserved g c =
    let loop = c.loop-turn.invariant in
    let version = c.args.tables.now.bounds.version in
    let bytes = g.F.ReadMedium.bytes c.args.self.now.medium in
    let fat = c.args.tables.now.fat.items in
    let word = c.in_ok-word.word in
    let at = c.loop-turn.at in
    let m = c.args.tables.now.bounds.sectors in
    let known = known_of version m fat in
    let regular : is_regular word ≡ true = le-leb word 4294967290 (omega (arith, c.if-word-gt-MAX_REGULAR_SECTOR.false)) in
    let named : IsTrue g.F.ReadMedium.tells → word_at bytes c.loop-turn.at ≡ word =
    λ told. sym (c.in_ok-word.ensures.ok told ∙ ap (λ (b : List ℕ). word_at b c.loop-turn.at) (loop.same told)) in
    record {
      bound = c.in-Some.ensures.bound;
      same = λ told. c.in_ok-word.ensures.same told ∙ loop.same told;
      link = λ told. chain-next version bytes fat c.args.start_at c.loop-turn.at word c.in-Some.place (loop.link told) (named told) (sym c.in-Some.ensures.is);
      word = λ told. fat-word version bytes fat word c.in-Some.place (sym c.in-Some.ensures.is);
      chain = λ told.
          chain-more version bytes fat c.args.start_at c.loop-turn.at word c.loop-turn.chain.items _ c.in_ok-push.ensures.items (loop.link told) (named told) (loop.chain told);
      mends = loop.mends;
      exact = λ told file same len.
          let here : word_at file at ≡ word = sym (c.in_ok-word.ensures.ok told ∙ ap (λ (b : List ℕ). word_at b at) (loop.same told ∙ same)) in
          let has : has_word file at ≡ true = file-has at c.args.tables.now.bounds.len file _ true c.has_word.ensures c.if-not-has_word.false len in
          sector-more version file fat known m c.loop-turn._turn at word c.loop-turn-test.true has here c.loop-turn.chain.items _ _ (Some c.in-Some.place) regular
          (sym c.is_missing.ensures ∙ c.if-is_missing.false) (sym c.in-Some.ensures.is) c.in_ok-push.ensures.items (loop.exact told file same len);
      ends = λ told file same len.
          let here : word_at file at ≡ word = sym (c.in_ok-word.ensures.ok told ∙ ap (λ (b : List ℕ). word_at b at) (loop.same told ∙ same)) in
          let has : has_word file at ≡ true = file-has at c.args.tables.now.bounds.len file _ true c.has_word.ensures c.if-not-has_word.false len in
          link-more version file fat known m c.loop-turn._turn at word c.loop-turn-test.true has here c.loop-turn.self.patches.items _ (Some c.in-Some.place) regular
          (sym c.is_missing.ensures ∙ c.if-is_missing.false) (sym c.in-Some.ensures.is) (loop.ends told file same len);
    }

pub returns-then-not-has_word-clause-exact : goal.returns-then-not-has_word-clause-exact
returns-then-not-has_word-clause-exact g c told file same len =
    let loop = c.loop-turn.invariant in
    let version = c.args.tables.now.bounds.version in
    let fat = c.args.tables.now.fat.items in
    let m = c.args.tables.now.bounds.sectors in
    let known = known_of version m fat in
    let at = c.loop-turn.at in
    list-ends _ _ _
    (chain-ends version file fat known (m - c.loop-turn._turn) at (missing-below known file at (file-has at c.args.tables.now.bounds.len file _ false c.has_word.ensures c.if-not-has_word.true len)))
    (loop.exact told file same len)

pub returns-then-not-has_word-clause-ends : goal.returns-then-not-has_word-clause-ends
returns-then-not-has_word-clause-ends g c told file same len =
    let loop = c.loop-turn.invariant in
    let version = c.args.tables.now.bounds.version in
    let fat = c.args.tables.now.fat.items in
    let m = c.args.tables.now.bounds.sectors in
    let known = known_of version m fat in
    let at = c.loop-turn.at in
    let lacks : has_word file at ≡ false = file-has at c.args.tables.now.bounds.len file _ false c.has_word.ensures c.if-not-has_word.true len in
    list-ends _ _ _ (marks-end version file fat known (m - c.loop-turn._turn) at (missing-below known file at lacks) (missing-past known file at lacks)) (loop.ends told file same len)

pub returns-then-word-gt-MAX_REGULAR_SECTOR-clause-exact : goal.returns-then-word-gt-MAX_REGULAR_SECTOR-clause-exact
returns-then-word-gt-MAX_REGULAR_SECTOR-clause-exact g c told file same len =
    let loop = c.loop-turn.invariant in
    let version = c.args.tables.now.bounds.version in
    let fat = c.args.tables.now.fat.items in
    let m = c.args.tables.now.bounds.sectors in
    let known = known_of version m fat in
    let at = c.loop-turn.at in
    let word = c.in_ok-word.word in
    let named : word_at file at ≡ word = sym (c.in_ok-word.ensures.ok told ∙ ap (λ (b : List ℕ). word_at b at) (loop.same told ∙ same)) in
    let has : has_word file at ≡ true = file-has at c.args.tables.now.bounds.len file _ true c.has_word.ensures c.if-not-has_word.false len in
    sector-mark version file fat known m c.loop-turn._turn at word c.loop-turn-test.true has named _ _ (lt-leb word 4294967290 (omega (arith, c.if-word-gt-MAX_REGULAR_SECTOR.true))) (loop.exact told file same len)

pub returns-then-word-gt-MAX_REGULAR_SECTOR-clause-ends : goal.returns-then-word-gt-MAX_REGULAR_SECTOR-clause-ends
returns-then-word-gt-MAX_REGULAR_SECTOR-clause-ends g c told file same len =
    let loop = c.loop-turn.invariant in
    let version = c.args.tables.now.bounds.version in
    let fat = c.args.tables.now.fat.items in
    let m = c.args.tables.now.bounds.sectors in
    let known = known_of version m fat in
    let at = c.loop-turn.at in
    let word = c.in_ok-word.word in
    let named : word_at file at ≡ word = sym (c.in_ok-word.ensures.ok told ∙ ap (λ (b : List ℕ). word_at b at) (loop.same told ∙ same)) in
    let has : has_word file at ≡ true = file-has at c.args.tables.now.bounds.len file _ true c.has_word.ensures c.if-not-has_word.false len in
    link-mark version file fat known m c.loop-turn._turn at word c.loop-turn-test.true has named _ _ (lt-leb word 4294967290 (omega (arith, c.if-word-gt-MAX_REGULAR_SECTOR.true))) (loop.ends told file same len)

pub returns-then-is_missing-clause-exact : goal.returns-then-is_missing-clause-exact
returns-then-is_missing-clause-exact g c told file same len =
    let loop = c.loop-turn.invariant in
    let version = c.args.tables.now.bounds.version in
    let fat = c.args.tables.now.fat.items in
    let m = c.args.tables.now.bounds.sectors in
    let known = known_of version m fat in
    let at = c.loop-turn.at in
    let word = c.in_ok-word.word in
    let named : word_at file at ≡ word = sym (c.in_ok-word.ensures.ok told ∙ ap (λ (b : List ℕ). word_at b at) (loop.same told ∙ same)) in
    let has : has_word file at ≡ true = file-has at c.args.tables.now.bounds.len file _ true c.has_word.ensures c.if-not-has_word.false len in
    sector-past version file fat known m c.loop-turn._turn at word c.loop-turn-test.true has named _ _ (sym c.is_missing.ensures ∙ c.if-is_missing.true) (loop.exact told file same len)

pub returns-then-is_missing-clause-ends : goal.returns-then-is_missing-clause-ends
returns-then-is_missing-clause-ends g c told file same len =
    let loop = c.loop-turn.invariant in
    let version = c.args.tables.now.bounds.version in
    let fat = c.args.tables.now.fat.items in
    let m = c.args.tables.now.bounds.sectors in
    let known = known_of version m fat in
    let at = c.loop-turn.at in
    let word = c.in_ok-word.word in
    let named : word_at file at ≡ word = sym (c.in_ok-word.ensures.ok told ∙ ap (λ (b : List ℕ). word_at b at) (loop.same told ∙ same)) in
    let has : has_word file at ≡ true = file-has at c.args.tables.now.bounds.len file _ true c.has_word.ensures c.if-not-has_word.false len in
    link-past version file fat known m c.loop-turn._turn at word c.loop-turn-test.true has named c.loop-turn.self.patches.items _ _ (sym c.is_missing.ensures ∙ c.if-is_missing.true)
    c.in_ok-set.ensures.added (loop.ends told file same len)

pub returns-in_default-clause-exact : goal.returns-in_default-clause-exact
returns-in_default-clause-exact g c told file same len =
    let loop = c.loop-turn.invariant in
    let version = c.args.tables.now.bounds.version in
    let fat = c.args.tables.now.fat.items in
    let m = c.args.tables.now.bounds.sectors in
    let known = known_of version m fat in
    let at = c.loop-turn.at in
    let word = c.in_ok-word.word in
    let named : word_at file at ≡ word = sym (c.in_ok-word.ensures.ok told ∙ ap (λ (b : List ℕ). word_at b at) (loop.same told ∙ same)) in
    let has : has_word file at ≡ true = file-has at c.args.tables.now.bounds.len file _ true c.has_word.ensures c.if-not-has_word.false len in
    list-ends _ _ _ (chain-nowhere version file fat known (m - (c.loop-turn._turn + 1)))
    (sector-more version file fat known m c.loop-turn._turn at word c.loop-turn-test.true has named c.loop-turn.chain.items _ _ None (le-leb word 4294967290 (omega (arith, c.if-word-gt-MAX_REGULAR_SECTOR.false)))
    (sym c.is_missing.ensures ∙ c.if-is_missing.false) (sym c.in_default.ensures.is) c.in_ok-push.ensures.items (loop.exact told file same len))

pub returns-in_default-clause-ends : goal.returns-in_default-clause-ends
returns-in_default-clause-ends g c told file same len =
    let loop = c.loop-turn.invariant in
    let version = c.args.tables.now.bounds.version in
    let fat = c.args.tables.now.fat.items in
    let m = c.args.tables.now.bounds.sectors in
    let known = known_of version m fat in
    let at = c.loop-turn.at in
    let word = c.in_ok-word.word in
    let named : word_at file at ≡ word = sym (c.in_ok-word.ensures.ok told ∙ ap (λ (b : List ℕ). word_at b at) (loop.same told ∙ same)) in
    let has : has_word file at ≡ true = file-has at c.args.tables.now.bounds.len file _ true c.has_word.ensures c.if-not-has_word.false len in
    list-ends _ _ _ (marks-nowhere version file fat known (m - (c.loop-turn._turn + 1)))
    (link-more version file fat known m c.loop-turn._turn at word c.loop-turn-test.true has named c.loop-turn.self.patches.items _ None (le-leb word 4294967290 (omega (arith, c.if-word-gt-MAX_REGULAR_SECTOR.false)))
    (sym c.is_missing.ensures ∙ c.if-is_missing.false) (sym c.in_default.ensures.is) (loop.ends told file same len))

pub returns-clause-exact : goal.returns-clause-exact
returns-clause-exact g c told file same len =
    let loop = c.loop-turn.invariant in
    let version = c.args.tables.now.bounds.version in
    let fat = c.args.tables.now.fat.items in
    let m = c.args.tables.now.bounds.sectors in
    let known = known_of version m fat in
    let at = c.loop-turn.at in
    list-ends _ _ _ (chain-spent version file fat known (m - c.loop-turn._turn) (Some at) (omega (arith, c.loop-turn-test.false))) (loop.exact told file same len)

pub returns-clause-ends : goal.returns-clause-ends
returns-clause-ends g c told file same len =
    let loop = c.loop-turn.invariant in
    let version = c.args.tables.now.bounds.version in
    let fat = c.args.tables.now.fat.items in
    let m = c.args.tables.now.bounds.sectors in
    let known = known_of version m fat in
    let at = c.loop-turn.at in
    list-ends _ _ _ (marks-spent version file fat known (m - c.loop-turn._turn) (Some at) (omega (arith, c.loop-turn-test.false))) (loop.ends told file same len)
