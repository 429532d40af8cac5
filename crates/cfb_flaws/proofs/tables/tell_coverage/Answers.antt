use Rattle.std.proofs.Common.{◌≡◌, ◌≤◌, ℕ, List, length, arith}
use Rattle.cfb_flaws.specs.declared.flaw.Flaw.TheVariants.{TooFewWords}
use Rattle.cfb_flaws.specs.Flaws.{Covers, on_covers}
use Rattle.cfb_flaws.proofs.Covering.{covers-all, covers-few}
use Rattle.cfb_flaws.proofs.Tellings.{told-one, told-same}
use Rattle.cfb_flaws.proofs.tables.tell_coverage.Goals as goal

pub returns-then-words-sectors-clause-told : goal.returns-then-words-sectors-clause-told
returns-then-words-sectors-clause-told g c = λ cases bytes r reads knows.
    told-same bytes r on_covers (Covers bytes r) c.args.found.now.items
    (covers-all c.args.known.now cases bytes r reads knows c.words_per_sector-words_in.result c.saturating_mul-words.result c.words_per_sector-words_in.ensures c.saturating_mul-words.ensures
    (omega (arith, c.if-words-sectors.true)))

pub returns-clause-told : goal.returns-clause-told
returns-clause-told g c = λ cases bytes r reads knows.
    rw c.in_ok-push.ensures.items
    (told-one bytes r (Covers bytes r) c.args.found.now.items (TooFewWords c.saturating_mul-words.result (length c.args.known.now.parts.now.fat.now))
    (covers-few c.args.known.now cases bytes r reads knows c.words_per_sector-words_in.result c.saturating_mul-words.result c.words_per_sector-words_in.ensures c.saturating_mul-words.ensures
    (omega (arith, c.if-words-sectors.false))))
