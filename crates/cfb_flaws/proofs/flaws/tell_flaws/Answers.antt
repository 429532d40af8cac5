use Rattle.std.proofs.Common.{◌≡◌, ℕ, List, length, sym, ◌∙◌, subst}
use Rattle.cfb_format.specs.Names.{Cases}
use Rattle.cfb_format.specs.Reading.{Reading, Reads}
use Rattle.cfb_flaws.specs.Owners.{AreKept}
use Rattle.cfb_flaws.specs.Telling.{ToldPast}
use Rattle.cfb_flaws.proofs.Pointing.{past-each}
use Rattle.cfb_flaws.proofs.flaws.tell_flaws.Goals as goal

pub returns-clause-told : goal.returns-clause-told
returns-clause-told g c = λ cases bytes r reads are raw.
    (c.in_ok-tell_past.ensures.told cases bytes r reads (record {
      parts = are;
      sectors = c.in_ok-sectors.ensures.exact cases bytes r reads are;
      mini_sectors = c.in_ok-mini_sectors.ensures.exact cases bytes r reads are;
      root = c.in_ok-root.ensures.root cases bytes r reads are;
    }) raw).truth
    (c.in_ok-tell_known.ensures.told cases bytes r reads (record {
      parts = are;
      sectors = c.in_ok-sectors.ensures.exact cases bytes r reads are;
      mini_sectors = c.in_ok-mini_sectors.ensures.exact cases bytes r reads are;
      root = c.in_ok-root.ensures.root cases bytes r reads are;
    }))

pub returns-clause-each : goal.returns-clause-each
returns-clause-each g c = λ cases bytes r reads are raw.
    past-each bytes r c.tell_known.new.found.items c.tell_past.new.found.items
    (c.in_ok-tell_known.ensures.each cases bytes r reads (record {
      parts = are;
      sectors = c.in_ok-sectors.ensures.exact cases bytes r reads are;
      mini_sectors = c.in_ok-mini_sectors.ensures.exact cases bytes r reads are;
      root = c.in_ok-root.ensures.root cases bytes r reads are;
    }))
    (subst (λ (xs : List ℕ). ToldPast bytes r 0 (length xs) c.tell_known.new.found.items c.tell_past.new.found.items) raw
    (c.in_ok-tell_past.ensures.told cases bytes r reads (record {
      parts = are;
      sectors = c.in_ok-sectors.ensures.exact cases bytes r reads are;
      mini_sectors = c.in_ok-mini_sectors.ensures.exact cases bytes r reads are;
      root = c.in_ok-root.ensures.root cases bytes r reads are;
    }) raw))
