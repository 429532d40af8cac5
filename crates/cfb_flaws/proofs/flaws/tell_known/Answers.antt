use Rattle.std.proofs.Common.{◌≡◌, ℕ, List, [], nat_eq, sym, subst}
use Rattle.std.specs.Prelude.{All, IsSome}
use Rattle.std.specs.List.{IsDistinct}
use Rattle.cfb_format.specs.Content.{mini_stream_chain}
use Rattle.cfb_format.specs.Soundness.{used_mini_sectors, used_sectors}
use Rattle.cfb_flaws.specs.declared.flaw.Flaw.{Flaw}
use Rattle.cfb_flaws.specs.Each.{AreWhole, HaveChains}
use Rattle.cfb_flaws.specs.Flaws.{Covers, HasRoom, Holds, on_chains, on_covers, on_loose, on_mini_loose, on_mini_room, on_mini_sectors, on_mini_stream, on_sectors, on_whole}
use Rattle.cfb_flaws.proofs.Growing.{none-told}
use Rattle.cfb_flaws.proofs.flaws.tell_known.Goals as goal

pub returns-clause-told : goal.returns-clause-told
returns-clause-told g c = λ cases bytes r reads knows.
    let none : All (Holds bytes r) c.args.found.now.items = subst (All (Holds bytes r)) (sym c.requires) (none-told bytes r) in
    (c.in_ok-tell_rest.ensures.room cases bytes r reads knows).truth
    ((c.in_ok-tell_chains.ensures.chains cases bytes r reads knows).truth ((c.in_ok-tell_uses.ensures.covers cases bytes r reads knows).truth none))

pub returns-clause-each : goal.returns-clause-each
returns-clause-each g c = λ cases bytes r reads knows.
    let rest = c.in_ok-tell_rest.ensures.room cases bytes r reads knows in
    let chains = c.in_ok-tell_chains.ensures.chains cases bytes r reads knows in
    record {
      covers = λ n. (c.in_ok-tell_uses.ensures.covers cases bytes r reads knows).answers (chains.kept on_covers (rest.kept on_covers n));
      mini_stream = λ n. (c.in_ok-tell_chains.ensures.mini_stream cases bytes r reads knows).answers (rest.kept on_mini_stream n);
      chains = λ n. chains.answers (rest.kept on_chains n);
      sectors = λ n. (c.in_ok-tell_uses.ensures.sectors cases bytes r reads knows).answers (chains.kept on_sectors (rest.kept on_sectors n));
      mini_sectors = λ n. (c.in_ok-tell_uses.ensures.mini_sectors cases bytes r reads knows).answers (chains.kept on_mini_sectors (rest.kept on_mini_sectors n));
      mini_room = λ n. rest.answers n;
      loose = λ n. (c.in_ok-tell_rest.ensures.loose cases bytes r reads knows).answers n;
      mini_loose = λ n. (c.in_ok-tell_rest.ensures.mini_loose cases bytes r reads knows).answers n;
      whole = λ n. (c.in_ok-tell_chains.ensures.whole cases bytes r reads knows).answers (rest.kept on_whole n);
    }
