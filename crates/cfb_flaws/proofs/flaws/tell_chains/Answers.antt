use Rattle.std.proofs.Common.{◌≡◌, ℕ, List}
use Rattle.std.specs.Prelude.{Contains, IsSome}
use Rattle.cfb_format.specs.Content.{mini_stream_chain}
use Rattle.cfb_format.specs.Soundness.{streams}
use Rattle.cfb_flaws.specs.declared.owner.Table.TheVariants.{Fat, Minifat}
use Rattle.cfb_flaws.specs.Each.{AreWhole, HaveChains}
use Rattle.cfb_flaws.specs.Flaws.{AreWholeIn, HaveChainsIn, on_chains, on_mini_stream, on_whole}
use Rattle.cfb_flaws.proofs.Growing.{both-chains, both-whole, grows, grows-on, grows-then, then-grows}
use Rattle.cfb_flaws.proofs.Tellings.{told-then}
use Rattle.cfb_flaws.proofs.flaws.tell_chains.Goals as goal

pub returns-clause-mini_stream : goal.returns-clause-mini_stream
returns-clause-mini_stream g c = λ cases bytes r reads knows.
    let f0 = c.args.found.now.items in
    let f1 = c.tell_mini_stream.new.found.items in
    let f2 = c.tell_broken_streams.new.found.items in
    let f3 = c.tell_broken_streams-2.new.found.items in
    let f4 = c.tell_cut_streams.new.found.items in
    let f5 = c.tell_cut_streams-2.new.found.items in
    let mini = c.in_ok-tell_mini_stream.ensures.told cases bytes r reads knows in
    let large = c.in_ok-tell_broken_streams.ensures.told cases bytes r reads knows in
    let small = c.in_ok-tell_broken_streams-2.ensures.told cases bytes r reads knows in
    let whole = c.in_ok-tell_cut_streams.ensures.told cases bytes r reads knows in
    let little = c.in_ok-tell_cut_streams-2.ensures.told cases bytes r reads knows in
    let t1 : Type 0 = IsSome (mini_stream_chain r) in
    let t2 : Type 0 = HaveChainsIn Fat r (streams r) in
    let t3 : Type 0 = HaveChainsIn Minifat r (streams r) in
    let t4 : Type 0 = AreWholeIn Fat bytes r (streams r) in
    let t5 : Type 0 = AreWholeIn Minifat bytes r (streams r) in
    let g1 = grows bytes r on_mini_stream t1 f0 f1 mini in
    let g2 = grows bytes r on_chains t2 f1 f2 large in
    let g3 = grows bytes r on_chains t3 f2 f3 small in
    let g4 = grows bytes r on_whole t4 f3 f4 whole in
    let g5 = grows bytes r on_whole t5 f4 f5 little in
    then-grows bytes r on_mini_stream t1 f0 f1 f5 mini (grows-on bytes r f1 f2 f5 g2 (grows-on bytes r f2 f3 f5 g3 (grows-on bytes r f3 f4 f5 g4 g5)))

pub returns-clause-chains : goal.returns-clause-chains
returns-clause-chains g c = λ cases bytes r reads knows.
    let f0 = c.args.found.now.items in
    let f1 = c.tell_mini_stream.new.found.items in
    let f2 = c.tell_broken_streams.new.found.items in
    let f3 = c.tell_broken_streams-2.new.found.items in
    let f4 = c.tell_cut_streams.new.found.items in
    let f5 = c.tell_cut_streams-2.new.found.items in
    let mini = c.in_ok-tell_mini_stream.ensures.told cases bytes r reads knows in
    let large = c.in_ok-tell_broken_streams.ensures.told cases bytes r reads knows in
    let small = c.in_ok-tell_broken_streams-2.ensures.told cases bytes r reads knows in
    let whole = c.in_ok-tell_cut_streams.ensures.told cases bytes r reads knows in
    let little = c.in_ok-tell_cut_streams-2.ensures.told cases bytes r reads knows in
    let t1 : Type 0 = IsSome (mini_stream_chain r) in
    let t2 : Type 0 = HaveChainsIn Fat r (streams r) in
    let t3 : Type 0 = HaveChainsIn Minifat r (streams r) in
    let t4 : Type 0 = AreWholeIn Fat bytes r (streams r) in
    let t5 : Type 0 = AreWholeIn Minifat bytes r (streams r) in
    let g1 = grows bytes r on_mini_stream t1 f0 f1 mini in
    let g2 = grows bytes r on_chains t2 f1 f2 large in
    let g3 = grows bytes r on_chains t3 f2 f3 small in
    let g4 = grows bytes r on_whole t4 f3 f4 whole in
    let g5 = grows bytes r on_whole t5 f4 f5 little in
    let all = told-then bytes r on_chains t2 t3 (HaveChains r) f1 f2 f3 (both-chains r) large small in
    grows-then bytes r on_chains (HaveChains r) f0 f1 f5 g1 (then-grows bytes r on_chains (HaveChains r) f1 f3 f5 all (grows-on bytes r f3 f4 f5 g4 g5))

pub returns-clause-whole : goal.returns-clause-whole
returns-clause-whole g c = λ cases bytes r reads knows.
    let f0 = c.args.found.now.items in
    let f1 = c.tell_mini_stream.new.found.items in
    let f2 = c.tell_broken_streams.new.found.items in
    let f3 = c.tell_broken_streams-2.new.found.items in
    let f4 = c.tell_cut_streams.new.found.items in
    let f5 = c.tell_cut_streams-2.new.found.items in
    let mini = c.in_ok-tell_mini_stream.ensures.told cases bytes r reads knows in
    let large = c.in_ok-tell_broken_streams.ensures.told cases bytes r reads knows in
    let small = c.in_ok-tell_broken_streams-2.ensures.told cases bytes r reads knows in
    let whole = c.in_ok-tell_cut_streams.ensures.told cases bytes r reads knows in
    let little = c.in_ok-tell_cut_streams-2.ensures.told cases bytes r reads knows in
    let t1 : Type 0 = IsSome (mini_stream_chain r) in
    let t2 : Type 0 = HaveChainsIn Fat r (streams r) in
    let t3 : Type 0 = HaveChainsIn Minifat r (streams r) in
    let t4 : Type 0 = AreWholeIn Fat bytes r (streams r) in
    let t5 : Type 0 = AreWholeIn Minifat bytes r (streams r) in
    let g1 = grows bytes r on_mini_stream t1 f0 f1 mini in
    let g2 = grows bytes r on_chains t2 f1 f2 large in
    let g3 = grows bytes r on_chains t3 f2 f3 small in
    let g4 = grows bytes r on_whole t4 f3 f4 whole in
    let g5 = grows bytes r on_whole t5 f4 f5 little in
    let all = told-then bytes r on_whole t4 t5 (AreWhole bytes r) f3 f4 f5 (both-whole bytes r) whole little in
    grows-then bytes r on_whole (AreWhole bytes r) f0 f3 f5 (grows-on bytes r f0 f1 f3 g1 (grows-on bytes r f1 f2 f3 g2 g3)) all
