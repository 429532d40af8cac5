use Rattle.std.proofs.Common.{[], drop, sym}
use Rattle.std.specs.Prelude.{chars, map}
use Rattle.std.proofs.lemmas.List.{at_drop_more, at_drop_all}
use Rattle.cfb_codecs.specs.EntryModel.{entries_of}
use Rattle.cfb_siblings.proofs.Held.{raw-in}
use Rattle.cfb_siblings.proofs.PathWalk.{walks-start, walks-in, walks-parent, walks-on, walks-missing, walks-end, walks-reached}
use Rattle.cfb_siblings.proofs.find.find_names.Goals as goal

pub loop-name-init : goal.loop-name-init
loop-name-init g c = walks-start c.args.cases.now (entries_of c.args.entries.now) (map (λ name. chars name.now) c.args.names.now)

pub find_below-requires-clause-node_in : goal.find_below-requires-clause-node_in
find_below-requires-clause-node_in g c = raw-in c.args.entries.now c.loop-name.node (walks-in c.args.cases.now (entries_of c.args.entries.now) (map (λ name. chars name.now) c.args.names.now) (map (λ name. chars name.now) (drop c.loop-name.name-index c.args.names.now)) c.loop-name.node c.requires.stands c.loop-name.invariant)

pub find_below-requires-clause-stands : goal.find_below-requires-clause-stands
find_below-requires-clause-stands g c ne = walks-parent c.args.cases.now (entries_of c.args.entries.now) (map (λ name. chars name.now) c.args.names.now) (map (λ name. chars name.now) (drop c.loop-name.name-index c.args.names.now)) c.loop-name.node c.requires.stands c.loop-name.invariant ne

pub returns-in-None-clause-found : goal.returns-in-None-clause-found
returns-in-None-clause-found g c o h = sym (walks-missing c.args.cases.now (entries_of c.args.entries.now) (map (λ name. chars name.now) c.args.names.now) (map (λ name. chars name.now) (drop c.loop-name.name-index c.args.names.now)) c.loop-name.node _ _ (at_drop_more (map (λ name. chars name.now)) c.args.names.now c.loop-name.name-index (record { ref_ptr = (0, 0); now = [] }) c.loop-name-test.true) c.in-None.ensures c.loop-name.invariant o h)

pub loop-name-preserved : goal.loop-name-preserved
loop-name-preserved g c = walks-on c.args.cases.now (entries_of c.args.entries.now) (map (λ name. chars name.now) c.args.names.now) (map (λ name. chars name.now) (drop c.loop-name.name-index c.args.names.now)) c.loop-name.node c.in-Some.found _ _ (at_drop_more (map (λ name. chars name.now)) c.args.names.now c.loop-name.name-index (record { ref_ptr = (0, 0); now = [] }) c.loop-name-test.true) c.in-Some.ensures.0 c.in-Some.ensures.1 c.loop-name.invariant

pub returns-clause-found : goal.returns-clause-found
returns-clause-found g c o h = sym (walks-end c.args.cases.now (entries_of c.args.entries.now) (map (λ name. chars name.now) c.args.names.now) (map (λ name. chars name.now) (drop c.loop-name.name-index c.args.names.now)) c.loop-name.node (at_drop_all (map (λ name. chars name.now)) c.args.names.now c.loop-name.name-index c.loop-name-test.false) c.loop-name.invariant o h)

pub returns-clause-reached : goal.returns-clause-reached
returns-clause-reached g c o h = walks-reached c.args.cases.now (entries_of c.args.entries.now) (map (λ name. chars name.now) c.args.names.now) (map (λ name. chars name.now) (drop c.loop-name.name-index c.args.names.now)) c.loop-name.node (at_drop_all (map (λ name. chars name.now)) c.args.names.now c.loop-name.name-index c.loop-name-test.false) c.loop-name.invariant o h
