use Rattle.std.proofs.Common.{◌≡◌, ◌∙◌, ◌+◌, ◌<◌, ◌≤◌, ◌∷◌, ◌++◌, [], All, ap, arith, length, subst, sym, take, true}
use Rattle.std.proofs.lemmas.List.{take_all, take_more}
use Rattle.std.proofs.lemmas.List.Elements.{All-append}
use Rattle.cfb_rules.specs.Calls.{EntryInfo}
use Rattle.cfb_tool.specs.Dumping.{CanBeDumped, can_be_dumped}
use Rattle.cfb_tool.proofs.Reached.{all_one, reached_so}
use Rattle.cfb_tool.proofs.dumping.check_reached.Goals as goal

pub loop-entry-preserved : goal.loop-entry-preserved
loop-entry-preserved g c =
    let items = c.args.told.now in
    let entry = c.entry-item.result in
    let i = c.loop-entry.entry-index in
    let inside : i < length items = omega arith in
    let more : take (i + 1) items ≡ take i items ++ entry ∷ [] = take_more items i entry inside ∙ ap (λ (e : EntryInfo). take i items ++ e ∷ []) (sym c.entry-item.is) in
    let reached : can_be_dumped entry ≡ true = sym c.is_reached.ensures ∙ c.if-not-is_reached.false in
    subst (All CanBeDumped) (sym more) (All-append CanBeDumped (take i items) (entry ∷ []) c.loop-entry.invariant (all_one CanBeDumped entry (reached_so entry reached)))

pub returns-clause-all : goal.returns-clause-all
returns-clause-all g c =
    let items = c.args.told.now in
    let past : length items ≤ c.loop-entry.entry-index = omega arith in
    subst (All CanBeDumped) (take_all c.loop-entry.entry-index items past) c.loop-entry.invariant
