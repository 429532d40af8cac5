use Rattle.std.proofs.Common.{◌++◌, [], ◌∷◌, List, ℕ, append-nil, append_assoc, get_or, take, sym, ◌∙◌, ap, arith}
use Rattle.std.specs.Prelude.{map}
use Rattle.std.proofs.lemmas.List.{map_more, take_all}
use Rattle.cfb_entries.specs.declared.indexing.Child.{Child}
use Rattle.cfb_entries.specs.Covering.{child_at}
use Rattle.cfb_entries.proofs.indexing.list_children.Goals as goal

pub loop-number-init : goal.loop-number-init
loop-number-init g c = sym (append-nil c.args.children.now.items)

pub loop-number-preserved : goal.loop-number-preserved
loop-number-preserved g c =
    let i = c.loop-number.number-index in
    let numbers = c.args.numbers.now in
    let s = c.args.storage in
    c.in_ok-push.ensures.items
    ∙ ap (λ (l : List Child). l ++ child_at s (get_or numbers i 0) ∷ []) c.loop-number.invariant
    ∙ append_assoc c.args.children.now.items (map (child_at s) (take i numbers)) (child_at s (get_or numbers i 0) ∷ [])
    ∙ ap (λ (l : List Child). c.args.children.now.items ++ l) (sym (map_more (child_at s) numbers i 0 c.loop-number-test.true))

pub returns-clause-ok : goal.returns-clause-ok
returns-clause-ok g c =
    c.loop-number.invariant
    ∙ ap (λ (l : List ℕ). c.args.children.now.items ++ map (child_at c.args.storage) l) (take_all c.loop-number.number-index c.args.numbers.now (let past = c.loop-number-test.false in omega (arith, past)))
