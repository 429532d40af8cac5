use Rattle.std.proofs.Common.{◌≡◌, ℕ, List, [], ◌∙◌}
use Rattle.cfb_flaws.proofs.Counting.{root-from, root-none, root-some}
use Rattle.cfb_flaws.proofs.flaws.root_of.Goals as goal

pub returns-in_default-clause-root : goal.returns-in_default-clause-root
returns-in_default-clause-root g c = λ cases bytes r reads are.
    let parts = c.args.parts.now in
    let start = c.start_of_mini_stream-start.result in
    let from = root-from parts cases bytes r reads are start c.start_of_mini_stream-start.ensures.chain in
    c.new-none.ensures.items ∙ root-none parts cases bytes r reads are start from (rw c.in_default.is at c.in_ok-list.ensures.none)

pub returns-clause-root : goal.returns-clause-root
returns-clause-root g c = λ cases bytes r reads are.
    let parts = c.args.parts.now in
    let start = c.start_of_mini_stream-start.result in
    let from = root-from parts cases bytes r reads are start c.start_of_mini_stream-start.ensures.chain in
    root-some parts cases bytes r reads are start c.in-Some.list.items from (rw c.in-Some.is at c.in_ok-list.ensures.chain)
