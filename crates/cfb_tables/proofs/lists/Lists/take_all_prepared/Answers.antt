use Rattle.std.proofs.Common.{◌≡◌, ℕ, suc, ◌-◌, List, [], ◌∷◌, ◌++◌, refl, sym, ◌∙◌, ap, subst, arith}
use Rattle.cfb_tables.specs.Tables.{IsPrepared, HasTaken, first_or_end}
use Rattle.cfb_format.specs.Chain.{IsChain}
use Rattle.cfb_tables.proofs.TakenLemmas.{taken-nothing}
use Rattle.cfb_tables.proofs.PreparedLemmas.{prepared-held, prepared-short, prepared-next, sizes-next, is-next}
use Rattle.cfb_tables.proofs.AttachLemmas.{begun-taken, begun-chain}
use Rattle.cfb_tables.proofs.lists.Lists.take_all_prepared.Goals as goal
use Rattle.cfb_format.proofs.Walks.{chain_of}

pub take_prepared-first-requires-clause-held : goal.take_prepared-first-requires-clause-held
take_prepared-first-requires-clause-held g c none =
    let count : c.args.count ≡ suc (c.args.count - 1) = omega arith in
    prepared-held c.args.self.now (c.args.count - 1) (subst (IsPrepared c.args.self.now) count c.requires.prepared) none

pub take_prepared-first-requires-clause-short : goal.take_prepared-first-requires-clause-short
take_prepared-first-requires-clause-short g c none =
    let count : c.args.count ≡ suc (c.args.count - 1) = omega arith in
    prepared-short c.args.self.now (c.args.count - 1) (subst (IsPrepared c.args.self.now) count c.requires.prepared) none

pub attach_prepared-requires-clause-prepared : goal.attach_prepared-requires-clause-prepared
attach_prepared-requires-clause-prepared g c =
    let count : c.args.count ≡ suc (c.args.count - 1) = omega arith in
    let f = c.take_prepared-first in
    prepared-next c.args.self.now f.new.self f.result (c.args.count - 1) (subst (IsPrepared c.args.self.now) count c.requires.prepared) f.ensures.next

pub attach_prepared-requires-clause-sizes : goal.attach_prepared-requires-clause-sizes
attach_prepared-requires-clause-sizes g c =
    let count : c.args.count ≡ suc (c.args.count - 1) = omega arith in
    let f = c.take_prepared-first in
    sizes-next c.args.self.now f.new.self f.result (c.args.count - 1) c.requires.sizes (subst (IsPrepared c.args.self.now) count c.requires.prepared) f.ensures.next

pub attach_prepared-requires-clause-ended : goal.attach_prepared-requires-clause-ended
attach_prepared-requires-clause-ended g c =
    let count : c.args.count ≡ suc (c.args.count - 1) = omega arith in
    let f = c.take_prepared-first in
    (is-next c.args.self.now f.new.self f.result (c.args.count - 1) f.ensures.kept (subst (IsPrepared c.args.self.now) count c.requires.prepared) f.ensures.next).ended

pub attach_prepared-requires-clause-regular : goal.attach_prepared-requires-clause-regular
attach_prepared-requires-clause-regular g c =
    let count : c.args.count ≡ suc (c.args.count - 1) = omega arith in
    let f = c.take_prepared-first in
    (is-next c.args.self.now f.new.self f.result (c.args.count - 1) f.ensures.kept (subst (IsPrepared c.args.self.now) count c.requires.prepared) f.ensures.next).regular

pub returns-then-count-gt0-clause-taken : goal.returns-then-count-gt0-clause-taken
returns-then-count-gt0-clause-taken g c =
    let count : c.args.count ≡ suc (c.args.count - 1) = omega arith in
    let f = c.take_prepared-first in
    let x = f.result in
    let next = is-next c.args.self.now f.new.self x (c.args.count - 1) f.ensures.kept (subst (IsPrepared c.args.self.now) count c.requires.prepared) f.ensures.next in
    let one = c.push_reserved.ensures.items ∙ ap (λ (z : List ℕ). z ++ x ∷ []) c.requires.empty in
    let new = c.attach_prepared.new in
    begun-taken c.args.self.now.state f.new.self.state new.self.state x c.push_reserved.new.self.items new.list.items one next.taken c.attach_prepared.ensures.added

pub returns-then-count-gt0-clause-chain : goal.returns-then-count-gt0-clause-chain
returns-then-count-gt0-clause-chain g c =
    let count : c.args.count ≡ suc (c.args.count - 1) = omega arith in
    let f = c.take_prepared-first in
    let x = f.result in
    let next = is-next c.args.self.now f.new.self x (c.args.count - 1) f.ensures.kept (subst (IsPrepared c.args.self.now) count c.requires.prepared) f.ensures.next in
    let one = c.push_reserved.ensures.items ∙ ap (λ (z : List ℕ). z ++ x ∷ []) c.requires.empty in
    let new = c.attach_prepared.new in
    begun-chain c.args.self.now.state f.new.self.state new.self.state x c.push_reserved.new.self.items new.list.items one next.taken c.attach_prepared.ensures.added

pub returns-else-count-gt0-clause-taken : goal.returns-else-count-gt0-clause-taken
returns-else-count-gt0-clause-taken g c =
    subst (HasTaken c.args.self.now.state c.args.self.now.state []) (sym c.requires.empty) (taken-nothing c.args.self.now.state c.requires.sizes.places)

pub returns-else-count-gt0-clause-chain : goal.returns-else-count-gt0-clause-chain
returns-else-count-gt0-clause-chain g c =
    let fat = c.args.self.now.state.fat in
    subst (λ (z : List ℕ). IsChain fat (first_or_end z) z) (sym c.requires.empty) (chain_of fat (first_or_end []) [] refl)
