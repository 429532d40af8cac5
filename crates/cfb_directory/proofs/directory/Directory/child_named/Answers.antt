use Rattle.std.proofs.Common.{ℕ, List, subst, MatchOption}
use Rattle.std.specs.Prelude.{chars, Contains, IfSome}
use Rattle.cfb_format.specs.Reading.{IsOutline, Outline, numbers}
use Rattle.cfb_directory.specs.cfb_siblings.Children.{HasChildren, IsAbsent, IsChildNamed}
use Rattle.cfb_directory.specs.State.{DirectoryState}
use Rattle.cfb_directory.proofs.directory.Directory.child_named.Goals as goal

pub returns-clause-found : goal.returns-clause-found
returns-clause-found g c = subst (λ (d : DirectoryState). (list : List ℕ) → HasChildren d.cases d.entries c.args.parent list
    → MatchOption c.child_named.result (IsAbsent d.cases d.entries (chars c.args.name.now) list) (λ k. IsChildNamed d.cases d.entries (chars c.args.name.now) list k))
    c.self.view_is c.child_named.ensures.found

pub returns-clause-reached : goal.returns-clause-reached
returns-clause-reached g c = subst (λ (d : DirectoryState). (o : Outline) → IsOutline d.cases d.entries o → IfSome c.child_named.result (λ k. Contains (numbers o) k))
    c.self.view_is c.child_named.ensures.reached
