use Rattle.std.proofs.lemmas.Grind.{common_steps}
use Rattle.std.proofs.Common.{◌<◌, ◌∷◌, [], List, ℕ, drop, sym, subst, arith, rules}
use Rattle.cfb_format.specs.Chain.{IsChain, value}
use Rattle.std.specs.Prelude.{slice_index, ◌-◌}
use Rattle.cfb_tables.specs.Tables.{first_or_end}
use Rattle.cfb_tables.proofs.ListedLemmas.{behind-is, last-there, rest-is}
use Rattle.cfb_mini_table.specs.MiniTable.{MiniGivesBack}
use Rattle.cfb_mini_table.proofs.FreedLemmas.{chain-busy}
use Rattle.cfb_mini_table.proofs.StateLemmas.{left-ends}
use Rattle.cfb_mini_table.proofs.mini_table.MiniTable.cut_listed.Goals as goal

pub free_listed-requires : goal.free_listed-requires
free_listed-requires g c = record { busy = chain-busy c.args.self.now.minifat (first_or_end c.args.list.now) c.args.list.now c.requires.chain }

pub cut_behind-requires-clause-below : goal.cut_behind-requires-clause-below
cut_behind-requires-clause-below g c =
    let list = c.args.list.now in
    let some : 0 < c.args.left = omega (arith, c.if-left-eq0.false) in
    (last-there list c.args.left some c.requires.fewer c.args.self.now.minifat (first_or_end list) c.requires.chain).1

pub cut_behind-requires-clause-chain : goal.cut_behind-requires-clause-chain
cut_behind-requires-clause-chain g c =
    let t = c.args.self.now.minifat in
    let list = c.args.list.now in
    let left = c.args.left in
    let some : 0 < left = omega (arith, c.if-left-eq0.false) in
    subst (IsChain t (value t (slice_index list (left - 1)))) (sym (rest-is list left)) (behind-is list left some c.requires.fewer t (first_or_end list) c.requires.chain)

pub returns : goal.returns
returns g c = record {
  given_back = record {
    freed = (
        let t = c.args.self.now.minifat in
        let list = c.args.list.now in
        let left = c.args.left in
        let new = c.cut_behind.new.self.minifat in
        let some : 0 < left = omega (arith, c.if-left-eq0.false) in
        let ends = left-ends t list left some c.requires.fewer c.requires.chain in
        subst (λ (z : List ℕ). MiniGivesBack z (drop left list) t new) (sym ends)
        (subst (λ (z : List ℕ). MiniGivesBack (slice_index list (left - 1) ∷ []) z t new) (rest-is list left) c.cut_behind.ensures.given_back.freed)
        );
    prepared = first_of (search rules, grind (arith, common_steps));
    rest = first_of (search rules, grind (arith, common_steps));
  };
}
