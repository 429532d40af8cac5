use Rattle.std.proofs.Common.{◌≡◌, ◌<◌, ℕ, List, [], ◌∷◌, true, false, length, refl, sym, ◌∙◌, ap, subst, arith}
use Rattle.std.specs.Prelude.{slice_index, ◌==◌}
use Rattle.std.proofs.lemmas.Bool.{eqb-true, eqb-false}
use Rattle.cfb_format.specs.Chain.{Follows}
use Rattle.cfb_format.specs.Bytes.{end_of_chain}
use Rattle.cfb_flaws.specs.Claims.{chain_of}
use Rattle.cfb_flaws.proofs.Knowing.{chain-is}
use Rattle.cfb_flaws.proofs.starts.start_of_list.Goals as goal

nothing : (xs : List ℕ) → length xs ≡ 0 → [] ≡ xs
nothing [] e = refl
nothing (x ∷ xs) e = absurd (omega (arith, e))

head-is : (table : List ℕ) (s : ℕ) (xs : List ℕ) → Follows table s xs → 0 < length xs → s ≡ slice_index xs 0
head-is table s [] f lt = absurd (omega (arith, lt))
head-is table s (x ∷ xs) f lt = f.0

pub returns-then-is_empty : goal.returns-then-is_empty
returns-then-is_empty c = λ table s chain.
    let none : length c.args.list.now ≡ 0 = eqb-true (length c.args.list.now) 0 (sym c.is_empty.ensures ∙ c.if-is_empty.true) in
    chain-is table end_of_chain [] refl ∙ nothing c.args.list.now none

pub returns : goal.returns
returns c = λ table s chain.
    let ne = eqb-false (length c.args.list.now) 0 (sym c.is_empty.ensures ∙ c.if-is_empty.false) in
    let head = head-is table s c.args.list.now chain.follows (omega (arith, ne)) in
    ap (chain_of table) (sym head) ∙ chain-is table s c.args.list.now chain.follows
