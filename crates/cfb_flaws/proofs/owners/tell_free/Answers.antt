use Rattle.std.proofs.Common.{◌≡◌, ◌<◌, ◌≤◌, inl, inr, ℕ, List, length, set, sym, ◌∙◌, ap, arith}
use Rattle.std.specs.Prelude.{slice_index}
use Rattle.std.proofs.lemmas.Bool.{cases_eq}
use Rattle.std.proofs.lemmas.List.{get_or-set_same, get_or-set_other, length-set}
use Rattle.cfb_flaws.specs.declared.owner.Owner.{Owner}
use Rattle.cfb_flaws.specs.declared.owner.Owner.TheVariants.{Unused}
use Rattle.cfb_flaws.specs.Owners.{owner_at}
use Rattle.cfb_flaws.specs.Claims.{freed}
use Rattle.cfb_flaws.proofs.owners.tell_free.Goals as goal

pub loop-i-preserved : goal.loop-i-preserved
loop-i-preserved c =
    let l = c.loop-i in
    let i = l.i in
    let table = c.args.table.now in
    let v = c.freed.result in
    let size : length l.owners ≡ length c.args.owners.now = l.invariant.size in
    let below : i < length l.owners = omega (arith, size, c.requires) in
    let is : v ≡ freed (owner_at c.args.owners.now i) (slice_index table i) =
    c.freed.ensures ∙ ap (λ (o : Owner). freed o (slice_index table i)) (c.owner_at-old.ensures ∙ l.invariant.left i (omega arith)) in
    record {
      size = length-set l.owners i v ∙ size;
      done = λ k lt. elim (cases_eq k i) [
        | inl at ↦
            ap (owner_at (set l.owners i v)) at ∙ get_or-set_same l.owners i v Unused below ∙ is
            ∙ ap (λ (n : ℕ). freed (owner_at c.args.owners.now n) (slice_index table n)) (sym at)
        | inr ne ↦ get_or-set_other l.owners i k v Unused ne ∙ l.invariant.done k (omega (arith, lt, ne))
      ];
      left = λ k le. get_or-set_other l.owners i k v Unused (λ e. omega (arith, le, e)) ∙ l.invariant.left k (omega (arith, le));
    }
