-- The order of names is a total preorder, in which the names of one key are equal.
use Rattle.std.proofs.Common.{◌≡◌, ℕ, List, subst}
use Rattle.std.specs.Prelude.{◌↔◌}
use Rattle.std.specs.Cmp.{IsTotalOrder, on_total, then_total, nat_cmp_total, tied_itself}
use Rattle.std.specs.Cmp.Lexicographic.{slice_cmp, nat_list_cmp_total}
use Rattle.std.specs.FinMap.{slice_cmp-IsAntisymmetric, nat_cmp-IsAntisymmetric}
use Rattle.std.specs.Ordering.{nat_cmp}
use Rattle.std.specs.declared.cmp.Ordering.TheVariants.{Equal}
use Rattle.std.proofs.lemmas.Map.Lookups.{exact_pairs, exact_unsigned, CmpEqualImpliesEq}
use Rattle.cfb_format.specs.Names.{Cases, key_of_name, key_cmp, name_cmp}

key_total : IsTotalOrder key_cmp
key_total = then_total (on_total (λ k. k.0) nat_cmp_total) (on_total (λ k. k.1) nat_list_cmp_total)

key_exact : CmpEqualImpliesEq key_cmp
key_exact = exact_pairs nat_cmp (slice_cmp nat_cmp) exact_unsigned (slice_cmp-IsAntisymmetric nat_cmp-IsAntisymmetric)

pub name_cmp-total : (cases : Cases) → IsTotalOrder (name_cmp cases)
name_cmp-total cases = on_total (key_of_name cases) key_total

pub name_cmp-equal : (cases : Cases) (a b : List ℕ) → (name_cmp cases a b ≡ Equal) ↔ (key_of_name cases a ≡ key_of_name cases b)
name_cmp-equal cases a b = (
  λ e. key_exact (key_of_name cases a) (key_of_name cases b) e,
  λ e. subst (λ k. key_cmp (key_of_name cases a) k ≡ Equal) e (tied_itself key_total (key_of_name cases a)),
)
