-- All that is read otherwise, in order.
use Rattle.std.proofs.Common.{◌≡◌, ◌≤◌, ℕ, List, ◌++◌, min, ◌∙◌, ap, arith, append_assoc}
use Rattle.std.specs.Prelude.{Option}
use Rattle.cfb_mending.specs.declared.patches.Patch.{Patch}
use Rattle.cfb_mending.specs.Missing.{marked}

-- ---- one sector

-- so many words of it, by another name
pub marked-count : (mark : ℕ → Option ℕ) (from k n : ℕ) (old new : List Patch) → k ≡ n → new ≡ old ++ marked mark from k → new ≡ old ++ marked mark from n
marked-count mark from k n old new e is = is ∙ ap (λ (i : ℕ). old ++ marked mark from i) e

-- ---- the whole file

pub joined : (p0 p1 p2 p3 p4 p5 a b c d e f : List Patch) → p1 ≡ p0 ++ a → p2 ≡ p1 ++ b → p3 ≡ p2 ++ (c ++ d) → p4 ≡ p3 ++ e → p5 ≡ p4 ++ f
    → p5 ≡ p0 ++ (a ++ (b ++ (c ++ (d ++ (e ++ f)))))
joined p0 p1 p2 p3 p4 p5 a b c d e f e1 e2 e3 e4 e5 =
    let q4 : p5 ≡ p3 ++ (e ++ f) = e5 ∙ ap (λ (l : List Patch). l ++ f) e4 ∙ append_assoc p3 e f in
    let q3 : p5 ≡ p2 ++ (c ++ (d ++ (e ++ f))) =
    q4 ∙ ap (λ (l : List Patch). l ++ (e ++ f)) e3 ∙ append_assoc p2 (c ++ d) (e ++ f) ∙ ap (λ (l : List Patch). p2 ++ l) (append_assoc c d (e ++ f)) in
    let q2 : p5 ≡ p1 ++ (b ++ (c ++ (d ++ (e ++ f)))) = q3 ∙ ap (λ (l : List Patch). l ++ (c ++ (d ++ (e ++ f)))) e2 ∙ append_assoc p1 b (c ++ (d ++ (e ++ f))) in
    q2 ∙ ap (λ (l : List Patch). l ++ (b ++ (c ++ (d ++ (e ++ f))))) e1 ∙ append_assoc p0 a (b ++ (c ++ (d ++ (e ++ f))))

-- a count that is capped, and one that is not greater than the cap
pub capped : (u r a m : ℕ) → a ≡ min u 18446744073709551615 → r ≤ 18446744073709551615 → m ≡ min a r → m ≡ min u r
capped u r a m is low m-is = omega (arith, is, low, m-is)
