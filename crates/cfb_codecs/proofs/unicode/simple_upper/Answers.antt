use Rattle.std.proofs.Common.{◌≡◌, ℕ, refl, sym, ap, ◌∙◌, Some, None}
use Rattle.std.specs.Char.Iter.{case_mapping_chars, case_mapping_first, case_mapping_second, case_mapping_third}
use Rattle.cfb_codecs.specs.SimpleUpper.{only}
use Rattle.cfb_codecs.proofs.unicode.simple_upper.Goals as goal

two : (s : _) (u v c : ℕ) → case_mapping_first s ≡ Some u → case_mapping_second s ≡ Some v → only (case_mapping_chars s) c ≡ c
unfolding only
two s u v c p q = rw (p, q) refl

one : (s : _) (u c : ℕ) → case_mapping_first s ≡ Some u → case_mapping_second s ≡ None → case_mapping_third s ≡ None → only (case_mapping_chars s) c ≡ u
unfolding only
one s u c p q r = rw (p, q, r) refl

pub returns-in-Some-next : goal.returns-in-Some-next
returns-in-Some-next c =
    sym (ap (λ xs. only xs c.args.letter) (sym c.to_uppercase-changed.ensures.value)
    ∙ two _ _ _ c.args.letter (sym c.in-Some.ensures.steps.0) (sym (c.in-Some-next.ensures.steps.0 ∙ c.in-Some.ensures.steps.1)))

pub returns-in-None : goal.returns-in-None
returns-in-None c =
    let none = sym (c.in-None.ensures.steps.0 ∙ c.in-Some.ensures.steps.1) in
    sym (ap (λ xs. only xs c.args.letter) (sym c.to_uppercase-changed.ensures.value)
    ∙ one _ _ c.args.letter (sym c.in-Some.ensures.steps.0) none (c.to_uppercase-changed.ensures.packed none))
