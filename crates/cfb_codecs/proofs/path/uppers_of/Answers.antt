use Rattle.std.proofs.Common.{◌≡◌, ℕ, Bool, true, false, refl, sym, ap, ◌∙◌, List, take, Some, None, ◌<◌}
use Rattle.std.specs.Prelude.{if◌then◌else◌, ◌==◌, fold}
use Rattle.std.specs.Option.{unwrap_or}
use Rattle.std.specs.Prelude.{cond}
use Rattle.std.specs.BTreeMap.{get}
use Rattle.std.specs.Ordering.{nat_cmp, is_eq}
use Rattle.std.specs.declared.option.Option.{Option}
use Rattle.std.specs.Cmp.{unsigned_tied}
use Rattle.std.proofs.lemmas.List.Sums.{fold_more}
use Rattle.cfb_codecs.proofs.path.uppers_of.Goals as goal

chosen : (d : Bool) (v c w : ℕ) (m : Option ℕ) → unwrap_or m c ≡ w → unwrap_or (cond d (Some v) m) c ≡ cond d v w
chosen true v c w m p = refl
chosen false v c w m p = p

picked : (b d : Bool) (v c w : ℕ) (m : Option ℕ) → b ≡ d → unwrap_or m c ≡ w → unwrap_or (cond b (Some v) m) c ≡ cond d v w
picked b d v c w m e p = ap (λ x. unwrap_or (cond x (Some v) m) c) e ∙ chosen d v c w m p

pub loop-i-preserved : goal.loop-i-preserved
loop-i-preserved g c c' =
    ap (λ o. unwrap_or o c') (c.in_ok-insert.ensures.updates.0 c')
    ∙ picked _ _ _ c' _ _ (unsigned_tied _ c') (c.loop-i.invariant c')
    ∙ sym (fold_more (λ (found : ℕ) (pair : ℕ × ℕ). if pair.0 == c' then pair.1 else found) c' c.args.letters.now c.loop-i.i (0, 0) c.loop-i-test.true)
