use Rattle.std.proofs.Common.{◌++◌, ◌∷◌, ◌∙◌, [], List, ℕ, ap, length, string_bytes, subst, sym}
use Rattle.std.proofs.lemmas.Str.{IsUtf8-string_bytes}
use Rattle.cfb_shown.specs.Trails.{AreEnds, paths_in}
use Rattle.cfb_shown.proofs.Trails.{first-end, first-path}
use Rattle.cfb_shown.proofs.trail.Trail.new.Goals as goal

pub returns-clause-ok : goal.returns-clause-ok
returns-clause-ok g c =
    let bytes = string_bytes c.in_ok-path.path in
    let end = length c.as_str.result.now in
    let alone = c.in_ok-push.ensures.items ∙ ap (λ (xs : List ℕ). xs ++ end ∷ []) c.new-ends.ensures.items in
    let is = ap (λ (xs : List ℕ). length xs) c.as_str.ensures.value in
    record {
      trail = subst (AreEnds bytes) (sym alone) (first-end bytes end is (IsUtf8-string_bytes c.in_ok-path.path));
      paths = ap (paths_in bytes) alone ∙ first-path bytes c.args.path.now end is c.in_ok-path.ensures.ok;
    }
