use Rattle.std.proofs.Common.{◌≡◌, ◌∙◌, ap, chars, inl, inr, map, string_bytes}
use Rattle.std.specs.Prelude.{Some}
use Rattle.std.proofs.lemmas.Result.{err_from_is_err_and}
use Rattle.cfb_codecs.specs.EntryModel.{entry_of}
use Rattle.cfb_format.specs.Path.{child_path}
use Rattle.cfb_compound_file.proofs.Numbers.{ok-then}
use Rattle.cfb_tool.proofs.cfb_path_changes.Numbers.{map-split, says-none}
use Rattle.cfb_tool.specs.Listing.{IsPathInWalk}
use Rattle.cfb_tool.proofs.listing.path_in_walk.Goals as goal

pub returns-in_default-clause-ok : goal.returns-in_default-clause-ok
returns-in_default-clause-ok g c =
    ok-then _ _ c.path_from_name_chain.result (λ text is. inl (says-none _ _ (chars c.args.path.now) (rw c.deref.ensures.value at c.in_default.ensures.cases) c.in_ok-names.ensures.ok, is))
    c.path_from_name_chain.ensures.ok

pub returns-clause-ok : goal.returns-clause-ok
returns-clause-ok g c =
    let name = c.as_str-2.result.now in
    ok-then (λ text. chars (string_bytes text) ≡ child_path (chars c.as_str.result.now) (chars name))
    (λ text. IsPathInWalk (chars c.args.path.now) (entry_of c.args.entry.now).name (chars (string_bytes text))) c.path_below.result
    (λ text is. inr (
      _,
      _,
      c.in_ok-names.ensures.ok ∙ ap (λ ns. Some ns) (map-split _ _ _ _ (rw c.deref.ensures.value at c.in-Some.ensures.cases.0)),
      is ∙ (ap (λ bs. child_path (chars bs) (chars name)) c.as_str.ensures.value
          ∙ (ap (λ bs. child_path (chars (string_bytes c.in_ok-parent.parent)) (chars bs)) c.as_str-2.ensures.value
          ∙ ap (λ p. child_path p (entry_of c.args.entry.now).name) c.in_ok-parent.ensures.ok)),
    ))
    c.path_below.ensures.ok
