-- What a closed stream leaves in the tree.
use Rattle.std.proofs.Common.{◌≡◌, ℕ, List, [], ◌∷◌, Bool, true, false, refl, sym, ◌∙◌, ap, subst}
use Rattle.std.specs.Prelude.{⊤, Option, MatchBool, option_map, unwrap_or, if◌then◌else◌}
use Rattle.cfb_format.specs.Tree.{Tree, IsOrdered, a_storage}
use Rattle.cfb_rules.specs.CallChanges.{with_fields, with_content, same_storage, content_changed_at}
use Rattle.cfb_rules.specs.Finding.{last_name, parent_names, object_at}
use Rattle.cfb_rules.specs.StreamCalls.{StreamState}
use Rattle.cfb_rules.specs.Runs.{Setting, tree_with_stream}
use Rattle.cfb_rules.specs.Laws.{IsClosed, ClosedStreamIsFound, UnsoundFilesStay, ClosingSparesOthers, ClosingKeepsOrder}
use Rattle.cfb_rules.proofs.FoundAfter.{object_with, fields_found}
use Rattle.cfb_rules.proofs.OrderKept.{fields_changed}
use Rattle.cfb_rules.proofs.OthersStay.{others_at, spares_fields}

module _ (setting : Setting) (names : List (List ℕ)) (stream : StreamState) (tree tree' : Tree) where
  closed_tree : IsClosed setting names stream tree tree'
      → tree' ≡ (if setting.stream.sound then content_changed_at setting.cases stream.content names tree else tree)
  closed_tree d =
      d.tree_is
      ∙ subst (λ (b : Bool). MatchBool b ⊤ (d.new.tree ≡ (if setting.stream.sound then tree_with_stream setting.cases tree d.path stream.content else tree))) d.unfailed d.closed
      ∙ ap (λ (o : Option (List (List ℕ))). if setting.stream.sound then content_changed_at setting.cases stream.content (unwrap_or o []) tree else tree) d.named

  -- by whether the file is sound
  in_both : (P : Tree → Type 0) → P (content_changed_at setting.cases stream.content names tree) → P tree → IsClosed setting names stream tree tree' → P tree'
  in_both P with_list without d = subst P (sym (closed_tree d)) (go setting.stream.sound)
    where
      go : (b : Bool) → P (if b then content_changed_at setting.cases stream.content names tree else tree)
      go true = with_list
      go false = without

pub closed_found : ClosedStreamIsFound
closed_found setting names stream tree tree' info sound there d =
    ap (λ (t : Tree). object_at setting.cases t names)
    (closed_tree setting names stream tree tree' d ∙ ap (λ (b : Bool). if b then content_changed_at setting.cases stream.content names tree else tree) sound)
    ∙ fields_found setting.cases same_storage (with_content stream.content) names tree
    ∙ ap (option_map (object_with same_storage (with_content stream.content))) there

pub unsound_stays : UnsoundFilesStay
unsound_stays setting names stream tree tree' unsound d =
    closed_tree setting names stream tree tree' d ∙ ap (λ (b : Bool). if b then content_changed_at setting.cases stream.content names tree else tree) unsound

pub others_spared : ClosingSparesOthers
others_spared setting [] others stream tree tree' part d = elim part [ ]
others_spared setting (name ∷ more) others stream tree tree' part d =
    in_both setting (name ∷ more) stream tree tree' (λ t. object_at setting.cases t others ≡ object_at setting.cases tree others)
    (others_at setting.cases (with_fields setting.cases (last_name (name ∷ more)) same_storage (with_content stream.content)) name more others tree part
    (spares_fields setting.cases (last_name (name ∷ more)) same_storage (with_content stream.content) (parent_names (name ∷ more)) (a_storage tree.root tree.objects)))
    refl d

pub order_kept : ClosingKeepsOrder
order_kept setting names stream tree tree' ordered d =
    in_both setting names stream tree tree' (λ t. IsOrdered setting.cases t.objects)
    (fields_changed setting.cases tree ordered same_storage (with_content stream.content) names)
    ordered d
