-- The lines of a tree follow the walk.
use Rattle.std.proofs.Common.{◌≡◌, ℕ, ◌+◌, Bool, List, [], ◌∷◌, ◌++◌, length, refl, sym, ◌∙◌, ap, arith, append_assoc}
use Rattle.std.specs.List.{AllZip, concat}
use Rattle.std.proofs.lemmas.List.{length-append}
use Rattle.std.proofs.lemmas.List.Folds.{concat-append}
use Rattle.cfb_format.specs.Path.{child_path}
use Rattle.cfb_format.specs.Tree.{Objects, nothing, storage, stream}
use Rattle.cfb_listing.specs.Reached.{reached}
use Rattle.cfb_shown.specs.Trees.{IsLineOf, is_nothing, lead, storage_text, stream_text, tree_lines}

both : {A B : Type 0} (R : A → B → Type 0) (xs xs' : List A) (ys ys' : List B) → AllZip R xs ys → AllZip R xs' ys' → AllZip R (xs ++ xs') (ys ++ ys')
both R [] xs' [] ys' p q = q
both R [] xs' (y ∷ ys) ys' p q = absurd p
both R (x ∷ xs) xs' [] ys' p q = absurd p
both R (x ∷ xs) xs' (y ∷ ys) ys' p q = (p.0, both R xs xs' ys ys' p.1 q)

one-more : (names : List (List ℕ)) (name : List ℕ) (above : List Bool) → length above ≡ length names → length above + 1 ≡ length (names ++ name ∷ [])
one-more names name above len = omega (arith, len, length-append names (name ∷ []))

pub lines_follow_the_walk : (names : List (List ℕ)) (path : List ℕ) (above : List Bool) (objects : Objects) → length above ≡ length names
    → (lines : List (List ℕ)) × AllZip IsLineOf (reached names path objects) lines × (tree_lines above objects ≡ concat lines)
lines_follow_the_walk names path above nothing len = ([], tt, refl)
lines_follow_the_walk names path above (stream name info rest) len =
    let (lines, each, is) = lines_follow_the_walk names path above rest len in
    let cells : List ℕ = lead above (is_nothing rest) in
    let text : List ℕ = stream_text name info.len in (
      (cells ++ text) ∷ lines,
      (record { above = above; own = is_nothing rest; cells = one-more names name above len; is = refl }, each),
      ap (λ (xs : List ℕ). cells ++ (text ++ xs)) is ∙ sym (append_assoc cells text (concat lines)),
    )
lines_follow_the_walk names path above (storage name info inside rest) len =
    let own : List Bool = above ++ is_nothing rest ∷ [] in
    let longer : length own ≡ length (names ++ name ∷ []) = omega (arith, len, length-append above (is_nothing rest ∷ []), length-append names (name ∷ [])) in
    let (below, of_below, below_is) = lines_follow_the_walk (names ++ name ∷ []) (child_path path name) own inside longer in
    let (lines, each, is) = lines_follow_the_walk names path above rest len in
    let cells : List ℕ = lead above (is_nothing rest) in
    let text : List ℕ = storage_text name in (
      (cells ++ text) ∷ below ++ lines,
      (
        record { above = above; own = is_nothing rest; cells = one-more names name above len; is = refl },
        both IsLineOf (reached (names ++ name ∷ []) (child_path path name) inside) (reached names path rest) below lines of_below each,
      ),
      ap (λ (xs : List ℕ). cells ++ (text ++ (xs ++ tree_lines above rest))) below_is
          ∙ ap (λ (xs : List ℕ). cells ++ (text ++ (concat below ++ xs))) is
          ∙ ap (λ (xs : List ℕ). cells ++ (text ++ xs)) (sym (concat-append below lines))
          ∙ sym (append_assoc cells text (concat (below ++ lines))),
    )
