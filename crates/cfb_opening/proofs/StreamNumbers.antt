-- The streams of an outline are those of its numbers whose entries are streams.
use Rattle.std.proofs.Common.{◌≡◌, ℕ, ◌+◌, ◌<◌, List, [], ◌∷◌, ◌++◌, Bool, true, false, refl, ap, sym, ◌∙◌, length, take, slice_index_or, cond, append-nil}
use Rattle.std.specs.List.{filter}
use Rattle.std.proofs.lemmas.List.Elements.{filter-append, filter_more}
use Rattle.cfb_format.specs.DirectoryEntry.{Entry}
use Rattle.cfb_format.specs.Names.{Cases}
use Rattle.cfb_format.specs.Reading.{HasContents, Outline, no_more, numbers, storage_at, stream_at, stream_numbers}
use Rattle.cfb_outline.specs.Families.{is_stream_kind}
use Rattle.cfb_opening.specs.Streams.{is_stream_at}
use Rattle.cfb_opening.proofs.cfb_content.Owned.{filter-no}

taken : (p : ℕ → Bool) (i : ℕ) (rest : List ℕ) → p i ≡ true → filter p (i ∷ rest) ≡ i ∷ filter p rest
taken p i rest e = rw e refl

module _ (cases : Cases) (entries : List Entry) where
  pub streams-among : (o : Outline) → HasContents cases entries o → filter (is_stream_at entries) (numbers o) ≡ stream_numbers o
  streams-among no_more h = refl
  streams-among (storage_at i inside rest) h =
      filter-no (is_stream_at entries) i (numbers inside ++ numbers rest) (ap is_stream_kind h.0) ∙ filter-append (is_stream_at entries) (numbers inside) (numbers rest)
      ∙ ap (λ xs. xs ++ filter (is_stream_at entries) (numbers rest)) (streams-among inside h.2) ∙ ap (λ xs. stream_numbers inside ++ xs) (streams-among rest h.3)
  streams-among (stream_at i rest) h =
      taken (is_stream_at entries) i (numbers rest) (ap is_stream_kind h.0) ∙ ap (λ xs. i ∷ xs) (streams-among rest h.1)

-- one more number was looked at
module _ (p : ℕ → Bool) (xs : List ℕ) (i : ℕ) (ys : List ℕ) (lt : i < length xs) (so_far : ys ≡ filter p (take i xs)) where
  step : (b : Bool) → p (slice_index_or xs i 0) ≡ b → filter p (take (i + 1) xs) ≡ ys ++ cond b (slice_index_or xs i 0 ∷ []) []
  step b e = filter_more p xs i 0 lt ∙ ap (λ t. filter p (take i xs) ++ cond t (slice_index_or xs i 0 ∷ []) []) e
      ∙ ap (λ zs. zs ++ cond b (slice_index_or xs i 0 ∷ []) []) (sym so_far)

  pub one-more : p (slice_index_or xs i 0) ≡ true → ys ++ slice_index_or xs i 0 ∷ [] ≡ filter p (take (i + 1) xs)
  one-more e = sym (step true e)

  pub none-more : p (slice_index_or xs i 0) ≡ false → ys ≡ filter p (take (i + 1) xs)
  none-more e = sym (append-nil ys) ∙ sym (step false e)
