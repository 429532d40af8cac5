-- Lines of text.
use Rattle.std.proofs.Common.{◌≡◌, ◌∙◌, ℕ, List, [], ◌∷◌, ◌++◌, ap, append_assoc, codes, sym}
use Rattle.std.proofs.lemmas.Str.{encodes-chars}
use Rattle.std.specs.Fmt.{decimal}
use Rattle.std.specs.Str.{IsUtf8, chars, encode_utf8_all}
use Rattle.cfb_text.specs.Shown.{shown}
use Rattle.cfb_rules.specs.Calls.{EntryInfo}
use Rattle.cfb_shown.specs.Lines.{line_with}
use Rattle.cfb_shown.specs.Rows.{kind_text}

abbrev text_with : List ℕ → ℕ → List ℕ → List ℕ
text_with kind len path = kind ++ (codes " " ++ (decimal len ++ (codes " " ++ (path ++ (10 ∷ [])))))

pub line-is : (kind path : List ℕ) (len : ℕ) (info : EntryInfo) → kind ≡ kind_text info → len ≡ info.len → IsUtf8 path → text_with kind len path ≡ line_with info (chars path)
line-is kind path len info kinds lens utf8 =
    ap (λ (k : List ℕ). text_with k len path) kinds ∙ ap (λ (n : ℕ). text_with (kind_text info) n path) lens
    ∙ ap (λ (p : List ℕ). text_with (kind_text info) info.len p) (sym (encodes-chars path utf8))

joined : (kind len path : List ℕ) → ((kind ++ (32 ∷ (len ++ 32 ∷ []))) ++ path) ++ 10 ∷ [] ≡ kind ++ (32 ∷ (len ++ (32 ∷ (path ++ 10 ∷ []))))
joined kind len path = simp append_assoc

pub shown-is : (kind path : List ℕ) (len : ℕ) (info : EntryInfo) → kind ≡ kind_text info → len ≡ info.len
    → ((kind ++ (codes " " ++ (decimal len ++ codes " "))) ++ encode_utf8_all (shown path)) ++ 10 ∷ [] ≡ line_with info (shown path)
shown-is kind path len info kinds lens =
    joined kind (decimal len) (encode_utf8_all (shown path))
    ∙ ap (λ (k : List ℕ). text_with k len (encode_utf8_all (shown path))) kinds ∙ ap (λ (n : ℕ). text_with (kind_text info) n (encode_utf8_all (shown path))) lens
