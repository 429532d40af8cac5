-- Which texts end with a `/`, by their bytes and by their characters.
use Rattle.std.proofs.Common.{◌≡◌, ℕ, ◌+◌, ◌-◌, Bool, true, false, List, [], ◌∷◌, ◌++◌, length, take, get_or, refl, sym, ap, ◌∙◌, subst, arith}
use Rattle.std.specs.Prelude.{encode_utf8_all, if◌then◌else◌}
use Rattle.std.specs.Str.{chars, IsUtf8, IsCharBoundary}
use Rattle.std.proofs.lemmas.Bool.{false_from_ne_true}
use Rattle.std.proofs.lemmas.List.{length-append}
use Rattle.std.proofs.Math.Seq.{get_or-append_seam, take-append_seam}
use Rattle.std.proofs.lemmas.Str.{chars-append, encodes-chars, encodes-append, encode_ascii, IsUtf8-take, IsCharBoundary-before_ascii}
use Rattle.cfb_format.specs.Path.{slash, ends_with_slash, child_path}

pub chars-slash : chars (slash ∷ []) ≡ slash ∷ []
unfolding chars
chars-slash = refl

-- what a `/` was put behind ends with it
ends-behind : (front : List ℕ) → ends_with_slash (front ++ slash ∷ []) ≡ true
ends-behind [] = refl
ends-behind (c ∷ []) = refl
ends-behind (c ∷ d ∷ front) = ends-behind (d ∷ front)

-- what ends with a `/` is that behind something
ends-split : (cs : List ℕ) → ends_with_slash cs ≡ true → (front : List ℕ) × (cs ≡ front ++ slash ∷ [])
ends-split [] e = cc
ends-split (c ∷ []) e = ([], grind arith)
ends-split (c ∷ d ∷ cs) e = let (front, is) = ends-split (d ∷ cs) e in (c ∷ front, ap (λ xs. c ∷ xs) is)

-- the bytes end with a `/` exactly if the characters do
byte-ends : (text front : List ℕ) → IsUtf8 text → text ≡ front ++ slash ∷ [] → chars text ≡ chars front ++ slash ∷ []
byte-ends text front good is =
    let len : length text ≡ length front + 1 = ap length is ∙ length-append front (slash ∷ []) in
    let byte : get_or text (length front) 0 ≡ slash = ap (λ xs. get_or xs (length front) 0) is ∙ get_or-append_seam front slash [] 0 in
    let edge : IsCharBoundary text (length front) = IsCharBoundary-before_ascii text (length front) (omega (arith, len)) (omega (arith, byte)) in
    let cut : take (length front) text ≡ front = ap (λ xs. take (length front) xs) is ∙ take-append_seam front (slash ∷ []) in
    let good-front : IsUtf8 front = subst IsUtf8 cut (IsUtf8-take text (length front) good edge) in
    ap chars is ∙ chars-append front (slash ∷ []) good-front ∙ ap (λ cs. chars front ++ cs) chars-slash

char-ends : (text front : List ℕ) → IsUtf8 text → chars text ≡ front ++ slash ∷ [] → text ≡ encode_utf8_all front ++ slash ∷ []
char-ends text front good is =
    sym (encodes-chars text good) ∙ ap encode_utf8_all is ∙ encodes-append front (slash ∷ [])
    ∙ ap (λ (bs : List ℕ). encode_utf8_all front ++ bs) (ap (λ (bs : List ℕ). bs ++ []) (encode_ascii slash (omega arith)))

pub ended : (text : List ℕ) → IsUtf8 text → (text ≡ take (length text - 1) text ++ slash ∷ []) → ends_with_slash (chars text) ≡ true
ended text good is = ap ends_with_slash (byte-ends text (take (length text - 1) text) good is) ∙ ends-behind (chars (take (length text - 1) text))

pub unended : (text : List ℕ) (r : Bool) → IsUtf8 text → ((front : List ℕ) → text ≡ front ++ slash ∷ [] → r ≡ true) → r ≡ false → ends_with_slash (chars text) ≡ false
unended text r good would other = false_from_ne_true (ends_with_slash (chars text)) (λ ends.
    let (front, is) = ends-split (chars text) ends in
    let bad : r ≡ true = would (encode_utf8_all front) (char-ends text front good is) in
    cc)

-- the path of a name, by whether a `/` is put between
pub below-ended : (path name : List ℕ) → ends_with_slash path ≡ true → child_path path name ≡ path ++ name
below-ended path name e = ap (λ (b : Bool). if b then path ++ name else path ++ slash ∷ name) e

pub below-unended : (path name : List ℕ) → ends_with_slash path ≡ false → child_path path name ≡ path ++ slash ∷ name
below-unended path name e = ap (λ (b : Bool). if b then path ++ name else path ++ slash ∷ name) e
