-- The names of an object, and the place that they say.
use Rattle.std.proofs.Common.{◌≡◌, ℕ, ◌+◌, ◌<◌, List, [], ◌∷◌, ◌++◌, length, refl, sym, ◌∙◌, ap, subst, take, arith, get_or, append_assoc, append-nil}
use Rattle.std.specs.Prelude.{String, map, string_bytes}
use Rattle.std.specs.Str.{IsUtf8, chars}
use Rattle.std.proofs.lemmas.Grind.{flat_map-append}
use Rattle.std.proofs.lemmas.Str.{chars-append}
use Rattle.std.proofs.lemmas.List.{length-map, map-append, map_more, take-map}
use Rattle.std.proofs.lemmas.List.Elements.{All-map}
use Rattle.cfb_text.specs.Host.{IsFileName, host_name}
use Rattle.cfb_text.proofs.Files.{stays_in_folder}
use Rattle.cfb_extract.specs.Items.{IsPlace, texts}
use Rattle.cfb_extract.specs.Extracted.{place_of, slashed}

abbrev text : {A : Type 0} → String A → List ℕ
text name = chars (string_bytes name)

-- each name of the place is the name of one file
pub is-place : (names : List (List ℕ)) → 0 < length names → IsPlace (place_of names)
is-place names some = record {
  some = omega (arith, some, length-map names host_name);
  safe = All-map IsFileName host_name names (λ k d l. stays_in_folder (get_or names k d));
}

-- so it is of the place that was made of names
pub place-for : {A B : Type 0} (names : List (String A)) (place : List (String B)) → 0 < length names → texts place ≡ place_of (texts names) → IsPlace (texts place)
place-for names place some is = subst IsPlace (sym is) (is-place (texts names) (omega (arith, some, length-map names text)))

-- one more of the first
pub texts-more : {A : Type 0} (names : List (String A)) (i : ℕ) (x : String A) → i < length names → x ≡ get_or names i x → texts (take (i + 1) names) ≡ texts (take i names) ++ chars (string_bytes x) ∷ []
texts-more names i x less is = map_more text names i x less ∙ ap (λ (y : String _). texts (take i names) ++ text y ∷ []) (sym is)

pub texts-push : {A : Type 0} (old new : List (String A)) (own : String A) → new ≡ old ++ own ∷ [] → texts new ≡ texts old ++ chars (string_bytes own) ∷ []
texts-push old new own pushed = ap texts pushed ∙ map-append text old (own ∷ [])

-- the names of the next object: so many of those before, and its own
pub next-names : {A : Type 0} (old cut new : List (String A)) (depth : ℕ) (own : String A) (name : List ℕ) → cut ≡ take depth old → new ≡ cut ++ own ∷ [] → chars (string_bytes own) ≡ name
    → texts new ≡ take depth (texts old) ++ name ∷ []
next-names old cut new depth own name is pushed named =
    texts-push cut new own pushed ∙ ap (λ (xs : List _). texts xs ++ chars (string_bytes own) ∷ []) is
    ∙ ap (λ (xs : List (List ℕ)). xs ++ chars (string_bytes own) ∷ []) (sym (take-map text depth old)) ∙ ap (λ (x : List ℕ). take depth (texts old) ++ x ∷ []) named

-- a `/` and a name behind a text and names
slash-text : chars (47 ∷ []) ≡ 47 ∷ []
unfolding chars
slash-text = refl

pub slashed-behind : (front path cut longer name : List ℕ) (names : List (List ℕ)) → IsUtf8 path → IsUtf8 cut → cut ≡ path ++ 47 ∷ [] → longer ≡ cut ++ name
    → chars path ≡ front ++ slashed names → chars longer ≡ front ++ slashed (names ++ chars name ∷ [])
slashed-behind front path cut longer name names good good-cut at with is =
    ap chars with ∙ chars-append cut name good-cut
    ∙ ap (λ (cs : List ℕ). cs ++ chars name)
    (ap chars at ∙ chars-append path (47 ∷ []) good ∙ ap (λ (cs : List ℕ). cs ++ chars (47 ∷ [])) is ∙ ap (λ (cs : List ℕ). (front ++ slashed names) ++ cs) slash-text
    ∙ append_assoc front (slashed names) (47 ∷ []))
    ∙ append_assoc front (slashed names ++ 47 ∷ []) (chars name)
    ∙ ap (λ (cs : List ℕ). front ++ cs)
    (append_assoc (slashed names) (47 ∷ []) (chars name) ∙ ap (λ (cs : List ℕ). slashed names ++ 47 ∷ cs) (sym (append-nil (chars name)))
    ∙ sym (flat_map-append (λ (part : List ℕ). 47 ∷ part) names (chars name ∷ [])))
