-- Streams that cannot be read to their ends, as they are told.
use Rattle.std.proofs.Common.{◌≡◌, ℕ, ◌≢◌, List, [], ◌∷◌, ◌++◌, Bool, true, false, length, sym, ◌∙◌, ap, subst, eq-eqb}
use Rattle.std.specs.Prelude.{◌==◌, chars, if◌then◌else◌, map, string_bytes}
use Rattle.std.proofs.lemmas.Bool.{ne_eqb}
use Rattle.std.proofs.lemmas.List.{map-append}
use Rattle.cfb_format.specs.Tree.{StreamInfo}
use Rattle.cfb_extract.specs.declared.cut.Cut.{Cut}
use Rattle.cfb_extract.specs.Cuts.{cut_info, told_cuts}
use Rattle.cfb_extract.specs.Extracted.{CutInfo, cuts_at, slashed}

pub all-there : (names : List (List ℕ)) (info : StreamInfo) → length info.content ≡ info.len → cuts_at names info ≡ []
all-there names info is =
    ap (λ (b : Bool). if b then [] else record { path = slashed names; got = length info.content; len = info.len } ∷ []) (eq-eqb (length info.content) info.len is)

some-missing : (names : List (List ℕ)) (info : StreamInfo) → length info.content ≢ info.len
    → cuts_at names info ≡ record { path = slashed names; got = length info.content; len = info.len } ∷ []
some-missing names info differ =
    ap (λ (b : Bool). if b then [] else record { path = slashed names; got = length info.content; len = info.len } ∷ []) (ne_eqb (length info.content) info.len differ)

-- one more was told
pub told-cut : {A : Type 0} (olds news : List (Cut A)) (cut : Cut A) (names : List (List ℕ)) (info : StreamInfo) → news ≡ olds ++ cut ∷ [] → chars (string_bytes cut.path) ≡ slashed names
    → cut.got ≡ length info.content → cut.len ≡ info.len → length info.content ≢ info.len → told_cuts news ≡ told_cuts olds ++ cuts_at names info
told-cut olds news cut names info is path got len differ =
    let same : cut_info cut ≡ record { path = slashed names; got = length info.content; len = info.len } = λ j. record { path = path j; got = got j; len = len j } in
    ap told_cuts is ∙ map-append cut_info olds (cut ∷ []) ∙ ap (λ (x : CutInfo). told_cuts olds ++ x ∷ []) same
    ∙ ap (λ (xs : List CutInfo). told_cuts olds ++ xs) (sym (some-missing names info differ))
