-- Worked examples of names and paths.
use Rattle.std.proofs.Common.{◌≡◌, [], ◌∷◌, true, false, refl, replicate}
use Rattle.std.specs.Prelude.{codes, Some, None}
use Rattle.std.specs.declared.cmp.Ordering.TheVariants.{Less, Equal, Greater}
use Rattle.cfb_format.specs.Names.{name_cmp, is_valid_name, default_cases}
use Rattle.cfb_format.specs.Path.{names_of_path, path_of_names}

pub foobar : name_cmp default_cases (codes "foobar") (codes "FOOBAR") ≡ Equal
foobar = refl

pub barfoo : name_cmp default_cases (codes "foo") (codes "barfoo") ≡ Less
barfoo = refl

pub foo_bar : name_cmp default_cases (codes "Foo") (codes "bar") ≡ Greater
foo_bar = refl

pub umlaut : name_cmp default_cases (0xE4 ∷ []) (0xC4 ∷ []) ≡ Equal
umlaut = refl

pub umlaut_own : name_cmp ((0xE9, 0x58) ∷ (0xE9, 0xC9) ∷ []) (0xE4 ∷ []) (0xC4 ∷ []) ≡ Greater
umlaut_own = refl

pub accent_own : name_cmp ((0xE9, 0x58) ∷ (0xE9, 0xC9) ∷ []) (0xE9 ∷ []) (0xC9 ∷ []) ≡ Equal
accent_own = refl

pub colon : is_valid_name (codes "a:b") ≡ false
colon = refl

pub too_long : is_valid_name (replicate 32 97) ≡ false
too_long = refl

pub long : is_valid_name (replicate 31 97) ≡ true
long = refl

pub too_wide : is_valid_name (replicate 16 0x1F600) ≡ false
too_wide = refl

pub baz : names_of_path (codes "foo/bar/../baz") ≡ Some (codes "foo" ∷ codes "baz" ∷ [])
unfolding names_of_path
baz = refl

pub outside : names_of_path (codes "foo/../../baz") ≡ None
unfolding names_of_path
outside = refl

pub rooted : names_of_path (codes "//a/./b/") ≡ Some (codes "a" ∷ codes "b" ∷ [])
unfolding names_of_path
rooted = refl

pub the_root : names_of_path (codes "/") ≡ Some []
unfolding names_of_path
the_root = refl

pub foo_baz : path_of_names (codes "foo" ∷ codes "baz" ∷ []) ≡ codes "/foo/baz"
foo_baz = refl
