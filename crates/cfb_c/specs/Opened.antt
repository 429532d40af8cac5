-- What opening and making a file through a handle comes to.
use Rattle.std.specs.Prelude.{ℕ, ◌≢◌, ◌==◌, Bool, true, false, List, IsTrue, MatchBool, ⊤}
use Rattle.cfb_format.specs.declared.error.Error.{Error}
use Rattle.cfb_format.specs.declared.version.Version.TheVariants.{V3, V4}
use Rattle.cfb_format.specs.Memory.{is_refused_growth}
use Rattle.cfb_format.specs.Refused.{HasReason, no_error}
use Rattle.cfb_commands.specs.cfb_agreement.Files.{FileState}
use Rattle.cfb_commands.specs.cfb_compound_file.Opening.{IsCreatedWith, Options, OpeningWithRefused, permissive_options, strict_options}

abbrev pub options_of : (is_strict : Bool) → Options
options_of true = strict_options
options_of false = permissive_options

-- opening them in this mode does not accept the bytes, or memory was refused
abbrev pub IsNotOpened : (is_strict : Bool) → List ℕ → Error → Type 0
IsNotOpened is_strict bytes = OpeningWithRefused (λ fault. false) (options_of is_strict) bytes

-- an empty file of the version of this number was made
abbrev pub IsCreatedAs : ℕ → FileState → Type 0
IsCreatedAs number file = MatchBool (number == 3) (IsCreatedWith V3 permissive_options 0 file)
    (MatchBool (number == 4) (IsCreatedWith V4 permissive_options 0 file) ⊥)

-- there is no such version, or memory was refused
abbrev pub IsNotCreated : ℕ → Error → Type 0
IsNotCreated version = HasReason (record no_error {
  invalid_input = (version ≢ 3) × (version ≢ 4);
  medium = λ fault. IsTrue (is_refused_growth fault);
  memory = ⊤;
})
