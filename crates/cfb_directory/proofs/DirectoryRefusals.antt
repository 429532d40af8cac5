-- Which refusals of the layers below are those of the directory.
use Rattle.std.specs.Prelude.{ℕ, Bool, Result, Ok, Err, IfErr, refl}
use Rattle.cfb_format.specs.declared.medium.MediumFault.{MediumFault}
use Rattle.cfb_format.specs.declared.error.Error.{Error}
use Rattle.cfb_format.specs.declared.error.Error.TheVariants.{NotFound, AlreadyExists, InvalidInput, InvalidData, Medium, Memory, Full, Unsound, Failed}
use Rattle.cfb_format.specs.Refused.{HasReason, IsInvalidOrMemory, AfterMedium, CountsError, no_error}
use Rattle.cfb_sectors.specs.Sectors.{IsMediumError}
use Rattle.cfb_directory.specs.cfb_tables.Refused.{TableRefused, ChangeRefused}

-- a chain that is refused
pub walk_invalid : (P Q : Type 0) → (P → Q) → (e : Error) → TableRefused P Unit ⊥ e → IsInvalidOrMemory Q e
walk_invalid P Q f (InvalidData d) r = f r
walk_invalid P Q f Memory r = tt
walk_invalid P Q f (NotFound d) r = absurd r
walk_invalid P Q f (AlreadyExists d) r = absurd r
walk_invalid P Q f (InvalidInput d) r = absurd r
walk_invalid P Q f (Medium g) r = absurd r
walk_invalid P Q f Full r = absurd r
walk_invalid P Q f Unsound r = absurd r
walk_invalid P Q f Failed r = absurd r

-- bytes that are refused for a reason
pub invalid_for : (P memory full medium : Type 0) → P → (e : Error) → ChangeRefused Unit ⊥ ⊥ ⊥ e → ChangeRefused P memory full medium e
invalid_for P memory full medium p (InvalidData d) r = p
invalid_for P memory full medium p Memory r = absurd r
invalid_for P memory full medium p (NotFound d) r = absurd r
invalid_for P memory full medium p (AlreadyExists d) r = absurd r
invalid_for P memory full medium p (InvalidInput d) r = absurd r
invalid_for P memory full medium p (Medium g) r = absurd r
invalid_for P memory full medium p Full r = absurd r
invalid_for P memory full medium p Unsound r = absurd r
invalid_for P memory full medium p Failed r = absurd r

-- such a refusal breaks nothing off
pub invalid_stops : (broken kept : Type 0) → kept → (e : Error) → ChangeRefused Unit ⊥ ⊥ ⊥ e → AfterMedium broken kept e
invalid_stops broken kept k (InvalidData d) r = k
invalid_stops broken kept k Memory r = absurd r
invalid_stops broken kept k (NotFound d) r = absurd r
invalid_stops broken kept k (AlreadyExists d) r = absurd r
invalid_stops broken kept k (InvalidInput d) r = absurd r
invalid_stops broken kept k (Medium g) r = absurd r
invalid_stops broken kept k Full r = absurd r
invalid_stops broken kept k Unsound r = absurd r
invalid_stops broken kept k Failed r = absurd r

-- the medium's error while slots were written
pub medium_refused : (invalid memory full begun : Type 0) (e : Error) → HasReason (record no_error { medium = λ f. begun }) e → ChangeRefused invalid memory full Unit e
medium_refused invalid memory full begun (Medium g) r = tt
medium_refused invalid memory full begun (InvalidData d) r = absurd r
medium_refused invalid memory full begun Memory r = absurd r
medium_refused invalid memory full begun (NotFound d) r = absurd r
medium_refused invalid memory full begun (AlreadyExists d) r = absurd r
medium_refused invalid memory full begun (InvalidInput d) r = absurd r
medium_refused invalid memory full begun Full r = absurd r
medium_refused invalid memory full begun Unsound r = absurd r
medium_refused invalid memory full begun Failed r = absurd r

pub medium_stops : (begun kept : Type 0) (e : Error) → HasReason (record no_error { medium = λ f. begun }) e → AfterMedium begun kept e
medium_stops begun kept (Medium g) r = r
medium_stops begun kept (InvalidData d) r = absurd r
medium_stops begun kept Memory r = absurd r
medium_stops begun kept (NotFound d) r = absurd r
medium_stops begun kept (AlreadyExists d) r = absurd r
medium_stops begun kept (InvalidInput d) r = absurd r
medium_stops begun kept Full r = absurd r
medium_stops begun kept Unsound r = absurd r
medium_stops begun kept Failed r = absurd r

-- of an error's reasons, what follows from each
pub err_map : {T : Type 0} (P Q : Error → Type 0) → ((e : Error) → P e → Q e) → (r : Result T Error) → IfErr r P → IfErr r Q
err_map P Q f (Ok x) p = tt
err_map P Q f (Err e) p = f e p

-- nor counts it as a failure
pub invalid_counts : (can_give : MediumFault → Bool) (n : ℕ) (e : Error) → ChangeRefused Unit ⊥ ⊥ ⊥ e → CountsError can_give n n e
invalid_counts can_give n (InvalidData d) r = refl
invalid_counts can_give n Memory r = absurd r
invalid_counts can_give n (NotFound d) r = absurd r
invalid_counts can_give n (AlreadyExists d) r = absurd r
invalid_counts can_give n (InvalidInput d) r = absurd r
invalid_counts can_give n (Medium g) r = absurd r
invalid_counts can_give n Full r = absurd r
invalid_counts can_give n Unsound r = absurd r
invalid_counts can_give n Failed r = absurd r

-- and the medium's error is it
pub medium_is : (begun : Type 0) (e : Error) → HasReason (record no_error { medium = λ f. begun }) e → IsMediumError e
medium_is begun (Medium g) r = refl
medium_is begun (InvalidData d) r = absurd r
medium_is begun Memory r = absurd r
medium_is begun (NotFound d) r = absurd r
medium_is begun (AlreadyExists d) r = absurd r
medium_is begun (InvalidInput d) r = absurd r
medium_is begun Full r = absurd r
medium_is begun Unsound r = absurd r
medium_is begun Failed r = absurd r
