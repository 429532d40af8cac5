-- The kinds of refusals of calls that change nothing.
use Rattle.std.proofs.Common.{◌≡◌, ℕ, List, false, sym, subst}
use Rattle.std.specs.Prelude.{Err, IfErr, Ok, Result}
use Rattle.cfb_format.specs.declared.error.Error.{Error}
use Rattle.cfb_format.specs.declared.error.Error.TheVariants.{NotFound, AlreadyExists, InvalidInput, InvalidData, Medium, Memory, Full, Unsound, Failed}
use Rattle.cfb_format.specs.Refused.{IsMemory}
use Rattle.cfb_agreement.specs.Files.{FileState, is_failed}
use Rattle.cfb_path_changes.specs.Finding.{FindingRefused}
use Rattle.cfb_compound_file.specs.Asking.{IsOfAsking, IsOfOpeningStream}
use Rattle.cfb_compound_file.specs.OpenedStreams.{IsNotFound, IsNotOpened}

-- what was asked for is not found
pub finding_asks : (file : FileState) (path : List ℕ) (e : Error) → FindingRefused file path e → IsOfAsking e
finding_asks file path (NotFound d) why = tt
finding_asks file path (AlreadyExists d) why = absurd why
finding_asks file path (InvalidInput d) why = tt
finding_asks file path (InvalidData d) why = absurd why
finding_asks file path (Medium f) why = absurd why
finding_asks file path Memory why = tt
finding_asks file path Full why = absurd why
finding_asks file path Unsound why = absurd why
finding_asks file path Failed why = absurd why

-- nor is a stream
pub not_found_opens : (file : FileState) (path : List ℕ) (e : Error) → IsNotFound file path e → IsOfOpeningStream e
not_found_opens file path (NotFound d) why = tt
not_found_opens file path (AlreadyExists d) why = absurd why
not_found_opens file path (InvalidInput d) why = tt
not_found_opens file path (InvalidData d) why = absurd why
not_found_opens file path (Medium f) why = absurd why
not_found_opens file path Memory why = absurd why
not_found_opens file path Full why = absurd why
not_found_opens file path Unsound why = absurd why
not_found_opens file path Failed why = tt

-- memory was refused
pub memory_asks : {T : Type 0} (result : Result T Error) → IfErr result IsMemory → IfErr result IsOfAsking
memory_asks (Ok x) is = tt
memory_asks (Err e) is = subst (λ (z : Error). IsOfAsking z) (sym is) tt

pub memory_opens : (e : Error) → IsMemory e → IsOfOpeningStream e
memory_opens e is = subst (λ (z : Error). IsOfOpeningStream z) (sym is) tt

-- what is not found is not opened
pub not_found_not_opened : (file : FileState) (path : List ℕ) (e : Error) → IsNotFound file path e → IsNotOpened file path e
not_found_not_opened file path (NotFound d) why = why
not_found_not_opened file path (AlreadyExists d) why = why
not_found_not_opened file path (InvalidInput d) why = why
not_found_not_opened file path (InvalidData d) why = why
not_found_not_opened file path (Medium f) why = why
not_found_not_opened file path Memory why = absurd why
not_found_not_opened file path Full why = why
not_found_not_opened file path Unsound why = why
not_found_not_opened file path Failed why = why

-- nor is what has no buffer
pub memory_not_opened : (file : FileState) (path : List ℕ) (e : Error) → is_failed file ≡ false → IsMemory e → IsNotOpened file path e
memory_not_opened file path e calm is = subst (λ (z : Error). IsNotOpened file path z) (sym is) calm
