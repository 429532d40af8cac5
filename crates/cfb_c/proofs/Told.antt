-- What is told of objects, and of copies, put together.
use Rattle.std.proofs.Common.{◌≡◌, ◌∙◌, ℕ, List, ap, arith, drop, inl, length, min, replicate, subst, sym, take, ◌++◌}
use Rattle.std.proofs.lemmas.List.{drop-replicate, length-take-le}
use Rattle.std.proofs.Math.Seq.{drop-append_seam, take-append_seam}
use Rattle.std.specs.Prelude.{None, Ok, Option, Some, Result, chars}
use Rattle.cfb_format.specs.declared.error.Error.{Error}
use Rattle.cfb_commands.specs.cfb_agreement.Files.{FileState}
use Rattle.cfb_commands.specs.cfb_path_changes.Answers.{Answers}
use Rattle.cfb_commands.specs.cfb_rules.Calls.{Call, EntryInfo, entries, one_entry}
use Rattle.cfb_copies.specs.Copies.{IsMadeCopy, MeansTheSame}
use Rattle.cfb_c.specs.declared.held.Held.{Held}
use Rattle.cfb_c.specs.declared.held.Kept.{Kept}
use Rattle.cfb_c.specs.declared.held.Kept.TheVariants.{File, Bytes, Entries, Nothing}
use Rattle.cfb_c.specs.declared.listing.ObjectInfo.{ObjectInfo}
use Rattle.cfb_c.specs.declared.refusal.Refusal.{Refusal}
use Rattle.cfb_c.specs.Calls.{IsFileAnd, IsHeld, IsListAnd}
use Rattle.cfb_c.specs.Files.{HoldsCopy}
use Rattle.cfb_c.specs.Given.{IsGiven}
use Rattle.cfb_c.specs.Reasons.{GivesReason}
use Rattle.cfb_c.specs.Lists.{GivesPath, HoldsList, IsInfoOf, IsNamed, IsNameOf, KeepsList, TellsOne}

pub told_one : (call : Call) (info : ObjectInfo) (file : FileState) (entry : EntryInfo) → Answers file call (one_entry entry) → IsInfoOf entry info → TellsOne call info file
told_one call info file entry answers is = record { entry = entry; answers = answers; told = is }

pub gives_path : {T : Type 0} (room filled path : List ℕ) (len : ℕ) (entry : EntryInfo) (outcome : Result T Refusal) → chars path ≡ entry.path → IsGiven path room outcome filled len
    → GivesPath room filled len entry outcome
gives_path room filled path len entry outcome is given = record { path = path; is = is; given = given }

-- a handle that was given what was made holds it, if the number says so
pub holds_copy : (file : FileState) (made : Kept) (number : ℕ) (new : Option Held) → number ≡ 0 → IsHeld (Ok made) number new → IsFileAnd (λ copy. IsMadeCopy 0 copy × MeansTheSame file copy) made → HoldsCopy file new
holds_copy file made number None zero is good = absurd (omega (arith, zero, is))
holds_copy file made number (Some held) zero is good = subst (λ (h : Held). IsFileAnd (λ copy. IsMadeCopy 0 copy × MeansTheSame file copy) h.kept) (sym is.1) good

pub keeps_list : (list : List EntryInfo) (made : Kept) (number : ℕ) (new : Option Held) → number ≡ 0 → IsHeld (Ok made) number new → IsListAnd (λ kept. kept ≡ list) made → KeepsList list new
keeps_list list made number None zero is good = absurd (omega (arith, zero, is))
keeps_list list made number (Some held) zero is good = subst (λ (h : Held). IsListAnd (λ kept. kept ≡ list) h.kept) (sym is.1) good

module _ (call : Call) (file : FileState) (list : List EntryInfo) (answers : Answers file call (entries list)) where
  answered : (listed : List EntryInfo) → listed ≡ list → (kept : Kept) → IsListAnd (λ l. l ≡ listed) kept → IsListAnd (λ l. Answers file call (entries l)) kept
  answered listed same (File f) is = absurd is
  answered listed same (Bytes bytes) is = absurd is
  answered listed same (Entries l) is = subst (λ (es : List EntryInfo). Answers file call (entries es)) (sym (is ∙ same)) answers
  answered listed same Nothing is = absurd is

  pub holds_list : (listed : List EntryInfo) (new : Option Held) → listed ≡ list → KeepsList listed new → HoldsList call new file
  holds_list listed None same keeps = absurd keeps
  holds_list listed (Some held) same keeps = answered listed same held.kept keeps

pub gives_some_text : {T : Type 0} (e : Error) (text room filled : List ℕ) (len : ℕ) (outcome : Result T Refusal) → IsGiven text room outcome filled len → GivesReason (Some e) room outcome filled len
gives_some_text e text room filled len outcome given = inl (text, given)

pub name_in_utf8 : (letters stored name : List ℕ) (len : ℕ) → chars stored ≡ letters → IsNamed stored name len → IsNameOf letters name len
name_in_utf8 letters stored name len is named = record { stored = stored; is = is; named = named }

pub named : (stored new zeros : List ℕ) (n : ℕ) → n ≡ min (length stored) 95 → new ≡ take n stored → zeros ≡ replicate 96 0 → IsNamed stored (new ++ drop n zeros) n
named stored new zeros n count same none =
    let len : length new ≡ n = ap (λ (bs : List ℕ). length bs) same ∙ length-take-le n stored (omega (arith, count)) in
    record {
      count = count;
      bytes = ap (λ (k : ℕ). take k (new ++ drop n zeros)) (sym len) ∙ take-append_seam new (drop n zeros) ∙ same;
      rest = ap (λ (k : ℕ). drop k (new ++ drop n zeros)) (sym len) ∙ drop-append_seam new (drop n zeros) ∙ ap (λ (bs : List ℕ). drop n bs) none ∙ drop-replicate n 96 0;
    }
