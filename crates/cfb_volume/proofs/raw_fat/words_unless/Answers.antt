use Rattle.std.proofs.Common.{◌≡◌, ℕ, true, false, sym, ◌∙◌, subst}
use Rattle.std.specs.Prelude.{IfErr, IfOk, IsTrue}
use Rattle.cfb_reading.specs.RawFat.{HasFatSectors, raw_words}
use Rattle.cfb_volume.specs.cfb_alloc.Alloc.{AllocatorState}
use Rattle.cfb_volume.specs.cfb_tables.Refused.{ChangeRefused}
use Rattle.cfb_volume.proofs.raw_fat.words_unless.Goals as goal

pub returns-then-is_sound-clause-ok : goal.returns-then-is_sound-clause-ok
returns-then-is_sound-clause-ok g c told unsound = absurd (let w : true ≡ false = sym c.if-is_sound.true ∙ unsound in cc)

pub returns-clause-ok : goal.returns-clause-ok
returns-clause-ok g c told unsound =
    subst (λ (a : AllocatorState). IfOk c.read_raw_fat.result (λ words. words.items ≡ raw_words a)) c.allocator_mut.ensures.value (c.read_raw_fat.ensures.ok told)

pub returns-clause-err : goal.returns-clause-err
returns-clause-err g c =
    subst (λ (a : AllocatorState). IfErr c.read_raw_fat.result (ChangeRefused (IsTrue g.F.ReadMedium.tells → HasFatSectors a → ⊥) (Unit {0}) ⊥ (Unit {0})))
    c.allocator_mut.ensures.value c.read_raw_fat.ensures.err
