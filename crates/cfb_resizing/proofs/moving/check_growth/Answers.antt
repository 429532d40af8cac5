use Rattle.std.proofs.Common.{◌≡◌, ◌∙◌, ◌-◌, ◌*◌, ℕ, List, ap, refl, subst, arith, length}
use Rattle.std.specs.Prelude.{Contains}
use Rattle.cfb_resizing.specs.cfb_alloc.Alloc.{AllocatorState}
use Rattle.cfb_format.specs.Bytes.{sector_len, words_per_sector}
use Rattle.cfb_format.specs.Full.{rounded_up}
use Rattle.cfb_resizing.proofs.MiniGrowth.{asked-as, bytes-lack-none, ends-are-apart, minifat-goes-on, stream-goes-on, words-lack-none}
use Rattle.cfb_resizing.proofs.moving.check_growth.Goals as goal
use Rattle.cfb_resizing.proofs.moving.check_growth.Goals.{then-lacks-gt0-via-then-lacks-gt0, then-lacks-gt0-via-else-lacks-gt0+then-lacks-gt0-2, then-lacks-gt0-via-else-lacks-gt0+else-lacks-gt0-2+then-not-can_go_on, then-lacks-gt0-via-else-lacks-gt0+else-lacks-gt0-2+else-not-can_go_on+then-not-can_go_on-2, then-lacks-gt0-via-else-lacks-gt0+else-lacks-gt0-2+else-not-can_go_on+else-not-can_go_on-2+then-ends_in}

pub returns-then-lacks-gt0 : goal.returns-then-lacks-gt0
returns-then-lacks-gt0 g c = record {
  err = (
    refl,
    λ v held apart. elim c.then-lacks-gt0.branch [
      | then-lacks-gt0-via-then-lacks-gt0 w ↦
          let same : c.lacks_for-lacks.result.minifat ≡ 0 =
          c.lacks_for-lacks.ensures.minifat ∙ (λ j. rounded_up (c.minifat_len.ensures.len j) (words_per_sector (c.version.ensures j)) - length (c.minifat_sectors-minifat.ensures j))
          ∙ words-lack-none v c.args.mini.now held in
          let some = w.if-lacks-gt0.true in
          omega (arith, same, some)
      | then-lacks-gt0-via-else-lacks-gt0+then-lacks-gt0-2 w ↦
          let same : c.lacks_for-lacks.result.mini_stream ≡ 0 =
          c.lacks_for-lacks.ensures.mini_stream
          ∙ (λ j. rounded_up (c.minifat_len.ensures.len j * 64) (sector_len (c.version.ensures j)) - length (c.stream_sectors-stream.ensures j))
          ∙ bytes-lack-none v c.args.mini.now held in
          let some = w.if-lacks-gt0-2.true in
          omega (arith, same, some)
      | then-lacks-gt0-via-else-lacks-gt0+else-lacks-gt0-2+then-not-can_go_on w ↦
          minifat-goes-on v c.args.mini.now held c.args.gone.now apart
          (asked-as _ _ _ _ c.args.gone.now (ap (λ (a : AllocatorState). a.tables.fat) w.allocator.ensures) c.minifat_sectors-minifat.ensures (w.can_go_on.ensures w.if-not-can_go_on.true))
      | then-lacks-gt0-via-else-lacks-gt0+else-lacks-gt0-2+else-not-can_go_on+then-not-can_go_on-2 w ↦
          stream-goes-on v c.args.mini.now held c.args.gone.now apart
          (asked-as _ _ _ _ c.args.gone.now (ap (λ (a : AllocatorState). a.tables.fat) w.allocator-else-not-can_go_on.ensures) c.stream_sectors-stream.ensures
          (w.can_go_on-else-not-can_go_on.ensures w.if-not-can_go_on-2.true))
      | then-lacks-gt0-via-else-lacks-gt0+else-lacks-gt0-2+else-not-can_go_on+else-not-can_go_on-2+then-ends_in w ↦
          let both = w.ends_in.ensures w.if-ends_in.true in
          ends-are-apart v c.args.mini.now held both.0 (subst (λ (l : List ℕ). Contains l both.0) c.stream_sectors-stream.ensures both.1)
          (subst (λ (l : List ℕ). Contains l both.0) c.minifat_sectors-minifat.ensures both.2)
    ],
  );
}
