use Rattle.std.proofs.Common.{◌≡◌, ◌<◌, List, ℕ, ap, arith, length, refl, subst, take}
use Rattle.cfb_format.specs.Siblings.{entry_at}
use Rattle.cfb_extract.specs.Pieces.{ReadsPiece}
use Rattle.cfb_extract.proofs.Longer.{so-more}
use Rattle.cfb_extract.proofs.Streams.{longer-piece, stays-then}
use Rattle.cfb_extract.proofs.objects.write_stream.Goals as goal

pub returns-in_err-write-clause-any : goal.returns-in_err-write-clause-any
returns-in_err-write-clause-any g c = λ told. so-more _ _ _ _ (c.loop-at.invariant.any told) (c.in_err-write.ensures.partly told).longer

pub loop-at-preserved : goal.loop-at-preserved
loop-at-preserved g c =
    let i = c.loop-at.invariant in
    let start = c.args.source.now in
    let mid = c.loop-at.source in
    let r = c.in_ok-count.ensures in
    record {
      inside = omega (arith, i.inside, c.loop-at-test.true, c.if-count-readable.false);
      stays = stays-then g.S.Source start mid c.read_piece.new.self i.stays (record { listed = r.entries; told = r.told; kept = r.kept; content = r.content });
      count = i.count;
      any = λ told. so-more _ _ _ _ (i.any told) (c.in_ok-write.ensures.longer told);
      longer = λ tells told.
          let same : g.S.Source.content mid (entry_at (g.S.Source.listed mid) c.args.entry) ≡ g.S.Source.content start (entry_at (g.S.Source.listed start) c.args.entry) =
          λ j. i.stays.content tells j (entry_at (i.stays.listed j) c.args.entry) in
          let less : c.loop-at.at < length (g.S.Source.content mid (entry_at (g.S.Source.listed mid) c.args.entry)) =
          omega (arith, c.loop-at-test.true, i.count tells, ap (length {A = ℕ}) same) in
          longer-piece (g.S.Source.content start (entry_at (g.S.Source.listed start) c.args.entry)) c.read_piece.new.into (take c.in_ok-count.count c.read_piece.new.into)
          c.loop-at.at c.in_ok-count.count _ _ _
          (subst (λ (xs : List ℕ). ReadsPiece xs c.loop-at.at c.read_piece.new.into c.in_ok-count.count) same (r.ok (i.stays.told tells) less)) refl
          (i.longer tells told) (c.in_ok-write.ensures.longer told);
    }
