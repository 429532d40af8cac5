use Rattle.std.proofs.Common.{refl, sym, ◌∙◌, ap, append-nil, take, ◌++◌, List, ℕ, arith}
use Rattle.cfb_format.specs.Bytes.{unit_bytes}
use Rattle.cfb_format.proofs.Writing.{put_before, put_after, unit_bytes-take}
use Rattle.cfb_format.proofs.bytes.put_units.Goals as goal

pub loop-unit-init : goal.loop-unit-init
unfolding unit_bytes
loop-unit-init c = record { end = omega arith; before = sym (append-nil (take c.args.at c.args.into.now)); after = refl }

pub loop-unit-preserved : goal.loop-unit-preserved
loop-unit-preserved c =
    let before = c.loop-unit.invariant in
    let put = c.put-end.ensures in
    record {
      end = omega arith;
      before = put_before c.args.into.now c.loop-unit.into c.put-end.new.into c.loop-unit.end c.put-end.result c.args.at _ _ before.before put.before
          ∙ ap (λ (xs : List ℕ). take c.args.at c.args.into.now ++ xs) (ap (λ (ys : List ℕ). unit_bytes (take c.loop-unit.unit-index c.args.units.now) ++ ys) c.to_le_bytes.ensures
          ∙ sym (unit_bytes-take c.args.units.now c.loop-unit.unit-index c.loop-unit-test.true));
      after = put_after c.args.into.now c.loop-unit.into c.put-end.new.into c.loop-unit.end c.put-end.result (omega arith) before.after put.after;
    }
