use Rattle.std.proofs.Common.{◌≡◌, ◌+◌, ◌-◌, ◌∙◌, [], length, arith, sym, append-nil}
use Rattle.std.specs.Prelude.{Some}
use Rattle.std.proofs.lemmas.Result.{err_from_is_err_and}
use Rattle.cfb_extract.proofs.Longer.{grown, on-err}
use Rattle.cfb_extract.proofs.memory.MemoryFolderFolder.write.Goals as goal

pub returns-in_err-extend_from_slice-in-Some-clause-partly : goal.returns-in_err-extend_from_slice-in-Some-clause-partly
returns-in_err-extend_from_slice-in-Some-clause-partly g c = λ told.
    let has : c.index_mut.result.now.content ≡ Some c.in-Some.content = cc in
    let count : length c.args.self.now.items.items ≡ c.len-count.result - 1 + 1 = omega (arith, c.len-count.ensures, c.if-count-eq0.false, c.args.self.now.items.ok.0) in
    on-err c.from_residual.result (record {
      count = 0;
      longer = grown c.args.self.now.items.items (c.len-count.result - 1) c.index_mut.result.now c.in-Some.content c.extend_from_slice.new.self [] count c.index_mut.ensures.value has
          (c.in_err-extend_from_slice-in-Some.ensures.items ∙ sym (append-nil c.in-Some.content.items));
    })

pub returns-in_ok-extend_from_slice-in-Some-clause-longer : goal.returns-in_ok-extend_from_slice-in-Some-clause-longer
returns-in_ok-extend_from_slice-in-Some-clause-longer g c = λ told.
    let has : c.index_mut.result.now.content ≡ Some c.in-Some.content = cc in
    let count : length c.args.self.now.items.items ≡ c.len-count.result - 1 + 1 = omega (arith, c.len-count.ensures, c.if-count-eq0.false, c.args.self.now.items.ok.0) in
    grown c.args.self.now.items.items (c.len-count.result - 1) c.index_mut.result.now c.in-Some.content c.extend_from_slice.new.self c.args.bytes.now count c.index_mut.ensures.value has
    c.in_ok-extend_from_slice-in-Some.ensures.items
