use Rattle.std.proofs.Common.{◌≡◌, ◌++◌, [], List, Bool, true, ap, append-nil, arith, length, sym, ◌∙◌}
use Rattle.std.specs.Prelude.{Vec, if◌then◌else◌}
use Rattle.cfb_format.specs.DirectoryEntry.{Entry}
use Rattle.cfb_format.specs.Meaning.{stream_info}
use Rattle.cfb_format.specs.Siblings.{entry_at}
use Rattle.cfb_outline.specs.Families.{is_stream_kind}
use Rattle.cfb_extract.specs.Cuts.{told_cuts}
use Rattle.cfb_extract.specs.Items.{texts}
use Rattle.cfb_extract.specs.Extracted.{CutInfo, cuts_at}
use Rattle.cfb_extract.specs.Steps.{cuts_by}
use Rattle.cfb_extract.proofs.Longer.{kept-longer, kept-same}
use Rattle.cfb_extract.proofs.Named.{place-for}
use Rattle.cfb_extract.proofs.Told.{all-there, told-cut}
use Rattle.cfb_extract.proofs.objects.put_object.Goals as goal
use Rattle.cfb_extract.proofs.objects.put_object.Goals.{then-got-len+in_ok-path+in_ok-push, else-got-len}

pub make_folder-requires : goal.make_folder-requires
make_folder-requires g c = place-for c.args.names.now c.as_slice.result.now c.requires.names (ap texts c.as_slice.ensures.value ∙ c.in_ok-place.ensures)

pub make_file-requires : goal.make_file-requires
make_file-requires g c = place-for c.args.names.now c.as_slice-2.result.now c.requires.names (ap texts c.as_slice-2.ensures.value ∙ c.in_ok-place.ensures)

pub returns-in_err-make_folder-clause-stays : goal.returns-in_err-make_folder-clause-stays
returns-in_err-make_folder-clause-stays g c = λ told. kept-same _ _ (c.in_err-make_folder.ensures.kept told)

pub returns-in_err-make_file-clause-stays : goal.returns-in_err-make_file-clause-stays
returns-in_err-make_file-clause-stays g c = λ told. kept-same _ _ (c.in_err-make_file.ensures.kept told)

pub returns-clause-stays : goal.returns-clause-stays
returns-clause-stays g c = λ told. kept-longer _ _ _ (texts c.as_slice-2.result.now) (c.in_ok-make_file.ensures.made told) (c.in_ok-got.ensures.any told)

pub returns-clause-cuts : goal.returns-clause-cuts
returns-clause-cuts g c = λ tells.
    let es = g.S.Source.listed c.args.source.now in
    let content = g.S.Source.content c.args.source.now in
    let names = texts c.args.names.now in
    let info = stream_info content (entry_at es c.args.entry) in
    let is : is_stream_kind (entry_at es c.args.entry).obj_type ≡ true = sym c.is_stream.ensures ∙ c.if-not-is_stream.false in
    let got : c.in_ok-got.got ≡ length (content (entry_at es c.args.entry)) = c.in_ok-got.ensures.count tells in
    let len : c.stream_len-len.result ≡ (entry_at es c.args.entry).stream_len =
    c.stream_len-len.ensures ∙ ap (λ (xs : List Entry). (entry_at xs c.args.entry).stream_len) c.in_ok-got.ensures.stays.listed in
    let by : cuts_by es content c.args.entry names ≡ cuts_at names info = ap (λ (b : Bool). if b then cuts_at names info else []) is in
    elim c.if-got-len.branch [
      | then-got-len+in_ok-path+in_ok-push w ↦
          ap (λ (v : Vec _ _). told_cuts v.items) w.cuts-is
          ∙ told-cut c.args.cuts.now.items w.push.new.self.items (record { path = w.in_ok-path.path; got = c.in_ok-got.got; len = c.stream_len-len.result }) names info
          w.in_ok-push.ensures.items w.in_ok-path.ensures got len (λ same. let differ : c.in_ok-got.got ≡ c.stream_len-len.result = got ∙ same ∙ sym len in omega arith)
          ∙ ap (λ (xs : List CutInfo). told_cuts c.args.cuts.now.items ++ xs) (sym by)
      | else-got-len w ↦
          ap (λ (v : Vec _ _). told_cuts v.items) w.cuts-is ∙ sym (append-nil (told_cuts c.args.cuts.now.items))
          ∙ ap (λ (xs : List CutInfo). told_cuts c.args.cuts.now.items ++ xs)
          (sym (by ∙ all-there names info (let even : c.in_ok-got.got ≡ c.stream_len-len.result = omega arith in sym got ∙ even ∙ len)))
    ]
