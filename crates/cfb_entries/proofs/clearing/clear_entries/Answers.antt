use Rattle.std.proofs.Common.{◌≢◌, [], List, take, get_or, sym, subst, arith}
use Rattle.std.specs.Prelude.{Contains, ◌+◌, slice_set}
use Rattle.std.proofs.lemmas.List.{take_all, take_more}
use Rattle.std.proofs.lemmas.List.Elements.{Contains-get_or}
use Rattle.cfb_format.specs.DirectoryEntry.{Entry, unallocated_entry}
use Rattle.cfb_codecs.specs.EntryModel.{entries_of}
use Rattle.cfb_siblings.proofs.Held.{entries-length}
use Rattle.cfb_entries.specs.Clearing.{HasCleared}
use Rattle.cfb_entries.proofs.Cleared.{cleared-more, cleared-none}
use Rattle.cfb_entries.proofs.clearing.clear_entries.Goals as goal

pub loop-number-init : goal.loop-number-init
loop-number-init g c =
    let old = entries_of c.args.list.now in
    subst (λ (es : List Entry). HasCleared old es c.args.top []) (sym c.leave_childless.ensures)
    (cleared-none old c.args.top (let top = c.requires.top in omega (arith, top, entries-length c.args.list.now)))

pub unuse_at-requires : goal.unuse_at-requires
unuse_at-requires g c =
    let i = c.loop-number.number-index in
    let inside = c.args.inside.now in
    let within = c.requires.within (get_or inside i 0) (Contains-get_or inside i 0 c.loop-number-test.true) in
    let longer = c.loop-number.invariant.longer in
    omega (arith, within, longer, entries-length c.args.list.now, entries-length c.loop-number.list)

pub loop-number-preserved : goal.loop-number-preserved
loop-number-preserved g c =
    let old = entries_of c.args.list.now in
    let mid = entries_of c.loop-number.list in
    let i = c.loop-number.number-index in
    let inside = c.args.inside.now in
    let n = get_or inside i 0 in
    let member = Contains-get_or inside i 0 c.loop-number-test.true in
    let within = c.requires.within n member in
    let apart : n ≢ c.args.top = λ e. c.requires.apart (subst (Contains inside) e member) in
    let next = cleared-more old mid c.args.top n (take i inside) c.loop-number.invariant (omega (arith, within, entries-length c.args.list.now)) apart in
    subst (λ (es : List Entry). HasCleared old es c.args.top (take (i + 1) inside)) (sym c.unuse_at.ensures)
    (subst (HasCleared old (slice_set mid n unallocated_entry) c.args.top) (sym (take_more inside i 0 c.loop-number-test.true)) next)

pub returns : goal.returns
returns g c =
    subst (HasCleared (entries_of c.args.list.now) (entries_of c.loop-number.list) c.args.top)
    (take_all c.loop-number.number-index c.args.inside.now (let past = c.loop-number-test.false in omega (arith, past))) c.loop-number.invariant
