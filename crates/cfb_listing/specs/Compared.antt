-- Which objects are told alike.
use Rattle.std.specs.Prelude.{◌==◌, Bool}
use Rattle.std.specs.Ordering.{eq_of_both, on}
use Rattle.std.specs.Cmp.{IsPartialEquivalence, and_equiv, nat_eq_equiv, on_equiv, partial_equiv_from_equiv}
use Rattle.std.specs.Cmp.Lexicographic.{nat_list_eq_equiv}
use Rattle.std.specs.Str.{bytes_eq}
use Rattle.cfb_format.specs.DirectoryEntry.{obj_type_byte}
use Rattle.cfb_rules.specs.Calls.{EntryInfo}

-- the same is told of both: names, paths, kinds, and what else there is
abbrev pub same_entry : EntryInfo → EntryInfo → Bool
same_entry =
    eq_of_both (eq_of_both (eq_of_both (eq_of_both (eq_of_both (eq_of_both (eq_of_both
    (on (λ e. e.name) bytes_eq)
    (on (λ e. e.path) bytes_eq))
    (on (λ e. obj_type_byte e.obj_type) ◌==◌))
    (on (λ e. e.len) ◌==◌))
    (on (λ e. e.clsid) bytes_eq))
    (on (λ e. e.state_bits) ◌==◌))
    (on (λ e. e.created) ◌==◌))
    (on (λ e. e.modified) ◌==◌)

pub same_entry_laws : IsPartialEquivalence same_entry
same_entry_laws = partial_equiv_from_equiv (
    and_equiv (and_equiv (and_equiv (and_equiv (and_equiv (and_equiv (and_equiv
    (on_equiv (λ (e : EntryInfo). e.name) nat_list_eq_equiv)
    (on_equiv (λ (e : EntryInfo). e.path) nat_list_eq_equiv))
    (on_equiv (λ (e : EntryInfo). obj_type_byte e.obj_type) nat_eq_equiv))
    (on_equiv (λ (e : EntryInfo). e.len) nat_eq_equiv))
    (on_equiv (λ (e : EntryInfo). e.clsid) nat_list_eq_equiv))
    (on_equiv (λ (e : EntryInfo). e.state_bits) nat_eq_equiv))
    (on_equiv (λ (e : EntryInfo). e.created) nat_eq_equiv))
    (on_equiv (λ (e : EntryInfo). e.modified) nat_eq_equiv)
    )
