-- Objects that paths lead to.
use Rattle.std.proofs.Common.{◌≡◌, ◌==◌, zero, suc, arith, true, [], ◌∷◌}
use Rattle.std.specs.List.{All, list_any}
use Rattle.std.specs.Prelude.{not}
use Rattle.cfb_format.specs.declared.objtype.ObjType.{ObjType}
use Rattle.cfb_format.specs.declared.objtype.ObjType.TheVariants.{Unallocated, Storage, Stream, Root}
use Rattle.cfb_rules.specs.Calls.{EntryInfo}
use Rattle.cfb_lines.proofs.Joined.{both, lacks_backslash, named_so, not_true}
use Rattle.cfb_tool.specs.Dumping.{CanBeDumped, IsNamedAs, can_be_dumped, is_named_as}

-- the name of the root is none, and any other is looked at
named_as : (kind : ObjType) (info : EntryInfo) → is_named_as kind info ≡ true → IsNamedAs kind info
named_as Root info h = tt
named_as Unallocated info h = named_so info.name h
named_as Storage info h = named_so info.name h
named_as Stream info h = named_so info.name h

pub reached_so : (info : EntryInfo) → can_be_dumped info ≡ true → CanBeDumped info
reached_so info h =
    let two = both (is_named_as info.obj_type info) (not (list_any (λ c. c == 92) info.path)) h in
    record {
      named = named_as info.obj_type info two.0;
      path = lacks_backslash info.path (not_true (list_any (λ c. c == 92) info.path) two.1);
    }

pub all_one : {X : Type 0} (P : X → Type 0) (x : X) → P x → All P (x ∷ [])
all_one P x h zero d less = h
all_one P x h (suc k) d less = absurd (omega (arith, less))
