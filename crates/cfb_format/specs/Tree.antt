-- The tree of storages and streams, with nothing of how a file keeps it.
use Rattle.std.specs.Prelude.{ℕ, ◌≡◌, List, [], ◌∷◌, length, ⊤, Bool, Option, Some, None, if◌then◌else◌}
use Rattle.std.specs.List.{AllByRecursion}
use Rattle.std.specs.Ordering.{is_eq, is_lt}
use Rattle.std.specs.declared.cmp.Ordering.TheVariants.{Less}
use Rattle.cfb_format.specs.Names.{Cases, name_cmp}

-- a storage's class id, state bits and moments (MS-CFB 2.6.1)
pub record StorageInfo : Type 0 where
  pub clsid : List ℕ
  pub state_bits : ℕ
  pub created : ℕ
  pub modified : ℕ

-- a stream has its length, and the beginning of its bytes that can be read
pub record StreamInfo : Type 0 where
  pub state_bits : ℕ
  pub len : ℕ
  pub content : List ℕ

-- What is in a storage, in name order: a storage with what is in it, or a stream, and then the rest.
-- It is a map from names to objects: one name stands for all that have its key.
pub data Objects : Type 0 where
  nothing : Objects
  storage : (name : List ℕ) → StorageInfo → (inside rest : Objects) → Objects
  stream : (name : List ℕ) → StreamInfo → (rest : Objects) → Objects

-- the root is a storage without a name of its own
pub record Tree : Type 0 where
  pub root : StorageInfo
  pub objects : Objects

-- all of the stream can be read
abbrev pub IsWhole : StreamInfo → Type 0
IsWhole info = length info.content ≡ info.len

-- all streams can be read
abbrev pub AreWhole : Objects → Type 0
AreWhole nothing = ⊤
AreWhole (storage name info inside rest) = AreWhole inside × AreWhole rest
AreWhole (stream name info rest) = IsWhole info × AreWhole rest

-- the names of the first level
abbrev pub names_in : Objects → List (List ℕ)
names_in nothing = []
names_in (storage name info inside rest) = name ∷ names_in rest
names_in (stream name info rest) = name ∷ names_in rest

-- the names of each storage rise strictly, so no two have one key
abbrev pub IsOrdered : Cases → Objects → Type 0
IsOrdered cases nothing = ⊤
IsOrdered cases (storage name info inside rest) =
    AllByRecursion (λ later. name_cmp cases name later ≡ Less) (names_in rest) × IsOrdered cases inside × IsOrdered cases rest
IsOrdered cases (stream name info rest) =
    AllByRecursion (λ later. name_cmp cases name later ≡ Less) (names_in rest) × IsOrdered cases rest

-- ---- a storage as a map by name

-- one object, without its name
pub data Object : Type 0 where
  a_storage : StorageInfo → Objects → Object
  a_stream : StreamInfo → Object

-- an object with its stored name
pub record Found : Type 0 where
  pub name : List ℕ
  pub object : Object

-- the names have one key
abbrev pub is_same_name : Cases → List ℕ → List ℕ → Bool
is_same_name cases a b = is_eq (name_cmp cases a b)

-- the object of that name on the first level
abbrev pub object_named : Cases → List ℕ → Objects → Option Found
object_named cases name nothing = None
object_named cases name (storage other info inside rest) =
    if is_same_name cases name other then Some (record { name = other; object = a_storage info inside }) else object_named cases name rest
object_named cases name (stream other info rest) =
    if is_same_name cases name other then Some (record { name = other; object = a_stream info }) else object_named cases name rest

-- an object of that name put before others
abbrev pub put_before : List ℕ → Object → Objects → Objects
put_before name (a_storage info inside) rest = storage name info inside rest
put_before name (a_stream info) rest = stream name info rest

-- an object put at its place in the name order, by a function that puts it before what comes after it
abbrev pub put_in_order : Cases → List ℕ → (Objects → Objects) → Objects → Objects
put_in_order cases name before nothing = before nothing
put_in_order cases name before (storage other info inside rest) =
    if is_lt (name_cmp cases name other) then before (storage other info inside rest)
    else storage other info inside (put_in_order cases name before rest)
put_in_order cases name before (stream other info rest) =
    if is_lt (name_cmp cases name other) then before (stream other info rest)
    else stream other info (put_in_order cases name before rest)

-- without the object of that name
abbrev pub without : Cases → List ℕ → Objects → Objects
without cases name nothing = nothing
without cases name (storage other info inside rest) =
    if is_same_name cases name other then rest else storage other info inside (without cases name rest)
without cases name (stream other info rest) =
    if is_same_name cases name other then rest else stream other info (without cases name rest)
