-- The objects of a storage are a finite map by name.
use Rattle.std.proofs.Common.{◌≡◌, ℕ, List, Bool, true, false, refl, sym, ◌∙◌, ap}
use Rattle.std.specs.Prelude.{if◌then◌else◌, Option, Some, None}
use Rattle.std.specs.List.{AllByRecursion}
use Rattle.std.specs.Ordering.{is_eq, is_lt, ordering_reverse}
use Rattle.std.specs.declared.cmp.Ordering.{Ordering}
use Rattle.std.specs.declared.cmp.Ordering.TheVariants.{Less, Equal, Greater}
use Rattle.cfb_format.specs.Names.{Cases, name_cmp}
use Rattle.cfb_format.specs.Tree.{Objects, nothing, storage, stream, names_in, IsOrdered, Object, Found, a_storage, a_stream, is_same_name, object_named, put_before, put_in_order, without}
use Rattle.cfb_format.proofs.NameOrder.{name_cmp-total}

pub equal_by_test : (o : Ordering) → is_eq o ≡ true → o ≡ Equal
equal_by_test Less e = cc
equal_by_test Equal e = refl
equal_by_test Greater e = cc

module _ (cases : Cases) where
  -- names that are the same are told from others alike
  pub alike : (q name other : List ℕ) → is_same_name cases q name ≡ true → is_same_name cases q other ≡ is_same_name cases name other
  alike q name other e = ap is_eq ((name_cmp-total cases).congr q name other (equal_by_test (name_cmp cases q name) e))

  pub alike_back : (q name other : List ℕ) → is_same_name cases name other ≡ true → is_same_name cases q name ≡ is_same_name cases q other
  alike_back q name other e =
      ap is_eq ((name_cmp-total cases).antisymm q name
      ∙ ap ordering_reverse ((name_cmp-total cases).congr name other q (equal_by_test (name_cmp cases name other) e))
      ∙ sym ((name_cmp-total cases).antisymm q other))

  -- ---- an object that is put

  put_step : (q name other : List ℕ) (X : Option Found) (x : Found) (new old : Option Found) → is_same_name cases name other ≡ false
      → new ≡ (if is_same_name cases q name then Some x else old)
      → (if is_same_name cases q other then X else new) ≡ (if is_same_name cases q name then Some x else (if is_same_name cases q other then X else old))
  put_step q name other X x new old apart is = go (is_same_name cases q name) refl
    where
      go : (b : Bool) → is_same_name cases q name ≡ b → (if is_same_name cases q other then X else new) ≡ (if b then Some x else (if is_same_name cases q other then X else old))
      go true e = ap (λ b. if b then X else new) (alike q name other e ∙ apart) ∙ is ∙ ap (λ b. if b then Some x else old) e
      go false e = ap (λ n. if is_same_name cases q other then X else n) (is ∙ ap (λ b. if b then Some x else old) e)

  absent_head : (b : Bool) (x : Found) (rest : Option Found) → (if b then Some x else rest) ≡ None → (b ≡ false) × (rest ≡ None)
  absent_head true x rest e = cc
  absent_head false x rest e = (refl, e)

  -- a new object is found under its name, and the others as before
  pub object_named-put_in_order : (name : List ℕ) (before : Objects → Objects) (x : Found) (q : List ℕ)
      → ((rest : Objects) → object_named cases q (before rest) ≡ (if is_same_name cases q name then Some x else object_named cases q rest))
      → (objects : Objects) → object_named cases name objects ≡ None
      → object_named cases q (put_in_order cases name before objects) ≡ (if is_same_name cases q name then Some x else object_named cases q objects)
  object_named-put_in_order name before x q is nothing absent = is nothing
  object_named-put_in_order name before x q is (storage other info inside rest) absent =
      let here = absent_head (is_same_name cases name other) (record { name = other; object = a_storage info inside }) (object_named cases name rest) absent in
      go (is_lt (name_cmp cases name other)) here.0 (object_named-put_in_order name before x q is rest here.1)
    where
      go : (b : Bool) → is_same_name cases name other ≡ false
          → object_named cases q (put_in_order cases name before rest) ≡ (if is_same_name cases q name then Some x else object_named cases q rest)
          → object_named cases q (if b then before (storage other info inside rest) else storage other info inside (put_in_order cases name before rest))
          ≡ (if is_same_name cases q name then Some x else object_named cases q (storage other info inside rest))
      go true apart next = is (storage other info inside rest)
      go false apart next = put_step q name other (Some (record { name = other; object = a_storage info inside })) x _ (object_named cases q rest) apart next
  object_named-put_in_order name before x q is (stream other info rest) absent =
      let here = absent_head (is_same_name cases name other) (record { name = other; object = a_stream info }) (object_named cases name rest) absent in
      go (is_lt (name_cmp cases name other)) here.0 (object_named-put_in_order name before x q is rest here.1)
    where
      go : (b : Bool) → is_same_name cases name other ≡ false
          → object_named cases q (put_in_order cases name before rest) ≡ (if is_same_name cases q name then Some x else object_named cases q rest)
          → object_named cases q (if b then before (stream other info rest) else stream other info (put_in_order cases name before rest))
          ≡ (if is_same_name cases q name then Some x else object_named cases q (stream other info rest))
      go true apart next = is (stream other info rest)
      go false apart next = put_step q name other (Some (record { name = other; object = a_stream info })) x _ (object_named cases q rest) apart next

  before_others : (name : List ℕ) (object : Object) (q : List ℕ) (rest : Objects)
      → object_named cases q (put_before name object rest) ≡ (if is_same_name cases q name then Some (record { name = name; object = object }) else object_named cases q rest)
  before_others name (a_storage info inside) q rest = refl
  before_others name (a_stream info) q rest = refl

  -- the same of a storage or stream by its name
  pub put_is_found : (name : List ℕ) (object : Object) (q : List ℕ) (objects : Objects) → object_named cases name objects ≡ None
      → object_named cases q (put_in_order cases name (put_before name object) objects)
      ≡ (if is_same_name cases q name then Some (record { name = name; object = object }) else object_named cases q objects)
  put_is_found name object q = object_named-put_in_order name (put_before name object) (record { name = name; object = object }) q (before_others name object q)

  -- ---- an object that is removed

  -- a name that is below all of these is none of them
  absent_later : (q other : List ℕ) (rest : Objects) → is_same_name cases q other ≡ true
      → AllByRecursion (λ later. name_cmp cases other later ≡ Less) (names_in rest) → object_named cases q rest ≡ None
  absent_later q other nothing e h = refl
  absent_later q other (storage next info inside rest) e h =
      ap (λ b. if b then Some (record { name = next; object = a_storage info inside }) else object_named cases q rest) (alike q other next e ∙ ap is_eq h.0)
      ∙ absent_later q other rest e h.1
  absent_later q other (stream next info rest) e h =
      ap (λ b. if b then Some (record { name = next; object = a_stream info }) else object_named cases q rest) (alike q other next e ∙ ap is_eq h.0)
      ∙ absent_later q other rest e h.1

  without_step : (q name other : List ℕ) (x : Found) (kept removed : Option Found)
      → (is_same_name cases q other ≡ true → kept ≡ None)
      → removed ≡ (if is_same_name cases q name then None else kept)
      → (b : Bool) → is_same_name cases name other ≡ b
      → (if b then kept else (if is_same_name cases q other then Some x else removed)) ≡ (if is_same_name cases q name then None else (if is_same_name cases q other then Some x else kept))
  without_step q name other x kept removed absent is true e = go (is_same_name cases q other) refl
    where
      go : (c : Bool) → is_same_name cases q other ≡ c → kept ≡ (if is_same_name cases q name then None else (if c then Some x else kept))
      go true f = absent f ∙ sym (ap (λ b. if b then None else Some x) (alike_back q name other e ∙ f))
      go false f = sym (ap (λ b. if b then None else kept) (alike_back q name other e ∙ f))
  without_step q name other x kept removed absent is false e = go (is_same_name cases q name) refl
    where
      go : (c : Bool) → is_same_name cases q name ≡ c → (if is_same_name cases q other then Some x else removed) ≡ (if c then None else (if is_same_name cases q other then Some x else kept))
      go true f = ap (λ b. if b then Some x else removed) (alike q name other f ∙ e) ∙ is ∙ ap (λ b. if b then None else kept) f
      go false f = ap (λ n. if is_same_name cases q other then Some x else n) (is ∙ ap (λ b. if b then None else kept) f)

  -- a removed object is not found, and the others are as before
  pub object_named-without : (name q : List ℕ) (objects : Objects) → IsOrdered cases objects
      → object_named cases q (without cases name objects) ≡ (if is_same_name cases q name then None else object_named cases q objects)
  object_named-without name q nothing o = go (is_same_name cases q name)
    where
      go : (b : Bool) → ◌≡◌ {A = Option Found} None (if b then None else None)
      go true = refl
      go false = refl
  object_named-without name q (storage other info inside rest) o =
      split (is_same_name cases name other) ∙
      without_step q name other (record { name = other; object = a_storage info inside }) (object_named cases q rest) (object_named cases q (without cases name rest))
      (λ e. absent_later q other rest e o.0) (object_named-without name q rest o.2) (is_same_name cases name other) refl
    where
      split : (b : Bool) → object_named cases q (if b then rest else storage other info inside (without cases name rest))
          ≡ (if b then object_named cases q rest else object_named cases q (storage other info inside (without cases name rest)))
      split true = refl
      split false = refl
  object_named-without name q (stream other info rest) o =
      split (is_same_name cases name other) ∙
      without_step q name other (record { name = other; object = a_stream info }) (object_named cases q rest) (object_named cases q (without cases name rest))
      (λ e. absent_later q other rest e o.0) (object_named-without name q rest o.1) (is_same_name cases name other) refl
    where
      split : (b : Bool) → object_named cases q (if b then rest else stream other info (without cases name rest))
          ≡ (if b then object_named cases q rest else object_named cases q (stream other info (without cases name rest)))
      split true = refl
      split false = refl
