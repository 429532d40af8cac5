-- Bytes some of whose words are read as others, and zeros behind them: parts of them, and one byte after the other.
use Rattle.std.proofs.Common.{◌≡◌, ◌<◌, ◌≤◌, ℕ, zero, suc, ◌+◌, ◌-◌, List, [], ◌∷◌, ◌++◌, Bool, true, false, length, take, drop, get_or, min, max, replicate, inl, inr, refl, sym, ◌∙◌, ap, subst, arith, append_assoc, append-nil, drop-cons, length-append, length-drop, length-take, zero-add, add-one}
use Rattle.std.specs.Prelude.{◌&&◌, ◌⊎◌, nat_le, nat_lt, if◌then◌else◌}
use Rattle.std.proofs.lemmas.Bool.{cases_lt, leb-true, ltb-true}
use Rattle.std.proofs.lemmas.List.{drop-append-le, drop-replicate, drop_all, length-replicate, take-append-le, take-replicate, take_all, take_more}
use Rattle.std.proofs.Math.ListN.{set}
use Rattle.std.proofs.Math.Seq.{drop-append-add, get_or-append_seam, set-append_seam}
use Rattle.cfb_format.specs.declared.medium.MediumFault.{MediumFault}
use Rattle.cfb_format.specs.declared.medium.MediumFault.TheVariants.{Stuck}
use Rattle.cfb_format.specs.Medium.{FailsBy, ReadsAt, part}
use Rattle.cfb_mending.specs.declared.patches.Patch.{Patch}
use Rattle.cfb_mending.specs.Mended.{byte_with, bytes_with, mended, mended_from, padded}

-- ---- one patch

pub with-length : (p : Patch) (place : ℕ) (bytes : List ℕ) → length (bytes_with p place bytes) ≡ length bytes
unfolding bytes_with
with-length p place [] = refl
with-length p place (b ∷ bytes) = ap (λ (n : ℕ). suc n) (with-length p (place + 1) bytes)

pub with-append : (p : Patch) (place : ℕ) (xs ys : List ℕ) → bytes_with p place (xs ++ ys) ≡ bytes_with p place xs ++ bytes_with p (place + length xs) ys
unfolding bytes_with
with-append p place [] ys = ap (λ (n : ℕ). bytes_with p n ys) (omega arith)
with-append p place (x ∷ xs) ys =
    ap (λ (l : List ℕ). byte_with p place x ∷ l)
    (with-append p (place + 1) xs ys ∙ ap (λ (n : ℕ). bytes_with p (place + 1) xs ++ bytes_with p n ys) (omega arith))

with-drop : (p : Patch) (place n : ℕ) (bytes : List ℕ) → drop n (bytes_with p place bytes) ≡ bytes_with p (place + n) (drop n bytes)
unfolding bytes_with
with-drop p place zero bytes = ap (λ (n : ℕ). bytes_with p n bytes) (omega arith)
with-drop p place (suc n) [] = refl
with-drop p place (suc n) (b ∷ bytes) = with-drop p (place + 1) n bytes ∙ ap (λ (k : ℕ). bytes_with p k (drop n bytes)) (omega arith)

with-take : (p : Patch) (place n : ℕ) (bytes : List ℕ) → take n (bytes_with p place bytes) ≡ bytes_with p place (take n bytes)
unfolding bytes_with
with-take p place zero bytes = refl
with-take p place (suc n) [] = refl
with-take p place (suc n) (b ∷ bytes) = ap (λ (l : List ℕ). byte_with p place b ∷ l) (with-take p (place + 1) n bytes)

pub with-part : (p : Patch) (bytes : List ℕ) (at n : ℕ) → part (bytes_with p 0 bytes) at n ≡ bytes_with p at (part bytes at n)
with-part p bytes at n =
    ap (λ (l : List ℕ). take n l) (with-drop p 0 at bytes) ∙ with-take p (0 + at) n (drop at bytes) ∙ ap (λ (k : ℕ). bytes_with p k (take n (drop at bytes))) (zero-add at)

-- a byte that it does not cover stays
uncovered : (a c : Bool) (x b : ℕ) → (a ≡ true → c ≡ true → ⊥) → (if a && c then x else b) ≡ b
uncovered true true x b h = absurd (h refl refl)
uncovered true false x b h = refl
uncovered false true x b h = refl
uncovered false false x b h = refl

pub byte-stays : (p : Patch) (place b : ℕ) → (p.at ≤ place → place < p.«end» → ⊥) → byte_with p place b ≡ b
byte-stays p place b h = uncovered (nat_le p.at place) (nat_lt place p.«end») _ b (λ below above. h (leb-true p.at place below) (ltb-true place p.«end» above))

covered : (a c : Bool) (x b : ℕ) → a ≡ true → c ≡ true → (if a && c then x else b) ≡ x
covered true true x b e f = refl
covered true false x b e f = absurd (let w : false ≡ true = f in cc)
covered false true x b e f = absurd (let w : false ≡ true = e in cc)
covered false false x b e f = absurd (let w : false ≡ true = e in cc)

-- where it covers none of them all stay
pub with-none : (p : Patch) (place : ℕ) (bytes : List ℕ) → ((i : ℕ) → place ≤ i → i < place + length bytes → p.at ≤ i → i < p.«end» → ⊥) → bytes_with p place bytes ≡ bytes
unfolding bytes_with
with-none p place [] h = refl
with-none p place (b ∷ bytes) h = λ j.
    byte-stays p place b (λ from upto. h place (omega arith) (omega arith) from upto) j
    ∷ with-none p (place + 1) bytes (λ i low high from upto. h i (omega (arith, low)) (omega (arith, high)) from upto) j

-- ---- several patches

pub mended-length : (patches : List Patch) (place : ℕ) (bytes : List ℕ) → length (mended_from patches place bytes) ≡ length bytes
mended-length [] place bytes = refl
mended-length (p ∷ patches) place bytes = mended-length patches place (bytes_with p place bytes) ∙ with-length p place bytes

pub mended-part : (patches : List Patch) (bytes : List ℕ) (at n : ℕ) → part (mended_from patches 0 bytes) at n ≡ mended_from patches at (part bytes at n)
mended-part [] bytes at n = refl
mended-part (p ∷ patches) bytes at n = mended-part patches (bytes_with p 0 bytes) at n ∙ ap (λ (l : List ℕ). mended_from patches at l) (with-part p bytes at n)

-- ---- one byte after the other

-- a place past the greatest number is not covered, nor is that number
pub byte-beyond : (p : Patch) (place here b : ℕ) → p.«end» ≤ 18446744073709551615 → here ≡ min place 18446744073709551615 → byte_with p here b ≡ byte_with p place b
byte-beyond p place here b most is = elim (cases_lt place 18446744073709551615) [
  | inl less ↦ ap (λ (n : ℕ). byte_with p n b) (omega (arith, is, less))
  | inr past ↦ byte-stays p here b (λ from upto. absurd (omega (arith, is, past, upto, most))) ∙ sym (byte-stays p place b (λ from upto. absurd (omega (arith, past, upto, most))))
]

pub next-set : (p : Patch) (place : ℕ) (old now : List ℕ) (i v : ℕ) → i < length old → now ≡ bytes_with p place (take i old) ++ drop i old
    → v ≡ byte_with p (place + i) (get_or now i 0) → set now i v ≡ bytes_with p place (take (i + 1) old) ++ drop (i + 1) old
unfolding bytes_with
next-set p place old now i v inside is v-is =
    let first = bytes_with p place (take i old) in
    let b = get_or old i 0 in
    let rest = drop (i + 1) old in
    let upto : length (take i old) ≡ i = omega (arith, inside, length-take i old) in
    let long : length first ≡ i = with-length p place (take i old) ∙ upto in
    let cut : drop i old ≡ b ∷ rest = drop-cons old i 0 inside ∙ ap (λ (n : ℕ). b ∷ drop n old) (sym (add-one i)) in
    let whole : now ≡ first ++ b ∷ rest = is ∙ ap (λ (l : List ℕ). first ++ l) cut in
    let here : get_or now i 0 ≡ b = (λ j. get_or (whole j) (sym long j) 0) ∙ get_or-append_seam first b rest 0 in
    let v-at : v ≡ byte_with p (place + i) b = v-is ∙ ap (λ (x : ℕ). byte_with p (place + i) x) here in
    let more : bytes_with p place (take (i + 1) old) ≡ first ++ byte_with p (place + i) b ∷ [] =
    ap (λ (l : List ℕ). bytes_with p place l) (take_more old i 0 inside) ∙ with-append p place (take i old) (b ∷ []) ∙ ap (λ (n : ℕ). first ++ byte_with p (place + n) b ∷ []) upto in
    (λ j. set (whole j) (sym long j) v) ∙ set-append_seam first b rest v
    ∙ ap (λ (x : ℕ). first ++ x ∷ rest) v-at
    ∙ sym (append_assoc first (byte_with p (place + i) b ∷ []) rest)
    ∙ ap (λ (l : List ℕ). l ++ rest) (sym more)

pub all-set : (p : Patch) (place : ℕ) (old now : List ℕ) (i : ℕ) → length old ≤ i → now ≡ bytes_with p place (take i old) ++ drop i old → now ≡ bytes_with p place old
all-set p place old now i past is =
    is ∙ (λ j. bytes_with p place (take_all i old past j) ++ drop_all i old past j) ∙ append-nil (bytes_with p place old)

-- ---- one patch after the other

pub next-patch : (patches : List Patch) (place i : ℕ) (d : Patch) (now later all : List ℕ) → i < length patches → mended_from (drop i patches) place now ≡ all
    → later ≡ bytes_with (get_or patches i d) place now → mended_from (drop (i + 1) patches) place later ≡ all
next-patch patches place i d now later all inside is set-is =
    let cut : drop i patches ≡ get_or patches i d ∷ drop (i + 1) patches = drop-cons patches i d inside ∙ ap (λ (n : ℕ). get_or patches i d ∷ drop n patches) (sym (add-one i)) in
    ap (λ (l : List ℕ). mended_from (drop (i + 1) patches) place l) set-is ∙ sym (ap (λ (ps : List Patch). mended_from ps place now) cut) ∙ is

pub all-patches : (patches : List Patch) (place i : ℕ) (now all : List ℕ) → length patches ≤ i → mended_from (drop i patches) place now ≡ all → now ≡ all
all-patches patches place i now all past is = sym (ap (λ (ps : List Patch). mended_from ps place now) (drop_all i patches past)) ∙ is

-- ---- reading

-- what a read gave is what lies there once it is patched
pub reads-mended : (can : MediumFault → Bool) (patches : List Patch) (bytes : List ℕ) (old new at : ℕ) (served into : List ℕ) (n : ℕ) → ReadsAt can bytes old new at served n
    → n ≤ length served → into ≡ mended_from patches at (take n served) ++ drop n served → ReadsAt can (mended_from patches 0 bytes) old new at into n
reads-mended can patches bytes old new at served into n r most is =
    let first = mended_from patches at (take n served) in
    let same : length (mended_from patches 0 bytes) ≡ length bytes = mended-length patches 0 bytes in
    let count : length first ≡ n = mended-length patches at (take n served) ∙ omega (arith, most, length-take n served) in
    let long : length into ≡ length served =
    ap (λ (l : List ℕ). length l) is ∙ length-append first (drop n served) ∙ omega (arith, count, most, length-drop n served) in
    record {
      gives = ap (λ (l : List ℕ). take n l) is ∙ take-append-le n first (drop n served) (omega (arith, count)) ∙ take_all n first (omega (arith, count))
          ∙ ap (λ (l : List ℕ). mended_from patches at l) r.gives ∙ sym (mended-part patches bytes at n);
      within = λ some. let w = r.within some in omega (arith, w, same);
      calm = r.calm;
      unasked = λ none. r.unasked (omega (arith, none, long));
      past_end = λ none past. r.past_end none (omega (arith, past, same));
      stuck = λ none asked inside. r.stuck none (omega (arith, asked, long)) (omega (arith, inside, same));
    }

-- ---- zeros behind the end

pub padded-length : (least : ℕ) (bytes : List ℕ) → length (padded least bytes) ≡ max (length bytes) least
padded-length least bytes =
    length-append bytes (replicate (least - length bytes) 0) ∙ omega (arith, length-replicate {A = ℕ} (least - length bytes) 0)

padded-inside : (least : ℕ) (bytes : List ℕ) (at n : ℕ) → at + n ≤ length bytes → part (padded least bytes) at n ≡ part bytes at n
padded-inside least bytes at n inside =
    let zeros : List ℕ = replicate (least - length bytes) 0 in
    ap (λ (l : List ℕ). take n l) (drop-append-le at bytes zeros (omega (arith, inside))) ∙ take-append-le n (drop at bytes) zeros (omega (arith, inside, length-drop at bytes))

padded-behind : (least : ℕ) (bytes : List ℕ) (at n : ℕ) → length bytes ≤ at → at + n ≤ least → part (padded least bytes) at n ≡ replicate n 0
padded-behind least bytes at n past upto =
    let count = least - length bytes in
    let k = at - length bytes in
    let e : at ≡ length bytes + k = omega (arith, past) in
    ap (λ (a : ℕ). part (padded least bytes) a n) e
    ∙ ap (λ (l : List ℕ). take n l) (drop-append-add bytes (replicate count 0) k ∙ drop-replicate k count 0)
    ∙ take-replicate n (count - k) 0 (omega (arith, past, upto))

-- a read that gave something gave it from before the end
pub reads-some : (can : MediumFault → Bool) (least : ℕ) (bytes : List ℕ) (old new at : ℕ) (into : List ℕ) (n : ℕ) → ReadsAt can bytes old new at into n → 0 < n
    → ReadsAt can (padded least bytes) old new at into n
reads-some can least bytes old new at into n r some = record {
  gives = r.gives ∙ sym (padded-inside least bytes at n (r.within some));
  within = λ more. omega (arith, r.within some, padded-length least bytes);
  calm = r.calm;
  unasked = r.unasked;
  past_end = λ none past. absurd (omega (arith, none, some));
  stuck = λ none asked inside. absurd (omega (arith, none, some));
}

-- one that gave nothing was asked past all zeros, or failed
pub reads-none : (can : MediumFault → Bool) (least : ℕ) (bytes : List ℕ) (old mid new at : ℕ) (into : List ℕ) (n : ℕ) → ReadsAt can bytes old mid at into n → n ≡ 0 → new ≡ mid
    → (least ≤ at) ⊎ (at < length bytes) → ReadsAt can (padded least bytes) old new at into 0
reads-none can least bytes old mid new at into n r empty same spot = record {
  gives = refl;
  within = λ some. absurd (omega (arith, some));
  calm = λ some. absurd (omega (arith, some));
  unasked = λ none. same ∙ r.unasked none;
  past_end = λ none past. same ∙ r.past_end empty (omega (arith, past, padded-length least bytes));
  stuck = λ none asked inside.
      subst (λ (k : ℕ). FailsBy can old k Stuck) (sym same)
      (r.stuck empty asked (elim spot [ inl past ↦ omega (arith, past, inside, padded-length least bytes) | inr there ↦ there ]));
}

-- behind the end lie zeros
pub reads-zeros : (can : MediumFault → Bool) (least : ℕ) (bytes : List ℕ) (old mid new at : ℕ) (served into : List ℕ) (n k : ℕ) → ReadsAt can bytes old mid at served n → n ≡ 0
    → new ≡ mid → length bytes ≤ at → at < least → k ≡ min (least - at) (length into) → take k into ≡ replicate k 0 → ReadsAt can (padded least bytes) old new at into k
reads-zeros can least bytes old mid new at served into n k r empty same past below is zeros =
    let calm : new ≡ old = same ∙ r.past_end empty past in
    record {
      gives = zeros ∙ sym (padded-behind least bytes at k past (omega (arith, below, is)));
      within = λ some. omega (arith, below, is, padded-length least bytes);
      calm = λ some. calm;
      unasked = λ none. calm;
      past_end = λ none over. calm;
      stuck = λ none asked inside. absurd (omega (arith, none, asked, below, is));
    }

-- a call that fails behind a read that gave nothing
pub fails-later : (can : MediumFault → Bool) (bytes : List ℕ) (old mid new at : ℕ) (served : List ℕ) (n : ℕ) (fault : MediumFault) → ReadsAt can bytes old mid at served n → n ≡ 0
    → FailsBy can mid new fault → FailsBy can old new fault
fails-later can bytes old mid new at served n fault r empty f =
    let before : old ≤ mid = elim (cases_lt 0 (length served)) [
      | inl asked ↦ elim (cases_lt at (length bytes)) [
        | inl inside ↦ (r.stuck empty asked inside).rises.no_less
        | inr past ↦ omega (arith, r.past_end empty past)
      ]
      | inr unasked ↦ omega (arith, r.unasked (omega (arith, unasked)))
    ] in
    record {
      can = f.can;
      rises = record { no_less = omega (arith, before, f.rises.no_less); more = omega (arith, before, f.rises.more) };
    }

-- and the length is that of the longer
pub length-mended : (patches : List Patch) (least n : ℕ) (bytes : List ℕ) → n ≡ length bytes → max n least ≡ length (mended patches least bytes)
length-mended patches least n bytes is =
    ap (λ (k : ℕ). max k least) is ∙ sym (mended-length patches 0 (padded least bytes) ∙ padded-length least bytes)
