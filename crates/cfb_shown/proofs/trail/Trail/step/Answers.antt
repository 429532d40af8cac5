use Rattle.std.proofs.Common.{◌≡◌, ◌∙◌, inl, inr, ◌+◌, ◌++◌, ◌∷◌, ◌<◌, ◌≤◌, [], List, ℕ, ap, append_assoc, arith, chars, encode_utf8_all, get_or, length, string_bytes, subst, sym, take}
use Rattle.std.proofs.lemmas.List.{length-append, length-take-le}
use Rattle.std.proofs.lemmas.Result.{err_from_is_err_and}
use Rattle.std.proofs.lemmas.Str.{IsCharBoundary-from_take, IsUtf8-string_bytes, encodes-chars}
use Rattle.std.specs.Str.{IsUtf8}
use Rattle.cfb_format.specs.Path.{child_path}
use Rattle.cfb_shown.specs.Along.{path_below, paths_to}
use Rattle.cfb_shown.specs.Trails.{AreEnds, paths_in, paths_of}
use Rattle.cfb_shown.proofs.Trails.{next-count, next-ends, next-paths, own-path, path-at, wanted-bytes, wanted-length}
use Rattle.cfb_shown.proofs.trail.Trail.step.Goals as goal

pub end_at-end-requires : goal.end_at-end-requires
end_at-end-requires g c = subst (λ (xs : List ℕ). c.args.depth < length xs) (sym c.as_slice.ensures.value) c.requires.deep

pub truncate-requires-2 : goal.truncate-requires-2
truncate-requires-2 g c =
    let bytes = string_bytes c.args.self.now.path in
    let ends = c.args.self.now.ends.items in
    let t = c.requires.trail in
    let is : c.end_at-end.result ≡ get_or ends c.args.depth 0 = c.end_at-end.ensures ∙ ap (λ (xs : List ℕ). get_or xs c.args.depth 0) c.as_slice.ensures.value in
    let edge = IsCharBoundary-from_take bytes (get_or ends c.args.depth 0) (IsUtf8-string_bytes c.args.self.now.path) (t.most c.args.depth c.requires.deep) (t.texts c.args.depth c.requires.deep) in
    rw is (λ _. (edge.0, λ _. edge.1))

-- what stays of the path is the path of the storage
cut-is : (bytes ends now : List ℕ) (depth end : ℕ) → now ≡ take end bytes → end ≡ get_or ends depth 0 → now ≡ take (get_or ends depth 0) bytes
cut-is bytes ends now depth end cut is = cut ∙ ap (λ (n : ℕ). take n bytes) is

pub returns-clause-goes : goal.returns-clause-goes
returns-clause-goes g c =
    let bytes = string_bytes c.args.self.now.path in
    let ends = c.args.self.now.ends.items in
    let d = c.args.depth in
    let less = c.requires.deep in
    let t = c.requires.trail in
    let name = c.args.name.now in
    let between = c.separator-separator.result.now in
    let cut = string_bytes c.truncate-2.new.self in
    let joined = string_bytes c.push_str.new.self in
    let new = string_bytes c.push_str-2.new.self in
    let items = c.push.new.self.items in
    let is : c.end_at-end.result ≡ get_or ends d 0 = c.end_at-end.ensures ∙ ap (λ (xs : List ℕ). get_or xs d 0) c.as_slice.ensures.value in
    let kept : cut ≡ take (get_or ends d 0) bytes = cut-is bytes ends cut d c.end_at-end.result c.truncate-2.ensures.bytes is in
    let made : new ≡ take (get_or ends d 0) bytes ++ (between ++ name) =
    c.in_ok-push_str-2.ensures.bytes ∙ ap (λ (bs : List ℕ). bs ++ name) c.in_ok-push_str.ensures.bytes ∙ append_assoc cut between name ∙ ap (λ (bs : List ℕ). bs ++ (between ++ name)) kept in
    let good = subst IsUtf8 made (IsUtf8-string_bytes c.push_str-2.new.self) in
    let own : c.as_str-own.result.now ≡ take (get_or ends d 0) bytes ++ (between ++ name) = c.as_str-own.ensures.value ∙ made in
    let ended : items ≡ take (d + 1) ends ++ length (take (get_or ends d 0) bytes ++ (between ++ name)) ∷ [] =
    c.in_ok-push.ensures.items ∙ ap (λ (xs : List ℕ). xs ++ length c.as_str-own.result.now ∷ []) c.truncate.ensures.items
    ∙ ap (λ (bs : List ℕ). take (d + 1) ends ++ length bs ∷ []) own in
    let separated = subst (λ (bs : List ℕ). (n : List ℕ) → child_path (chars bs) n ≡ (chars bs ++ chars between) ++ n) c.as_str.ensures.value c.separator-separator.ensures in
    let wanted = path_below (paths_in bytes ends) d (chars name) in
    let told : wanted ≡ child_path (chars cut) (chars name) = ap (λ (p : List ℕ). child_path p (chars name)) (path-at bytes ends t d less ∙ ap chars (sym kept)) in
    let says : chars new ≡ wanted =
    own-path cut between name joined new wanted (IsUtf8-string_bytes c.truncate-2.new.self) (IsUtf8-string_bytes c.push_str.new.self) c.in_ok-push_str.ensures.bytes c.in_ok-push_str-2.ensures.bytes separated told in
    let long : length (encode_utf8_all wanted) ≡ length new = ap (λ (cs : List ℕ). length (encode_utf8_all cs)) (sym says) ∙ ap (λ (bs : List ℕ). length bs) (encodes-chars new (IsUtf8-string_bytes c.push_str-2.new.self)) in
    let count : length items ≡ d + 2 = ap (λ (xs : List ℕ). length xs) ended ∙ next-count bytes ends t d less (between ++ name) good in
    record {
      trail = subst (λ (bs : List ℕ). AreEnds bs items) (sym made)
          (subst (λ (xs : List ℕ). AreEnds (take (get_or ends d 0) bytes ++ (between ++ name)) xs) (sym ended) (next-ends bytes ends t d less (between ++ name) good));
      count = count;
      paths = ap (λ (bs : List ℕ). paths_in bs items) made ∙ ap (λ (xs : List ℕ). paths_in (take (get_or ends d 0) bytes ++ (between ++ name)) xs) ended
          ∙ next-paths bytes ends t d less (between ++ name) good
          ∙ ap (λ (p : List ℕ). take (d + 1) (paths_in bytes ends) ++ p ∷ []) (ap chars (sym made) ∙ says);
      own = says;
      bytes = omega (arith, long, c.push_str-2.new.self.bytes.ok.0, c.push_str-2.new.self.bytes.ok.1);
      levels = omega (arith, count, c.push.new.self.ok.0, c.push.new.self.ok.1);
      room = record {
        path = let a = c.truncate-2.ensures.capacity in let b = c.push_str.ensures.capacity in let e = c.push_str-2.ensures.capacity in omega (arith, a, b, e);
        levels = let a = c.truncate.ensures.capacity in let b = c.push.ensures.capacity in omega (arith, a, b);
      };
    }

-- the bytes of the wanted path
pub long-is : (bytes ends cut between name : List ℕ) (d : ℕ) (t : AreEnds bytes ends) (less : d < length ends) → cut ≡ take (get_or ends d 0) bytes → IsUtf8 cut → IsUtf8 between → IsUtf8 name
    → ((n : List ℕ) → child_path (chars cut) n ≡ (chars cut ++ chars between) ++ n)
    → length (encode_utf8_all (path_below (paths_in bytes ends) d (chars name))) ≡ length cut + (length between + length name)
long-is bytes ends cut between name d t less kept one two three separated =
    wanted-length cut between name (path_below (paths_in bytes ends) d (chars name))
    (wanted-bytes cut between name (path_below (paths_in bytes ends) d (chars name)) one two three separated
    (ap (λ (p : List ℕ). child_path p (chars name)) (path-at bytes ends t d less ∙ ap chars (sym kept))))

pub returns-in_err-push_str-clause-full : goal.returns-in_err-push_str-clause-full
returns-in_err-push_str-clause-full g c =
    let bytes = string_bytes c.args.self.now.path in
    let ends = c.args.self.now.ends.items in
    let is : c.end_at-end.result ≡ get_or ends c.args.depth 0 = c.end_at-end.ensures ∙ ap (λ (xs : List ℕ). get_or xs c.args.depth 0) c.as_slice.ensures.value in
    let kept = cut-is bytes ends (string_bytes c.truncate-2.new.self) c.args.depth c.end_at-end.result c.truncate-2.ensures.bytes is in
    let separated = subst (λ (bs : List ℕ). (n : List ℕ) → child_path (chars bs) n ≡ (chars bs ++ chars c.separator-separator.result.now) ++ n) c.as_str.ensures.value c.separator-separator.ensures in
    let long = long-is bytes ends (string_bytes c.truncate-2.new.self) c.separator-separator.result.now c.args.name.now c.args.depth c.requires.trail c.requires.deep kept
    (IsUtf8-string_bytes c.truncate-2.new.self) c.separator-separator.utf8 c.utf8.name separated in
    let full = c.in_err-push_str.ensures.full in
    let same = c.truncate-2.ensures.capacity in
    let p = err_from_is_err_and c.from_residual.result c.from_residual.ensures.1 in
    rw p.1 (inl (omega (arith, long, full, same, c.truncate-2.new.self.bytes.ok.0)))

pub returns-in_err-push_str-2-clause-full : goal.returns-in_err-push_str-2-clause-full
returns-in_err-push_str-2-clause-full g c =
    let bytes = string_bytes c.args.self.now.path in
    let ends = c.args.self.now.ends.items in
    let is : c.end_at-end.result ≡ get_or ends c.args.depth 0 = c.end_at-end.ensures ∙ ap (λ (xs : List ℕ). get_or xs c.args.depth 0) c.as_slice.ensures.value in
    let kept = cut-is bytes ends (string_bytes c.truncate-2.new.self) c.args.depth c.end_at-end.result c.truncate-2.ensures.bytes is in
    let separated = subst (λ (bs : List ℕ). (n : List ℕ) → child_path (chars bs) n ≡ (chars bs ++ chars c.separator-separator.result.now) ++ n) c.as_str.ensures.value c.separator-separator.ensures in
    let long = long-is bytes ends (string_bytes c.truncate-2.new.self) c.separator-separator.result.now c.args.name.now c.args.depth c.requires.trail c.requires.deep kept
    (IsUtf8-string_bytes c.truncate-2.new.self) c.separator-separator.utf8 c.utf8.name separated in
    let full = c.in_err-push_str-2.ensures.full in
    let same = c.truncate-2.ensures.capacity in
    let more = c.push_str.ensures.capacity in
    let joined = c.in_ok-push_str.ensures.len in
    let p = err_from_is_err_and c.from_residual-in_err-push_str-2.result c.from_residual-in_err-push_str-2.ensures.1 in
    rw p.1 (inl (omega (arith, long, full, same, more, joined, c.truncate-2.new.self.bytes.ok.0)))

pub returns-in_err-push-clause-full : goal.returns-in_err-push-clause-full
returns-in_err-push-clause-full g c =
    let few = ap (λ (xs : List ℕ). length xs) c.truncate.ensures.items in
    let deep = c.requires.deep in
    let full = c.in_err-push.ensures.full in
    let same = c.truncate.ensures.capacity in
    let some = length-take-le (c.args.depth + 1) c.args.self.now.ends.items (omega (arith, deep)) in
    let p = err_from_is_err_and c.from_residual-in_err-push.result c.from_residual-in_err-push.ensures.1 in
    rw p.1 (inr (omega (arith, few, full, same, some, c.truncate.new.self.ok.0)))
