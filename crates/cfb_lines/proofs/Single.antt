-- A line is one command, and a text one script.
use Rattle.std.proofs.Common.{◌≡◌, ◌∙◌, ◌+◌, ◌/◌, ◌%◌, ◌<◌, ℕ, Bool, true, false, List, [], ◌∷◌, ap, arith, flat_map, inl, inr, refl, subst, sym}
use Rattle.std.proofs.lemmas.Bool.{ltb-false, ltb-true}
use Rattle.std.proofs.lemmas.Option.{same_Some}
use Rattle.std.proofs.lemmas.Str.Parse.{digit_at}
use Rattle.std.specs.List.{AllByRecursion, AllZip}
use Rattle.std.specs.Prelude.{chars, codes, nat_lt, neg_ℤ, pos, ℤ, if◌then◌else◌}
use Rattle.std.specs.Str.{bytes_eq}
use Rattle.std.specs.Str.Parse.{IsNumeral, digits_value}
use Rattle.uuid.specs.Text.{parsed}
use Rattle.cfb_format.specs.Timestamp.{moment_of_unix}
use Rattle.cfb_text.specs.Meant.{meant}
use Rattle.cfb_lines.specs.cfb_rules.Calls.{create_storage, create_storage_all, set_created_time, set_modified_time, set_state_bits, set_storage_clsid, touch}
use Rattle.cfb_lines.specs.cfb_rules.Lists.{Command, by_path, creates, on_stream, opens}
use Rattle.cfb_lines.specs.cfb_rules.StreamCalls.{from_end, seek, set_len, write}
use Rattle.cfb_lines.specs.declared.word.Word.{Word}
use Rattle.cfb_lines.specs.declared.word.Word.TheVariants.{Mkdir, Mkdirs, Touch, Created, Modified, Rmdir, Rmtree, Rm, Clsid, Bits, Len, Put, Add}
use Rattle.cfb_lines.specs.Commands.{HasClass, HasHex, HasMoment, HasNumber, IsLine, OneScript, Says}
use Rattle.cfb_lines.specs.Fields.{IsHex, IsNumber, IsSeconds, hex_digit, hex_pair}
use Rattle.cfb_lines.specs.Lines.{command_lines}
use Rattle.cfb_lines.specs.Words.{spelling}

-- ---- parts of a list

abbrev head_of : List (List ℕ) → List ℕ
head_of [] = []
head_of (x ∷ xs) = x

abbrev rest_of : List (List ℕ) → List (List ℕ)
rest_of [] = []
rest_of (x ∷ xs) = xs

-- ---- words

abbrev word_spelled : List ℕ → Word
word_spelled text =
    if bytes_eq text (codes "mkdir") then Mkdir else if bytes_eq text (codes "mkdirs") then Mkdirs else if bytes_eq text (codes "touch") then Touch
    else if bytes_eq text (codes "created") then Created else if bytes_eq text (codes "modified") then Modified else if bytes_eq text (codes "rmdir") then Rmdir
    else if bytes_eq text (codes "rmtree") then Rmtree else if bytes_eq text (codes "rm") then Rm else if bytes_eq text (codes "clsid") then Clsid
    else if bytes_eq text (codes "bits") then Bits else if bytes_eq text (codes "len") then Len else if bytes_eq text (codes "put") then Put else Add

spelled : (w : Word) → word_spelled (spelling w) ≡ w
spelled Mkdir = refl
spelled Mkdirs = refl
spelled Touch = refl
spelled Created = refl
spelled Modified = refl
spelled Rmdir = refl
spelled Rmtree = refl
spelled Rm = refl
spelled Clsid = refl
spelled Bits = refl
spelled Len = refl
spelled Put = refl
spelled Add = refl

one_word : (v w : Word) → spelling v ≡ spelling w → v ≡ w
one_word v w e = sym (spelled v) ∙ ap word_spelled e ∙ spelled w

-- ---- fields

one_number : (bits m n : ℕ) (text : List ℕ) → IsNumber bits text m → IsNumber bits text n → m ≡ n
one_number bits m n text h k = sym h.2 ∙ k.2

-- a minus is no digit
no_minus : (digits : List ℕ) → IsNumeral 10 (45 ∷ digits) → ⊥
no_minus digits h = omega (arith, (digit_at (45 ∷ digits) 0 h.1 (omega arith)).0)

abbrev behind_first : List ℕ → List ℕ
behind_first [] = []
behind_first (x ∷ xs) = xs

one_seconds : (text : List ℕ) (x y : ℤ) → IsSeconds text x → IsSeconds text y → x ≡ y
one_seconds text x y (inl (m, h, is)) (inl (n, k, is')) = is ∙ ap pos (one_number 63 m n text h k) ∙ sym is'
one_seconds text x y (inl (m, h, is)) (inr k) = absurd (no_minus k.1 (subst (IsNumeral 10) k.2 h.0))
one_seconds text x y (inr h) (inl (n, k, is')) = absurd (no_minus h.1 (subst (IsNumeral 10) h.2 k.0))
one_seconds text x y (inr h) (inr k) =
    let same : h.1 ≡ k.1 = ap behind_first (sym h.2 ∙ k.2) in
    let value : h.0 ≡ k.0 = sym h.5 ∙ ap (digits_value 10) same ∙ k.5 in
    h.6 ∙ ap (λ (v : ℕ). neg_ℤ (pos v)) value ∙ sym k.6

one_digit : (d e : ℕ) → d < 16 → e < 16 → hex_digit d ≡ hex_digit e → d ≡ e
one_digit d e small small' = go (nat_lt d 10) (nat_lt e 10) refl refl
  where
    go : (a b : Bool) → nat_lt d 10 ≡ a → nat_lt e 10 ≡ b → (if a then 48 + d else 87 + d) ≡ (if b then 48 + e else 87 + e) → d ≡ e
    go true true x y is = omega (arith, is)
    go false false x y is = omega (arith, is)
    go true false x y is = absurd (omega (arith, is, ltb-true d 10 x, ltb-false e 10 y))
    go false true x y is = absurd (omega (arith, is, ltb-false d 10 x, ltb-true e 10 y))

abbrev first_of : List ℕ → ℕ
first_of [] = 0
first_of (x ∷ xs) = x

one_list : (xs ys : List ℕ) → AllByRecursion (λ b. b < 256) xs → AllByRecursion (λ b. b < 256) ys → flat_map hex_pair xs ≡ flat_map hex_pair ys → xs ≡ ys
one_list [] [] h k is = refl
one_list [] (y ∷ ys) h k is = cc
one_list (x ∷ xs) [] h k is = cc
one_list (x ∷ xs) (y ∷ ys) h k is =
    let high = one_digit (x / 16) (y / 16) (omega (arith, h.0)) (omega (arith, k.0)) (ap first_of is) in
    let low = one_digit (x % 16) (y % 16) (omega arith) (omega arith) (ap (λ (bs : List ℕ). first_of (behind_first bs)) is) in
    let same : x ≡ y = omega (arith, high, low) in
    ap (λ (b : ℕ). b ∷ xs) same ∙ ap (λ (bs : List ℕ). y ∷ bs) (one_list xs ys h.1 k.1 (ap (λ (bs : List ℕ). behind_first (behind_first bs)) is))

one_hex : (text xs ys : List ℕ) → IsHex text xs → IsHex text ys → xs ≡ ys
one_hex text xs ys h k = one_list xs ys h.1 k.1 (sym h.0 ∙ k.0)

-- ---- what is said

module _ (rest : List (List ℕ)) (c d : Command) where
  moment_once : (make : ℕ → Command) → HasMoment rest (λ moment. c ≡ make moment) → HasMoment rest (λ moment. d ≡ make moment) → c ≡ d
  moment_once make (t, x, r, h, is) (t', y, r', h', is') =
      let same : t ≡ t' = ap head_of (sym r ∙ r') in
      is ∙ ap (λ (z : ℤ). make (moment_of_unix z 0)) (one_seconds t x y h (subst (λ (u : List ℕ). IsSeconds u y) (sym same) h')) ∙ sym is'

  number_once : (bits : ℕ) (make : ℕ → Command) → HasNumber bits rest (λ n. c ≡ make n) → HasNumber bits rest (λ n. d ≡ make n) → c ≡ d
  number_once bits make (t, x, r, h, is) (t', y, r', h', is') =
      let same : t ≡ t' = ap head_of (sym r ∙ r') in
      is ∙ ap make (one_number bits x y t h (subst (λ (u : List ℕ). IsNumber bits u y) (sym same) h')) ∙ sym is'

  hex_once : (make : List ℕ → Command) → HasHex rest (λ bytes. c ≡ make bytes) → HasHex rest (λ bytes. d ≡ make bytes) → c ≡ d
  hex_once make (t, x, r, h, is) (t', y, r', h', is') =
      let same : t ≡ t' = ap head_of (sym r ∙ r') in
      is ∙ ap make (one_hex t x y h (subst (λ (u : List ℕ). IsHex u y) (sym same) h')) ∙ sym is'

  class_once : (make : List ℕ → Command) → HasClass rest (λ id. c ≡ make id) → HasClass rest (λ id. d ≡ make id) → c ≡ d
  class_once make (t, x, r, h, is) (t', y, r', h', is') =
      let same : t ≡ t' = ap head_of (sym r ∙ r') in
      is ∙ ap make (same_Some x y (sym h ∙ ap parsed same ∙ h')) ∙ sym is'

  once : (word : Word) (path : List ℕ) → Says word path rest c → Says word path rest d → c ≡ d
  once Mkdir path h k = moment_once (λ moment. by_path (create_storage path moment)) h k
  once Mkdirs path h k = moment_once (λ moment. by_path (create_storage_all path moment)) h k
  once Touch path h k = moment_once (λ moment. by_path (touch path moment)) h k
  once Created path h k = number_once 64 (λ moment. by_path (set_created_time path moment)) h k
  once Modified path h k = number_once 64 (λ moment. by_path (set_modified_time path moment)) h k
  once Rmdir path h k = h.1 ∙ sym k.1
  once Rmtree path h k = h.1 ∙ sym k.1
  once Rm path h k = h.1 ∙ sym k.1
  once Clsid path h k = class_once (λ id. by_path (set_storage_clsid path id)) h k
  once Bits path h k = number_once 32 (λ bits. by_path (set_state_bits path bits)) h k
  once Len path h k = number_once 64 (λ len. on_stream opens path (set_len len ∷ [])) h k
  once Put path h k = hex_once (λ bytes. on_stream creates path (write bytes ∷ [])) h k
  once Add path h k = hex_once (λ bytes. on_stream opens path (seek (from_end (pos 0)) ∷ write bytes ∷ [])) h k

-- ---- lines

one_line : (line : List ℕ) (c d : Command) → IsLine line c → IsLine line d → c ≡ d
one_line line c d h k =
    let fields = sym h.fields ∙ k.fields in
    let word : k.word ≡ h.word = sym (one_word h.word k.word (ap head_of fields)) in
    let path : k.path ≡ h.path = sym (ap (λ (fs : List (List ℕ)). head_of (rest_of fs)) fields) in
    let rest : k.rest ≡ h.rest = sym (ap (λ (fs : List (List ℕ)). rest_of (rest_of fs)) fields) in
    once h.rest c d h.word (meant (chars h.path)) h.says
    (subst (λ (w : Word). Says w (meant (chars h.path)) h.rest d) word
    (subst (λ (p : List ℕ). Says k.word (meant (chars p)) h.rest d) path
    (subst (λ (fs : List (List ℕ)). Says k.word (meant (chars k.path)) fs d) rest k.says)))

one_each : (lines : List (List ℕ)) (cs ds : List Command) → AllZip IsLine lines cs → AllZip IsLine lines ds → cs ≡ ds
one_each [] [] [] h k = refl
one_each [] [] (d ∷ ds) h k = absurd k
one_each [] (c ∷ cs) ds h k = absurd h
one_each (line ∷ lines) [] ds h k = absurd h
one_each (line ∷ lines) (c ∷ cs) [] h k = absurd k
one_each (line ∷ lines) (c ∷ cs) (d ∷ ds) h k =
    ap (λ (x : Command). x ∷ cs) (one_line line c d h.0 k.0) ∙ ap (λ (xs : List Command). d ∷ xs) (one_each lines cs ds h.1 k.1)

pub one_script : OneScript
one_script text cs ds h k = one_each (command_lines text) cs ds h k
