-- Lines that were written say what was meant.
use Rattle.std.proofs.Common.{◌≡◌, ◌≢◌, ℕ, zero, suc, ◌+◌, ◌-◌, ◌/◌, ◌%◌, ◌<◌, ◌≤◌, ◌^◌, ◌==◌, inl, Bool, true, false, List, [], ◌∷◌, ◌++◌, length, get_or, refl, sym, ◌∙◌, ap, subst, append_assoc, append-nil, arith, flat_map, eqb}
use Rattle.std.proofs.lemmas.Bool.{leb-true, ltb-true}
use Rattle.std.proofs.lemmas.Fmt.{IsAscii-decimal, decimal_is_IsNumeral}
use Rattle.std.proofs.lemmas.List.Splits.{slice_split-cons_no, slice_split-cons_yes}
use Rattle.std.proofs.lemmas.Str.{IsUtf8-append, IsUtf8-from_ascii, IsUtf8-nil, encodes-chars, inside_one}
use Rattle.std.proofs.lemmas.Str.Parse.{digit_at}
use Rattle.std.specs.Prelude.{◌&&◌, Some, chars, drop, encode_utf8, encode_utf8_all, nat_eq, nat_le, nat_lt, pos, if◌then◌else◌}
use Rattle.std.specs.Fmt.{decimal}
use Rattle.std.specs.List.{AllByRecursion, AllZip, list_all, onto_first, slice_split, starts_with}
use Rattle.std.specs.Str.{IsUtf8}
use Rattle.std.specs.Str.Parse.{AllDigits}
use Rattle.uuid.specs.Text.{digit_place, hyphen, hyphenated_text, is_hyphen_place, lower, nibble, parsed}
use Rattle.uuid.specs.Text.{hex_digit as uuid_digit}
use Rattle.uuid.proofs.TextLemmas.{by_index_at, by_index_length}
use Rattle.cfb_format.specs.Timestamp.{unix_epoch}
use Rattle.cfb_text.specs.Meant.{meant}
use Rattle.cfb_text.specs.Shown.{is_hidden, shown}
use Rattle.cfb_text.proofs.Apart.{shown_is_plain}
use Rattle.cfb_text.proofs.Meaning.{means_what_is_shown}
use Rattle.cfb_lines.specs.cfb_rules.Calls.{create_storage, set_created_time, set_modified_time, set_state_bits, set_storage_clsid}
use Rattle.cfb_lines.specs.cfb_rules.Lists.{Command, by_path, creates, on_stream}
use Rattle.cfb_lines.specs.cfb_rules.StreamCalls.{write}
use Rattle.cfb_lines.specs.declared.word.Word.{Word}
use Rattle.cfb_lines.specs.declared.word.Word.TheVariants.{Mkdir, Mkdirs, Touch, Created, Modified, Rmdir, Rmtree, Rm, Clsid, Bits, Len, Put, Add}
use Rattle.cfb_lines.specs.Commands.{IsLine, Says}
use Rattle.cfb_lines.specs.Fields.{IsNumber, hex_digit, hex_pair}
use Rattle.cfb_lines.specs.Lines.{comment, lines_in, lines_of_parts}
use Rattle.cfb_lines.specs.Words.{spelling}
use Rattle.cfb_lines.specs.Writing.{AddsLines, IsHeadOf, IsLineOf, Lacks, LinesAreAScript, ended}
use Rattle.cfb_lines.proofs.Parts.{lines_more, some_part}

-- ---- letters that are none of a text's

pub lacks_append : (c : ℕ) (xs ys : List ℕ) → Lacks c xs → Lacks c ys → Lacks c (xs ++ ys)
lacks_append c [] ys h k = k
lacks_append c (x ∷ xs) ys h k = (h.0, lacks_append c xs ys h.1 k)

lacks_at : (c : ℕ) (bs : List ℕ) → ((k : ℕ) → k < length bs → get_or bs k 0 ≢ c) → Lacks c bs
lacks_at c [] h = tt
lacks_at c (b ∷ bs) h = (h 0 (omega arith), lacks_at c bs (λ k less. h (suc k) (omega arith)))

-- a letter below all of them
pub lacks_below : (c bound : ℕ) → c < bound → (xs : List ℕ) → list_all (λ d. nat_le bound d) xs ≡ true → Lacks c xs
lacks_below c bound low [] h = tt
lacks_below c bound low (x ∷ xs) h = go (nat_le bound x) refl h (lacks_below c bound low xs)
  where
    go : (b : Bool) → nat_le bound x ≡ b → (b && list_all (λ d. nat_le bound d) xs) ≡ true → (list_all (λ d. nat_le bound d) xs ≡ true → Lacks c xs) → Lacks c (x ∷ xs)
    go true e h next = (λ is. omega (arith, leb-true bound x e, is), next h)
    go false e h next = cc

-- words, numbers and digits have no letter below the minus
word_is_high : (w : Word) → list_all (λ d. nat_le 45 d) (spelling w) ≡ true
word_is_high Mkdir = refl
word_is_high Mkdirs = refl
word_is_high Touch = refl
word_is_high Created = refl
word_is_high Modified = refl
word_is_high Rmdir = refl
word_is_high Rmtree = refl
word_is_high Rm = refl
word_is_high Clsid = refl
word_is_high Bits = refl
word_is_high Len = refl
word_is_high Put = refl
word_is_high Add = refl

ascii_at : (xs : List ℕ) → list_all (λ d. nat_lt d 128) xs ≡ true → (i : ℕ) → get_or xs i 0 < 128
ascii_at [] h i = omega arith
ascii_at (x ∷ xs) h i = go (nat_lt x 128) refl h (ascii_at xs) i
  where
    go : (b : Bool) → nat_lt x 128 ≡ b → (b && list_all (λ d. nat_lt d 128) xs) ≡ true → (list_all (λ d. nat_lt d 128) xs ≡ true → (k : ℕ) → get_or xs k 0 < 128)
        → (k : ℕ) → get_or (x ∷ xs) k 0 < 128
    go false e h next k = cc
    go true e h next zero = omega (arith, ltb-true x 128 e)
    go true e h next (suc k) = next h k

ascii_text : (xs : List ℕ) → list_all (λ d. nat_lt d 128) xs ≡ true → IsUtf8 xs
ascii_text xs h = IsUtf8-from_ascii xs (ascii_at xs h)

word_is_text : (w : Word) → IsUtf8 (spelling w)
word_is_text Mkdir = ascii_text (spelling Mkdir) refl
word_is_text Mkdirs = ascii_text (spelling Mkdirs) refl
word_is_text Touch = ascii_text (spelling Touch) refl
word_is_text Created = ascii_text (spelling Created) refl
word_is_text Modified = ascii_text (spelling Modified) refl
word_is_text Rmdir = ascii_text (spelling Rmdir) refl
word_is_text Rmtree = ascii_text (spelling Rmtree) refl
word_is_text Rm = ascii_text (spelling Rm) refl
word_is_text Clsid = ascii_text (spelling Clsid) refl
word_is_text Bits = ascii_text (spelling Bits) refl
word_is_text Len = ascii_text (spelling Len) refl
word_is_text Put = ascii_text (spelling Put) refl
word_is_text Add = ascii_text (spelling Add) refl

digits_lack : (c : ℕ) (ds : List ℕ) → c < 45 → AllDigits 10 ds → Lacks c ds
digits_lack c ds low digits = lacks_at c ds (λ k less is. omega (arith, (digit_at ds k digits less).0, is))

-- a letter of ASCII is in a text only as itself
encoded_lacks : (c letter : ℕ) → c < 128 → letter ≢ c → Lacks c (encode_utf8 letter)
encoded_lacks c letter low other = lacks_at c (encode_utf8 letter)
    (λ k less is. other (inside_one letter [] (encode_utf8 letter) k (sym (append-nil (encode_utf8 letter))) less (omega (arith, is)) ∙ is))

text_lacks : (c : ℕ) (letters : List ℕ) → c < 128 → Lacks c letters → Lacks c (encode_utf8_all letters)
text_lacks c [] low h = tt
text_lacks c (letter ∷ letters) low h = lacks_append c (encode_utf8 letter) (encode_utf8_all letters) (encoded_lacks c letter low h.0) (text_lacks c letters low h.1)

plain_lacks : (c : ℕ) (letters : List ℕ) → is_hidden c ≡ true → AllByRecursion (λ d. is_hidden d ≡ false) letters → Lacks c letters
plain_lacks c [] hidden h = tt
plain_lacks c (d ∷ letters) hidden h = (λ is. let both : true ≡ false = sym hidden ∙ ap is_hidden (sym is) ∙ h.0 in cc, plain_lacks c letters hidden h.1)

-- what is shown of a path has neither a tab nor an end of a line
seen_lacks : (c : ℕ) (seen path : List ℕ) → c < 128 → is_hidden c ≡ true → IsUtf8 seen → chars seen ≡ shown path → Lacks c seen
seen_lacks c seen path low hidden utf8 says =
    subst (Lacks c) (encodes-chars seen utf8)
    (text_lacks c (chars seen) low (subst (Lacks c) (sym says) (plain_lacks c (shown path) hidden (shown_is_plain path))))

-- ---- texts cut at a letter

eqb_refl : (c : ℕ) → eqb c c ≡ true
eqb_refl c = grind arith

eqb_other : (x c : ℕ) → x ≢ c → eqb x c ≡ false
eqb_other x c other = grind arith

pub split_at : (c : ℕ) (xs ys : List ℕ) → Lacks c xs → slice_split (λ b. eqb b c) (xs ++ c ∷ ys) ≡ xs ∷ slice_split (λ b. eqb b c) ys
split_at c [] ys h = slice_split-cons_yes (λ b. eqb b c) c ys (eqb_refl c)
split_at c (x ∷ xs) ys h =
    slice_split-cons_no (λ b. eqb b c) x (xs ++ c ∷ ys) (eqb_other x c h.0) ∙ ap (onto_first x) (split_at c xs ys h.1)

split_alone : (c : ℕ) (xs : List ℕ) → Lacks c xs → slice_split (λ b. eqb b c) xs ≡ xs ∷ []
split_alone c [] h = refl
split_alone c (x ∷ xs) h = slice_split-cons_no (λ b. eqb b c) x xs (eqb_other x c h.0) ∙ ap (onto_first x) (split_alone c xs h.1)

three_fields : (word path field : List ℕ) → Lacks 9 word → Lacks 9 path → Lacks 9 field
    → slice_split (λ b. b == 9) (word ++ (9 ∷ (path ++ (9 ∷ field)))) ≡ word ∷ path ∷ field ∷ []
three_fields word path field w p f =
    split_at 9 word (path ++ (9 ∷ field)) w
    ∙ ap (λ (xs : List (List ℕ)). word ∷ xs) (split_at 9 path field p ∙ ap (λ (xs : List (List ℕ)). path ∷ xs) (split_alone 9 field f))

-- ---- lines

line_first : (line rest : List ℕ) → Lacks 10 line → lines_in (ended line ++ rest) ≡ line ∷ lines_in rest
line_first line rest h =
    ap lines_in (append_assoc line (10 ∷ []) rest)
    ∙ ap lines_of_parts (split_at 10 line rest h)
    ∙ lines_more line (slice_split (λ b. eqb b 10) rest) (some_part 10 rest)

lines_back : (lines : List (List ℕ)) → AllByRecursion (Lacks 10) lines → lines_in (flat_map ended lines) ≡ lines
lines_back [] h = refl
lines_back (line ∷ lines) h = line_first line (flat_map ended lines) h.0 ∙ ap (λ (ls : List (List ℕ)). line ∷ ls) (lines_back lines h.1)

pub lines_are_a_script : LinesAreAScript
lines_are_a_script rest text commands whole adds =
    let front = comment ++ rest in
    let lines : lines_in text ≡ front ∷ adds.lines =
    ap lines_in adds.text
    ∙ line_first front (flat_map ended adds.lines) (lacks_append 10 comment rest comment_is_whole whole)
    ∙ ap (λ (ls : List (List ℕ)). front ∷ ls) (lines_back adds.lines adds.whole) in
    let begins : starts_with nat_eq text comment ≡ true = ap (λ (t : List ℕ). starts_with nat_eq t comment) adds.text in
    subst (λ (ls : List (List ℕ)). AllZip IsLine ls commands)
    (sym (ap (λ (b : Bool). drop (if b then 1 else 0) (lines_in text)) begins ∙ ap (drop 1) lines)) adds.each
  where
    comment_is_whole : Lacks 10 comment
    comment_is_whole = lacks_below 10 32 (omega arith) comment refl

-- ---- fields

number_utf8 : (n : ℕ) → n < 2 ^ 64 → IsUtf8 (decimal n)
number_utf8 n fits = IsUtf8-from_ascii (decimal n) (IsAscii-decimal n fits)

pub number_lacks : (c n : ℕ) → c < 45 → n < 2 ^ 64 → Lacks c (decimal n)
number_lacks c n low fits = digits_lack c (decimal n) low (decimal_is_IsNumeral n fits).0.1

is_number : (bits n : ℕ) → n < 2 ^ bits → n < 2 ^ 64 → IsNumber bits (decimal n) n
is_number bits n small fits = ((decimal_is_IsNumeral n fits).0, small, (decimal_is_IsNumeral n fits).1)

zero_is_number : IsNumber 63 (48 ∷ []) 0
zero_is_number = ((omega arith, (let low : 0 < 10 = omega arith in low, tt)), omega arith, refl)

place_is_high : (b : Bool) (d : ℕ) → 45 ≤ (if b then hyphen else uuid_digit lower d)
place_is_high true d = omega arith
place_is_high false d = go (nat_lt d 10)
  where
    go : (b : Bool) → 45 ≤ (if b then 48 + d else 97 + d - 10)
    go true = omega arith
    go false = omega arith

class_lacks : (c : ℕ) (id : List ℕ) → c < 45 → Lacks c (hyphenated_text lower id)
class_lacks c id low =
    let place = λ (k : ℕ). if is_hyphen_place k then hyphen else uuid_digit lower (nibble id (digit_place k)) in
    lacks_at c (hyphenated_text lower id) (λ k less is.
    let within : k < 36 = omega (arith, by_index_length 36 place) in
    omega (arith, sym (by_index_at 36 place k 0 within) ∙ is, place_is_high (is_hyphen_place k) (nibble id (digit_place k))))

hex_is_high : (d : ℕ) → 45 ≤ hex_digit d
hex_is_high d = go (nat_lt d 10)
  where
    go : (b : Bool) → 45 ≤ (if b then 48 + d else 87 + d)
    go true = omega arith
    go false = omega arith

hex_is_low : (d : ℕ) → d < 16 → hex_digit d < 128
hex_is_low d small = go (nat_lt d 10) refl
  where
    go : (b : Bool) → nat_lt d 10 ≡ b → (if b then 48 + d else 87 + d) < 128
    go true e = omega arith
    go false e = omega arith

bytes_lack : (c : ℕ) (bytes : List ℕ) → c < 45 → Lacks c (flat_map hex_pair bytes)
bytes_lack c [] low = tt
bytes_lack c (b ∷ bytes) low =
    let high = hex_is_high (b / 16) in
    let high' = hex_is_high (b % 16) in
    (λ is. omega (arith, high, is), (λ is. omega (arith, high', is), bytes_lack c bytes low))

pair_at : (x y : ℕ) → x < 128 → y < 128 → (i : ℕ) → get_or (x ∷ y ∷ []) i 0 < 128
pair_at x y h k zero = h
pair_at x y h k (suc zero) = k
pair_at x y h k (suc (suc i)) = omega arith

bytes_utf8 : (bytes : List ℕ) → AllByRecursion (λ b. b < 256) bytes → IsUtf8 (flat_map hex_pair bytes)
bytes_utf8 [] h = IsUtf8-nil
bytes_utf8 (b ∷ bytes) h =
    IsUtf8-append (hex_pair b) (flat_map hex_pair bytes)
    (IsUtf8-from_ascii (hex_pair b) (pair_at (hex_digit (b / 16)) (hex_digit (b % 16)) (hex_is_low (b / 16) (omega (arith, h.0))) (hex_is_low (b % 16) (omega arith))))
    (bytes_utf8 bytes h.1)

pub small_bytes : (bytes : List ℕ) → ((k : ℕ) → k < length bytes → get_or bytes k 0 < 256) → AllByRecursion (λ b. b < 256) bytes
small_bytes [] h = tt
small_bytes (b ∷ bytes) h = (h 0 (omega arith), small_bytes bytes (λ k less. h (suc k) (omega arith)))

-- ---- pieces of a line

pub line_made : (old middle now new path field : List ℕ) (word : Word) → IsHeadOf old middle word path → now ≡ middle ++ field → new ≡ now ++ 10 ∷ [] → IsLineOf old new word path field
line_made old middle now new path field word head a b =
    let front = spelling word in
    let regrouped : ((old ++ (front ++ (9 ∷ (head.seen ++ 9 ∷ [])))) ++ field) ++ 10 ∷ [] ≡ old ++ ((front ++ (9 ∷ (head.seen ++ (9 ∷ field)))) ++ 10 ∷ []) = simp append_assoc in
    record {
      seen = head.seen;
      text = b ∙ ap (λ (bs : List ℕ). bs ++ 10 ∷ []) (a ∙ ap (λ (bs : List ℕ). bs ++ field) head.text) ∙ regrouped;
      utf8 = head.utf8;
      says = head.says;
    }

-- ---- one line

-- a line of a word, a path and a field is the command that they say
pub line_says : (old new : List ℕ) (word : Word) (path field : List ℕ) (command : Command) → IsLineOf old new word path field → Lacks 92 path
    → Lacks 9 field → Lacks 10 field → IsUtf8 field → Says word path (field ∷ []) command → AddsLines old new (command ∷ [])
line_says old new word path field command written plain no_tab no_end utf8 says =
    let line = spelling word ++ (9 ∷ (written.seen ++ (9 ∷ field))) in
    let back : meant (chars written.seen) ≡ path = ap meant written.says ∙ means_what_is_shown path plain in
    let tab = ascii_text (9 ∷ []) refl in
    let behind = IsUtf8-append (9 ∷ []) field tab utf8 in
    let from_path = IsUtf8-append written.seen (9 ∷ field) written.utf8 behind in
    record {
      lines = line ∷ [];
      text = written.text ∙ ap (λ (bs : List ℕ). old ++ bs) (sym (append-nil (ended line)));
      whole = (
        lacks_append 10 (spelling word) (9 ∷ (written.seen ++ (9 ∷ field))) (lacks_below 10 45 (omega arith) (spelling word) (word_is_high word))
            (λ is. omega (arith, is), lacks_append 10 written.seen (9 ∷ field) (seen_lacks 10 written.seen path (omega arith) refl written.utf8 written.says) (λ is. omega (arith, is), no_end)),
        tt,
      );
      each = (
        record {
          text = IsUtf8-append (spelling word) (9 ∷ (written.seen ++ (9 ∷ field))) (word_is_text word) (IsUtf8-append (9 ∷ []) (written.seen ++ (9 ∷ field)) tab from_path);
          word = word;
          path = written.seen;
          rest = field ∷ [];
          fields = three_fields (spelling word) written.seen field (lacks_below 9 45 (omega arith) (spelling word) (word_is_high word))
              (seen_lacks 9 written.seen path (omega arith) refl written.utf8 written.says) no_tab;
          says = subst (λ (p : List ℕ). Says word p (field ∷ []) command) (sym back) says;
        },
        tt,
      );
    }

module _ (old new path : List ℕ) (plain : Lacks 92 path) where
  pub storage_line : IsLineOf old new Mkdir path (48 ∷ []) → AddsLines old new (by_path (create_storage path unix_epoch) ∷ [])
  storage_line written =
      line_says old new Mkdir path (48 ∷ []) (by_path (create_storage path unix_epoch)) written plain (λ is. omega (arith, is), tt) (λ is. omega (arith, is), tt) (ascii_text (48 ∷ []) refl)
      (48 ∷ [], pos 0, refl, inl (0, zero_is_number, refl), refl)

  pub class_line : (field id : List ℕ) → IsLineOf old new Clsid path field → field ≡ hyphenated_text lower id → Some id ≡ parsed field → IsUtf8 field
      → AddsLines old new (by_path (set_storage_clsid path id) ∷ [])
  class_line field id written is says utf8 =
      line_says old new Clsid path field (by_path (set_storage_clsid path id)) written plain
      (subst (Lacks 9) (sym is) (class_lacks 9 id (omega arith))) (subst (Lacks 10) (sym is) (class_lacks 10 id (omega arith))) utf8
      (field, id, refl, sym says, refl)

  pub created_line : (field : List ℕ) (n moment : ℕ) → n < 2 ^ 64 → n ≡ moment → field ≡ decimal n → IsLineOf old new Created path field → AddsLines old new (by_path (set_created_time path moment) ∷ [])
  created_line field n moment fits same is written =
      subst (λ (m : ℕ). AddsLines old new (by_path (set_created_time path m) ∷ [])) same
      (line_says old new Created path (decimal n) (by_path (set_created_time path n)) (subst (IsLineOf old new Created path) is written) plain
      (number_lacks 9 n (omega arith) fits) (number_lacks 10 n (omega arith) fits) (number_utf8 n fits) (decimal n, n, refl, is_number 64 n fits fits, refl))

  pub modified_line : (field : List ℕ) (n moment : ℕ) → n < 2 ^ 64 → n ≡ moment → field ≡ decimal n → IsLineOf old new Modified path field → AddsLines old new (by_path (set_modified_time path moment) ∷ [])
  modified_line field n moment fits same is written =
      subst (λ (m : ℕ). AddsLines old new (by_path (set_modified_time path m) ∷ [])) same
      (line_says old new Modified path (decimal n) (by_path (set_modified_time path n)) (subst (IsLineOf old new Modified path) is written) plain
      (number_lacks 9 n (omega arith) fits) (number_lacks 10 n (omega arith) fits) (number_utf8 n fits) (decimal n, n, refl, is_number 64 n fits fits, refl))

  pub bits_line : (field : List ℕ) (n : ℕ) → n < 2 ^ 32 → field ≡ decimal n → IsLineOf old new Bits path field → AddsLines old new (by_path (set_state_bits path n) ∷ [])
  bits_line field n fits is written =
      let wide : n < 2 ^ 64 = omega arith in
      line_says old new Bits path (decimal n) (by_path (set_state_bits path n)) (subst (IsLineOf old new Bits path) is written) plain
      (number_lacks 9 n (omega arith) wide) (number_lacks 10 n (omega arith) wide) (number_utf8 n wide) (decimal n, n, refl, is_number 32 n fits wide, refl)

  pub content_line : (bytes : List ℕ) → AllByRecursion (λ b. b < 256) bytes → IsLineOf old new Put path (flat_map hex_pair bytes)
      → AddsLines old new (on_stream creates path (write bytes ∷ []) ∷ [])
  content_line bytes small written =
      line_says old new Put path (flat_map hex_pair bytes) (on_stream creates path (write bytes ∷ [])) written plain
      (bytes_lack 9 bytes (omega arith)) (bytes_lack 10 bytes (omega arith)) (bytes_utf8 bytes small) (flat_map hex_pair bytes, bytes, refl, (refl, small), refl)
