-- Fields that say something, and lines one after the other.
use Rattle.std.proofs.Common.{◌≡◌, ℕ, ◌+◌, ◌==◌, List, [], ◌∷◌, ◌++◌, length, sum, Option, Some, true, refl, sym, ◌∙◌, ap, subst, append_assoc, append-nil, arith, length-append}
use Rattle.std.proofs.lemmas.Bool.{eqb-true}
use Rattle.std.specs.Prelude.{IfErr, Result, Ok, Err, chars, if◌then◌else◌}
use Rattle.cfb_text.specs.Meant.{meant}
use Rattle.std.specs.List.{AllZip, slice_split}
use Rattle.cfb_lines.specs.cfb_rules.Lists.{Command}
use Rattle.cfb_lines.specs.declared.error.WrongLine.{WrongLine}
use Rattle.cfb_lines.specs.declared.error.WrongLine.TheVariants.{NotText, NoWord, Wants, NotA}
use Rattle.cfb_lines.specs.declared.error.LineError.{LineError}
use Rattle.cfb_lines.specs.declared.error.LineError.TheVariants.{Wrong, Memory}
use Rattle.cfb_lines.specs.declared.word.Word.{Word}
use Rattle.cfb_lines.specs.declared.word.Word.TheVariants.{Mkdir, Mkdirs, Touch, Created, Modified, Rmdir, Rmtree, Rm, Clsid, Bits, Len, Put, Add}
use Rattle.cfb_lines.specs.declared.word.Field.{Field}
use Rattle.cfb_lines.specs.declared.word.Field.TheVariants.{Seconds, Number32, Number64, Bytes, ClassId}
use Rattle.cfb_lines.specs.Commands.{IsLine, IsScript, Says}
use Rattle.cfb_lines.specs.Lines.{command_lines, comment_count, lines_in}
use Rattle.cfb_lines.specs.Wrong.{IsFirstWrong, IsNotA, IsOfField, IsWrongBehind, IsWrongWith, TellsFirstWrong, TellsWrong, WrongIf, error_at}
use Rattle.cfb_lines.specs.Words.{field_behind, field_count, spelling}

-- ---- words are told apart by how they are spelled

-- no two words have letters with one sum
word_of_sum : ℕ → Option Word
word_of_sum n =
    if n == 535 then Some Mkdir
    else if n == 650 then Some Mkdirs
    else if n == 547 then Some Touch
    else if n == 728 then Some Created
    else if n == 833 then Some Modified
    else if n == 542 then Some Rmdir
    else if n == 655 then Some Rmtree
    else if n == 223 then Some Rm
    else if n == 527 then Some Clsid
    else if n == 434 then Some Bits
    else if n == 319 then Some Len
    else if n == 345 then Some Put
    else Some Add

word_back : (w : Word) → word_of_sum (sum (spelling w)) ≡ Some w
unfolding word_of_sum
word_back Mkdir = refl
word_back Mkdirs = refl
word_back Touch = refl
word_back Created = refl
word_back Modified = refl
word_back Rmdir = refl
word_back Rmtree = refl
word_back Rm = refl
word_back Clsid = refl
word_back Bits = refl
word_back Len = refl
word_back Put = refl
word_back Add = refl

same_word : (v w : Word) → spelling v ≡ spelling w → v ≡ w
same_word v w e =
    let joined : Some v ≡ Some w = sym (word_back v) ∙ ap (λ (text : List ℕ). word_of_sum (sum text)) e ∙ word_back w in
    cc

-- ---- what a word says

-- as many fields as the word wants stand behind the path
fields_said : (w : Word) (path : List ℕ) (rest : List (List ℕ)) (c : Command) → Says w path rest c → length rest ≡ field_count w
fields_said Mkdir path rest c h = ap length h.2
fields_said Mkdirs path rest c h = ap length h.2
fields_said Touch path rest c h = ap length h.2
fields_said Created path rest c h = ap length h.2
fields_said Modified path rest c h = ap length h.2
fields_said Rmdir path rest c h = ap length h.0
fields_said Rmtree path rest c h = ap length h.0
fields_said Rm path rest c h = ap length h.0
fields_said Clsid path rest c h = ap length h.2
fields_said Bits path rest c h = ap length h.2
fields_said Len path rest c h = ap length h.2
fields_said Put path rest c h = ap length h.2
fields_said Add path rest c h = ap length h.2

of_field : (field other : Field) (text said : List ℕ) → Some other ≡ Some field → text ∷ [] ≡ said ∷ [] → IsOfField other said → IsOfField field text
of_field field other text said e same h =
    let kind : other ≡ field = cc in
    let here : said ≡ text = cc in
    subst (λ (f : Field). IsOfField f text) kind (subst (IsOfField other) here h)

-- and what stands there is what it wants
field_said : (w : Word) (path text : List ℕ) (c : Command) (field : Field) → Says w path (text ∷ []) c → field_behind w ≡ Some field → IsOfField field text
field_said Mkdir path text c field h e = of_field field Seconds text h.0 e h.2 (h.1, h.3)
field_said Mkdirs path text c field h e = of_field field Seconds text h.0 e h.2 (h.1, h.3)
field_said Touch path text c field h e = of_field field Seconds text h.0 e h.2 (h.1, h.3)
field_said Created path text c field h e = of_field field Number64 text h.0 e h.2 (h.1, h.3)
field_said Modified path text c field h e = of_field field Number64 text h.0 e h.2 (h.1, h.3)
field_said Rmdir path text c field h e = cc
field_said Rmtree path text c field h e = cc
field_said Rm path text c field h e = cc
field_said Clsid path text c field h e = of_field field ClassId text h.0 e h.2 (h.1, h.3)
field_said Bits path text c field h e = of_field field Number32 text h.0 e h.2 (h.1, h.3)
field_said Len path text c field h e = of_field field Number64 text h.0 e h.2 (h.1, h.3)
field_said Put path text c field h e = of_field field Bytes text h.0 e h.2 (h.1, h.3)
field_said Add path text c field h e = of_field field Bytes text h.0 e h.2 (h.1, h.3)

-- what is told of a field goes for what stands behind the path
pub not_a : (field : Field) (w : Word) (text : List ℕ) (e : LineError) → field_behind w ≡ Some field → IsNotA field text e → TellsWrong (IsWrongBehind w (text ∷ [])) e
not_a field w text (Wrong NotText) is h = absurd h
not_a field w text (Wrong (NoWord other)) is h = absurd h
not_a field w text (Wrong (Wants other)) is h = absurd h
not_a field w text (Wrong (NotA kind other)) is h = (
  ap (λ (t : List ℕ). t ∷ []) (sym h.1),
  is ∙ ap (λ (f : Field). Some f) (sym h.0),
  λ says. h.2 (subst (λ (f : Field). IsOfField f text) h.0 (subst (IsOfField kind) h.1 says)),
)
not_a field w text Memory is h = tt

-- and what is told of what stands behind the path goes for the line
behind_path : (line path : List ℕ) (w : Word) (rest : List (List ℕ)) (e : LineError) → slice_split (λ b. b == 9) line ≡ spelling w ∷ path ∷ rest
    → TellsWrong (IsWrongBehind w rest) e → TellsWrong (IsWrongWith line) e
behind_path line path w rest (Wrong NotText) fields h = absurd h
behind_path line path w rest (Wrong (NoWord other)) fields h = absurd h
behind_path line path w rest (Wrong (Wants other)) fields h = (
  path ∷ rest,
  fields ∙ ap (λ (v : Word). spelling v ∷ path ∷ rest) (sym h.0),
  λ n. h.1 (omega (arith, n, ap field_count h.0)),
)
behind_path line path w rest (Wrong (NotA field text)) fields h =
    (w, path, fields ∙ ap (λ (r : List (List ℕ)). spelling w ∷ path ∷ r) h.0, h.1, h.2)
behind_path line path w rest Memory fields h = tt

pub wrong_in_line : {T : Type 0} (r : Result T LineError) (line text path : List ℕ) (w : Word) (rest : List (List ℕ)) → text ≡ line
    → slice_split (λ b. b == 9) text ≡ spelling w ∷ path ∷ rest → IfErr r (TellsWrong (IsWrongBehind w rest)) → IfErr r (TellsWrong (IsWrongWith line))
wrong_in_line (Ok x) line text path w rest same fields h = tt
wrong_in_line (Err e) line text path w rest same fields h = behind_path line path w rest e (ap (slice_split (λ b. b == 9)) (sym same) ∙ fields) h

-- ---- a wrong line is no command

same_first : (v w : List ℕ) (r s : List (List ℕ)) (fields : List (List ℕ)) → fields ≡ v ∷ r → fields ≡ w ∷ s → (v ≡ w) × (r ≡ s)
same_first v w r s fields e f = (cc, cc)

no_command : (line : List ℕ) (why : WrongLine) → IsWrongWith line why → (c : Command) → IsLine line c → ⊥
no_command line NotText wrong c is = wrong is.text
no_command line (NoWord text) wrong c is =
    wrong.2 is.word (same_first text.now (spelling is.word) wrong.0 (is.path ∷ is.rest) (slice_split (λ b. b == 9) line) wrong.1 is.fields).0
no_command line (Wants word) wrong c is =
    let both = same_first (spelling word) (spelling is.word) wrong.0 (is.path ∷ is.rest) (slice_split (λ b. b == 9) line) wrong.1 is.fields in
    let same = same_word word is.word both.0 in
    wrong.2 (omega (arith, ap length both.1, fields_said is.word (meant (chars is.path)) is.rest c is.says, ap field_count same))
no_command line (NotA field text) wrong c is =
    let both = same_first (spelling wrong.0) (spelling is.word) (wrong.1 ∷ text.now ∷ []) (is.path ∷ is.rest) (slice_split (λ b. b == 9) line) wrong.2 is.fields in
    let same = same_word wrong.0 is.word both.0 in
    let rest : is.rest ≡ text.now ∷ [] = cc (both.1) in
    wrong.4 (field_said is.word (meant (chars is.path)) text.now c field (subst (λ (r : List (List ℕ)). Says is.word (meant (chars is.path)) r c) rest is.says) (ap field_behind (sym same) ∙ wrong.3))

-- ---- lines in turn

lines_apart : (before others : List (List ℕ)) (commands : List Command) → AllZip IsLine (before ++ others) commands → (later : List Command) × AllZip IsLine others later
lines_apart [] others commands h = (commands, h)
lines_apart (line ∷ before) others [] h = absurd h
lines_apart (line ∷ before) others (c ∷ commands) h = lines_apart before others commands h.1

one_line_more : (before : List (List ℕ)) (commands : List Command) (line : List ℕ) (c : Command) → AllZip IsLine before commands → IsLine line c
    → AllZip IsLine (before ++ line ∷ []) (commands ++ c ∷ [])
one_line_more [] [] line c h is = (is, tt)
one_line_more [] (d ∷ commands) line c h is = absurd h
one_line_more (first ∷ before) [] line c h is = absurd h
one_line_more (first ∷ before) (d ∷ commands) line c h is = (h.0, one_line_more before commands line c h.1 is)

first_is_none : (line : List ℕ) (behind : List (List ℕ)) (commands : List Command) → ((c : Command) → IsLine line c → ⊥) → AllZip IsLine (line ∷ behind) commands → ⊥
first_is_none line behind [] none h = h
first_is_none line behind (c ∷ commands) none h = none c h.0

-- so far all lines are commands, and this is left of the text
pub record IsReadUpTo (input : List ℕ) (commands : List Command) (number : ℕ) (rest : List ℕ) : Type 0 where
  pub before : List (List ℕ)
  pub lines : command_lines input ≡ before ++ lines_in rest
  pub right : AllZip IsLine before commands
  pub counted : number ≡ comment_count input + length before

pub nothing_read : (input rest : List ℕ) (number : ℕ) → lines_in rest ≡ command_lines input → number ≡ comment_count input → IsReadUpTo input [] number rest
nothing_read input rest number e n = record { before = []; lines = sym e; right = tt; counted = omega arith }

pub line_read : (input : List ℕ) (commands : List Command) (number : ℕ) (rest line after : List ℕ) (c : Command) → IsReadUpTo input commands number rest
    → lines_in rest ≡ line ∷ lines_in after → IsLine line c → IsReadUpTo input (commands ++ c ∷ []) (number + 1) after
line_read input commands number rest line after c so_far e is = record {
  before = so_far.before ++ line ∷ [];
  lines = so_far.lines ∙ ap (λ (ls : List (List ℕ)). so_far.before ++ ls) e ∙ sym (append_assoc so_far.before (line ∷ []) (lines_in after));
  right = one_line_more so_far.before commands line c so_far.right is;
  counted = omega (arith, so_far.counted, length-append so_far.before (line ∷ []));
}

empty_by_test : (xs : List ℕ) → (length xs == 0) ≡ true → xs ≡ []
empty_by_test [] e = refl
empty_by_test (x ∷ xs) e = absurd (omega (arith, eqb-true (length (x ∷ xs)) 0 e))

pub all_read : (input : List ℕ) (commands : List Command) (number : ℕ) (rest : List ℕ) → IsReadUpTo input commands number rest → (length rest == 0) ≡ true → IsScript input commands
all_read input commands number rest so_far none =
    let lines : command_lines input ≡ so_far.before = so_far.lines ∙ ap (λ (r : List ℕ). so_far.before ++ lines_in r) (empty_by_test rest none) ∙ append-nil so_far.before in
    subst (λ (ls : List (List ℕ)). AllZip IsLine ls commands) (sym lines) so_far.right

pub wrong_line : (input : List ℕ) (commands : List Command) (number : ℕ) (rest line after : List ℕ) (why : WrongLine) → IsReadUpTo input commands number rest
    → lines_in rest ≡ line ∷ lines_in after → IsWrongWith line why → IsFirstWrong input (number + 1) why
wrong_line input commands number rest line after why so_far e wrong = record {
  before = so_far.before;
  line = line;
  behind = lines_in after;
  lines = so_far.lines ∙ ap (λ (ls : List (List ℕ)). so_far.before ++ ls) e;
  counted = omega (arith, so_far.counted);
  commands = commands;
  right = so_far.right;
  wrong = wrong;
}

-- a text with a wrong line is no script
pub no_script : (input : List ℕ) (number : ℕ) (why : WrongLine) → IsFirstWrong input number why → (commands : List Command) → IsScript input commands → ⊥
no_script input number why first commands script =
    let apart = lines_apart first.before (first.line ∷ first.behind) commands (subst (λ (ls : List (List ℕ)). AllZip IsLine ls commands) first.lines script) in
    first_is_none first.line first.behind apart.0 (no_command first.line why first.wrong) apart.1

module _ (input : List ℕ) (commands : List Command) (number : ℕ) (rest line after : List ℕ) (so_far : IsReadUpTo input commands number rest)
    (e : lines_in rest ≡ line ∷ lines_in after) where
  pub tells_none : (error : LineError) → TellsWrong (IsWrongWith line) error → WrongIf ((all : List Command) → IsScript input all → ⊥) (error_at (number + 1) error)
  tells_none (Wrong why) wrong = no_script input (number + 1) why (wrong_line input commands number rest line after why so_far e wrong)
  tells_none Memory wrong = tt

  pub tells_first : (error : LineError) → TellsWrong (IsWrongWith line) error → TellsFirstWrong input (error_at (number + 1) error)
  tells_first (Wrong why) wrong = wrong_line input commands number rest line after why so_far e wrong
  tells_first Memory wrong = tt
