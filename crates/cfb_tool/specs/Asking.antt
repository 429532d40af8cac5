-- What the words of a run ask for.
use Rattle.std.specs.Prelude.{ℕ, ◌≢◌, List, [], ◌∷◌, codes}
use Rattle.cfb_format.specs.declared.version.Version.TheVariants.{V3, V4}
use Rattle.cfb_tool.specs.declared.asking.Asked.{Asked}
use Rattle.cfb_tool.specs.declared.asking.Asked.TheVariants.{Create, ListAll, ListAt, DetailsAll, DetailsAt, TreeAll, TreeAt, Cat, Dump, Put, PutFrom, Check, CheckStrict, Compact, Salvage, Run, RunExplained, OneChange, OneChangeBy, Help, LongHelp, ShortHelp, HelpOn, HelpBehind, Version, Info, Map, ExtractAll, ExtractAt}
use Rattle.cfb_tool.specs.Word.{change_text, word_text}

-- the words that ask for this
abbrev pub words_for : Asked → List (List ℕ)
words_for (Create V3 file) = codes "create" ∷ codes "3" ∷ file.now ∷ []
words_for (Create V4 file) = codes "create" ∷ codes "4" ∷ file.now ∷ []
words_for (ListAll file) = codes "ls" ∷ file.now ∷ []
words_for (ListAt file path) = codes "ls" ∷ file.now ∷ path.now ∷ []
words_for (DetailsAll file) = codes "ls" ∷ codes "-l" ∷ file.now ∷ []
words_for (DetailsAt file path) = codes "ls" ∷ codes "-l" ∷ file.now ∷ path.now ∷ []
words_for (TreeAll file) = codes "tree" ∷ file.now ∷ []
words_for (TreeAt file path) = codes "tree" ∷ file.now ∷ path.now ∷ []
words_for (Info file) = codes "info" ∷ file.now ∷ []
words_for (Map file) = codes "map" ∷ file.now ∷ []
words_for (Cat file path) = codes "cat" ∷ file.now ∷ path.now ∷ []
words_for (Dump file) = codes "dump" ∷ file.now ∷ []
words_for (Put file path) = codes "put" ∷ file.now ∷ path.now ∷ []
words_for (PutFrom file path from) = codes "put" ∷ file.now ∷ path.now ∷ from.now ∷ []
words_for (Check file) = codes "check" ∷ file.now ∷ []
words_for (CheckStrict file) = codes "check" ∷ file.now ∷ codes "strict" ∷ []
words_for (ExtractAll file folder) = codes "extract" ∷ file.now ∷ folder.now ∷ []
words_for (ExtractAt file path folder) = codes "extract" ∷ file.now ∷ path.now ∷ folder.now ∷ []
words_for (Compact file target) = codes "compact" ∷ file.now ∷ target.now ∷ []
words_for (Salvage file target) = codes "salvage" ∷ file.now ∷ target.now ∷ []
words_for (Run file) = codes "run" ∷ file.now ∷ []
words_for (RunExplained file) = codes "run" ∷ codes "-e" ∷ file.now ∷ []
words_for (OneChange change file path) = change_text change ∷ file.now ∷ path.now ∷ []
words_for (OneChangeBy change file path by) = change_text change ∷ file.now ∷ path.now ∷ by.now ∷ []
words_for Help = codes "help" ∷ []
words_for LongHelp = codes "--help" ∷ []
words_for ShortHelp = codes "-h" ∷ []
words_for (HelpOn word) = codes "help" ∷ word_text word ∷ []
words_for (HelpBehind word) = word_text word ∷ codes "--help" ∷ []
words_for Version = codes "--version" ∷ []

-- no option right behind a word is taken for the path of a file
abbrev pub TakesOptions : Asked → Type 0
TakesOptions (ListAll file) = file.now ≢ codes "--help"
TakesOptions (ListAt file _) = file.now ≢ codes "-l"
TakesOptions (TreeAll file) = file.now ≢ codes "--help"
TakesOptions (Info file) = file.now ≢ codes "--help"
TakesOptions (Map file) = file.now ≢ codes "--help"
TakesOptions (Check file) = file.now ≢ codes "--help"
TakesOptions (Dump file) = file.now ≢ codes "--help"
TakesOptions (Run file) = file.now ≢ codes "--help"
TakesOptions _ = Unit {0}
