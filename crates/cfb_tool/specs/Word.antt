-- The words of the program as they are written.
use Rattle.std.specs.Prelude.{ℕ, List, codes}
use Rattle.cfb_tool.specs.declared.word.Change.{Change}
use Rattle.cfb_tool.specs.declared.word.Change.TheVariants.{Mkdir, Mkdirs, Rmdir, Rmtree, Rm, Touch, Bits, Len, Clsid, Add}
use Rattle.cfb_tool.specs.declared.word.Word.{Word}
use Rattle.cfb_tool.specs.declared.word.Word.TheVariants.{Ls, Tree, Check, Cat, Create, Put, Changing, Run, Compact, Salvage, Info, Map, Extract, Dump}

abbrev pub change_text : Change → List ℕ
change_text Mkdir = codes "mkdir"
change_text Mkdirs = codes "mkdirs"
change_text Rmdir = codes "rmdir"
change_text Rmtree = codes "rmtree"
change_text Rm = codes "rm"
change_text Touch = codes "touch"
change_text Bits = codes "bits"
change_text Len = codes "len"
change_text Clsid = codes "clsid"
change_text Add = codes "add"

abbrev pub word_text : Word → List ℕ
word_text Ls = codes "ls"
word_text Tree = codes "tree"
word_text Info = codes "info"
word_text Map = codes "map"
word_text Check = codes "check"
word_text Cat = codes "cat"
word_text Extract = codes "extract"
word_text Dump = codes "dump"
word_text Create = codes "create"
word_text Put = codes "put"
word_text (Changing change) = change_text change
word_text Run = codes "run"
word_text Compact = codes "compact"
word_text Salvage = codes "salvage"
