-- The words of the header that are written beside those of the tables (MS-CFB 2.2).
use Rattle.std.specs.Prelude.{ℕ}
use Rattle.cfb_alloc.specs.declared.alloc.HeaderWord.{HeaderWord}
use Rattle.cfb_alloc.specs.declared.alloc.HeaderWord.TheVariants.{DirectorySectors, FirstMiniFat, MiniFatSectors}

-- where the word stands
abbrev pub header_word_place : HeaderWord → ℕ
header_word_place DirectorySectors = 40
header_word_place FirstMiniFat = 60
header_word_place MiniFatSectors = 64
