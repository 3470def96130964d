-- Words and readings of the code, as the definitions have them.
use Rattle.std.specs.Prelude.{◌≡◌, List, map, string_bytes, Option, Some, None, IfSome, Result, Ok, Err}
use Rattle.std.specs.declared.vec.Vec.{Vec}
use Rattle.std.specs.declared.alloc.Global.{Global}
use Rattle.module_collections.specs.texts.Words.{Reading}
use Rattle.module_collections.specs.texts.Words as spec
use Rattle.module_collections.specs.declared.texts.words.Word.{Word}
use Rattle.module_collections.specs.declared.texts.words.LineReader.{LineReader}
use Rattle.module_collections.specs.declared.texts.words.WordFault.{WordFault}
use Rattle.module_collections.specs.declared.texts.words.WordsFault.{WordsFault}
use Rattle.module_collections.specs.declared.texts.words.WordsFault.TheVariants.{OutOfMemory, Wrong}

abbrev pub word_view : Word → spec.Word
word_view w = record { text = string_bytes w.text; is_bare = w.is_bare }

abbrev pub words_view : Vec Word Global → List spec.Word
words_view words = map word_view words.items

abbrev pub reading_view : LineReader → Reading
reading_view r = record { words = words_view r.words; bytes = r.bytes.items; place = r.place }

-- what is wrong by a fault of the code; want of memory is nothing wrong
abbrev pub word_reason : WordsFault → Option WordFault
word_reason OutOfMemory = None
word_reason (Wrong fault) = Some fault

-- a step of a reader comes to the outcome
abbrev pub Steps : Result (Unit {0}) WordsFault → LineReader → Result Reading WordFault → Type 0
Steps (Ok u) reader outcome = outcome ≡ Ok (reading_view reader)
Steps (Err fault) reader outcome = IfSome (word_reason fault) (λ wrong. outcome ≡ Err wrong)
