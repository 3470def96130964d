use Rattle.std.proofs.Common.{◌≡◌, drop}
use Rattle.module_collections.specs.texts.Words.{words_from, words_of}
use Rattle.module_collections.specs.texts.WordViews.{reading_view}
use Rattle.module_collections.proofs.texts.words.words_of.Given as goal

-- the rest of the text, read from here, gives what the whole gives
abbrev pub invariant-loop-byte : goal.invariant-loop-byte
invariant-loop-byte l = words_from (drop l.byte-index l.text) (reading_view l.reader) ≡ words_of l.text
