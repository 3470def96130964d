use Rattle.std.proofs.Common.{◌≡◌, ◌++◌, drop, map, string_bytes}
use Rattle.envvars.specs.Texts.{texts_in}
use Rattle.module_words.specs.function.Asked.{loaded_words}
use Rattle.module_words.proofs.function.asked.loaded_words.Given as goal

abbrev pub invariant-loop-word : goal.invariant-loop-word
invariant-loop-word l =
    texts_in l.loaded ++ loaded_words (map string_bytes (drop l.word-index l.words)) ≡ loaded_words (map string_bytes l.words)
