use Rattle.std.proofs.Common.{◌≡◌, ◌∷◌, map, string_bytes, take}
use Rattle.envvars.specs.Texts.{texts_in}
use Rattle.module_words.proofs.function.asked.behind.Given as goal

abbrev pub invariant-loop-word : goal.invariant-loop-word
invariant-loop-word l =
    texts_in l.all ≡ l.first ∷ map string_bytes (take l.word-index l.words)
