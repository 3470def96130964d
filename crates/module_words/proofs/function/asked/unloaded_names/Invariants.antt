use Rattle.std.proofs.Common.{◌≡◌, ◌++◌, drop, map, string_bytes}
use Rattle.envvars.specs.Texts.{texts_in}
use Rattle.module_words.specs.function.Asked.{unloaded_names}
use Rattle.module_words.proofs.function.asked.unloaded_names.Given as goal

abbrev pub invariant-loop-word : goal.invariant-loop-word
invariant-loop-word l =
    texts_in l.names ++ unloaded_names (map string_bytes (drop l.word-index l.words)) ≡ unloaded_names (map string_bytes l.words)
