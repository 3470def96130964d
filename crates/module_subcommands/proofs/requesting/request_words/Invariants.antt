use Rattle.std.proofs.Common.{◌≡◌, ◌∷◌, map, string_bytes, take}
use Rattle.envvars.specs.Texts.{texts_in}
use Rattle.module_words.specs.subcommands.Subcommands.{name_of}
use Rattle.module_subcommands.proofs.requesting.request_words.Given as goal

abbrev pub invariant-loop-word : goal.invariant-loop-word
invariant-loop-word l =
    texts_in l.all ≡ name_of l.fn.subcommand ∷ map string_bytes (take l.word-index l.words)
