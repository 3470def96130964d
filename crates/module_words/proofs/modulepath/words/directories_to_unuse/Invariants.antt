use Rattle.std.proofs.Common.{◌≡◌, map, string_bytes, take, Ok}
use Rattle.std.specs.Option.{option_map}
use Rattle.envvars.specs.Texts.{texts_in}
use Rattle.module_words.specs.modulepath.Words.{each, named}
use Rattle.module_words.proofs.modulepath.words.directories_to_unuse.Given as goal

abbrev pub invariant-loop-word : goal.invariant-loop-word
invariant-loop-word l = each (named (option_map (λ w. w.now) l.working)) (map string_bytes (take l.word-index l.words)) ≡ Ok (texts_in l.paths)
