use Rattle.std.proofs.Common.{◌≡◌, take}
use Rattle.std.specs.Option.{option_map}
use Rattle.envvars.specs.Texts.{slice_texts}
use Rattle.module_words.specs.modulepath.ModulePaths.{unused}
use Rattle.module_words.proofs.modulepath.edits.unused.Given as goal

abbrev pub invariant-loop-element : goal.invariant-loop-element
invariant-loop-element l = slice_texts l.kept.items ≡ unused (option_map (λ w. w.now) l.working) (slice_texts l.paths.keys) (slice_texts (take l.element-index l.list))
