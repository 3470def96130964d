use Rattle.std.proofs.Common.{◌≡◌, map, take}
use Rattle.envstate.specs.loaded_list.LoadedTexts.{group_text}
use Rattle.envvars.specs.Texts.{texts_in}
use Rattle.envstate.proofs.loaded_list.writing.group_texts.Given as goal

abbrev pub invariant-loop-group : goal.invariant-loop-group
invariant-loop-group l = texts_in l.texts ≡ map group_text (map texts_in (take l.group-index l.groups))
