use Rattle.std.proofs.Common.{◌≡◌, ◌++◌, drop}
use Rattle.envvars.specs.Texts.{slice_texts}
use Rattle.envstate.specs.loaded_list.LoadedTexts.{prereqs_among}
use Rattle.envstate.specs.loaded_list.LoadedEntries.{groups_in}
use Rattle.envstate.proofs.loaded_list.list.groups_among.Given as goal

-- the groups so far, and then those of the rest
abbrev pub invariant-loop-word : goal.invariant-loop-word
invariant-loop-word l = groups_in l.groups ++ prereqs_among (slice_texts (drop l.word-index l.words)) ≡ prereqs_among (slice_texts l.words)
