use Rattle.std.proofs.Common.{◌≡◌, ◌++◌, map, take}
use Rattle.envvars.specs.Texts.{slice_texts}
use Rattle.envvars.specs.Given.{name_in}
use Rattle.envvars.proofs.given.GivenVariables.push_names.Given as goal

abbrev pub invariant-loop-entry : goal.invariant-loop-entry
invariant-loop-entry l = slice_texts l.names.items ≡ slice_texts l.fn.names.items ++ map (name_in l.self.block.items) (take l.entry-index l.self.entries.items)
