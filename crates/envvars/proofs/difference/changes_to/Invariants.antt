use Rattle.std.proofs.Common.{◌≡◌, map, take}
use Rattle.envvars.specs.Texts.{slice_texts}
use Rattle.envvars.specs.Environment.{lookup}
use Rattle.envvars.specs.Changes.{new_values_in}
use Rattle.envvars.proofs.difference.changes_to.Given as goal

abbrev pub invariant-loop-name : goal.invariant-loop-name
invariant-loop-name g l = new_values_in l.changes ≡ map (λ n. (n, lookup (g.V.Vars.vars l.new) n)) (slice_texts (take l.name-index l.names))
