use Rattle.std.proofs.Common.{◌≡◌, take}
use Rattle.std.specs.List.{flat_map}
use Rattle.envvars.specs.Texts.{slice_texts}
use Rattle.modules.specs.rehearsals.Parts.{loaded_in}
use Rattle.modules.proofs.rehearsals.loading.names_loaded.Given as goal

abbrev pub invariant-loop-outcome : goal.invariant-loop-outcome
invariant-loop-outcome l = slice_texts l.names.items ≡ flat_map loaded_in (take l.outcome-index l.outcomes)
