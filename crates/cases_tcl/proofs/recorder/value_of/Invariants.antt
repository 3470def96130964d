use Rattle.std.proofs.Common.{◌≡◌, drop}
use Rattle.tclrules.specs.Recording.{pair_texts}
use Rattle.tclrules.specs.Variables.{lookup}
use Rattle.cases_tcl.proofs.recorder.value_of.Given as goal

abbrev pub invariant-loop-key : goal.invariant-loop-key
invariant-loop-key l = lookup (pair_texts l.environment) l.name ≡ lookup (pair_texts (drop l.key-index l.environment)) l.name
