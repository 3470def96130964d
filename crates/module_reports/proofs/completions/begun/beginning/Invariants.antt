use Rattle.std.proofs.Common.{◌≡◌, take}
use Rattle.envvars.specs.Texts.{slice_texts}
use Rattle.module_reports.specs.completions.Begun.{beginning}
use Rattle.module_reports.proofs.completions.begun.beginning.Given as goal

abbrev pub invariant-loop-name : goal.invariant-loop-name
invariant-loop-name l = slice_texts l.begun.items ≡ beginning l.word (slice_texts (take l.name-index l.names))
