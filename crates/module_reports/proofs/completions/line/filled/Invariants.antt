use Rattle.std.proofs.Common.{◌≡◌, ◌++◌, drop}
use Rattle.envvars.specs.Texts.{slice_texts}
use Rattle.module_reports.specs.completions.Texts.{filled}
use Rattle.module_reports.proofs.completions.line.filled.Given as goal

abbrev pub invariant-loop-text : goal.invariant-loop-text
invariant-loop-text l =
    slice_texts l.found.items ++ filled (slice_texts (drop l.text-index l.texts)) ≡ filled (slice_texts l.texts)
