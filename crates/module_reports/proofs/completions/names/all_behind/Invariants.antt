use Rattle.std.proofs.Common.{◌≡◌, map, take}
use Rattle.envvars.specs.Texts.{slice_texts, texts_in}
use Rattle.module_reports.specs.completions.Names.{behind}
use Rattle.module_reports.proofs.completions.names.all_behind.Given as goal

abbrev pub invariant-loop-text : goal.invariant-loop-text
invariant-loop-text l =
    texts_in l.names ≡ map (behind l.front) (slice_texts (take l.text-index l.texts))
