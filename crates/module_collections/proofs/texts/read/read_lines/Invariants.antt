use Rattle.std.proofs.Common.{◌≡◌, ◌+◌, drop}
use Rattle.envvars.specs.Texts.{slice_texts}
use Rattle.module_collections.specs.texts.Collections.{nothing, with_lines}
use Rattle.module_collections.specs.texts.Views.{kept_view}
use Rattle.module_collections.proofs.texts.read.read_lines.Given as goal

abbrev pub invariant-loop-line : goal.invariant-loop-line
invariant-loop-line l = record {
  same : with_lines (slice_texts (drop l.line-index l.lines)) l.number (kept_view l.found) ≡ with_lines (slice_texts l.lines) 1 nothing;
  number : l.number ≡ l.line-index + 1;
}
