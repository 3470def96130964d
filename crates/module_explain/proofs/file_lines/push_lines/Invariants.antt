use Rattle.std.proofs.Common.{◌≡◌, ◌++◌, map, string_bytes, take, Bor}
use Rattle.std.specs.Prelude.{flat_map}
use Rattle.terminal.specs.text.Shown.{Text}
use Rattle.module_explain.specs.FileLines.{shown_line}
use Rattle.module_explain.proofs.file_lines.push_lines.Given as goal

abbrev pub invariant-loop-line : goal.invariant-loop-line
invariant-loop-line l = string_bytes l.text ≡ string_bytes l.initial.text ++ flat_map shown_line (map (λ (x : Bor Text). x.now) (take l.line-index l.lines))
