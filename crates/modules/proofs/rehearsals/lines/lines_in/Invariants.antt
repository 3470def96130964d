use Rattle.std.proofs.Common.{◌≡◌, map, take}
use Rattle.std.specs.List.{flat_map}
use Rattle.envvars.specs.Texts.{slice_texts, texts_in}
use Rattle.modules.specs.rehearsals.Lines.{line_words}
use Rattle.modules.proofs.rehearsals.lines.lines_in.Given as goal

abbrev pub invariant-loop-line : goal.invariant-loop-line
invariant-loop-line l = map texts_in l.lines.items ≡ flat_map line_words (slice_texts (take l.line-index l.line-items))
