use Rattle.std.proofs.Common.{◌≡◌, ◌++◌, drop}
use Rattle.std.specs.List.{flat_map}
use Rattle.envvars.specs.Texts.{slice_texts}
use Rattle.module_reports.specs.completions.Lines.{pieces_at}
use Rattle.module_reports.proofs.completions.line.pieces_of_all.Given as goal

abbrev pub invariant-loop-text : goal.invariant-loop-text
invariant-loop-text l =
    slice_texts l.pieces.items ++ flat_map (pieces_at 9) (slice_texts (drop l.text-index l.texts)) ≡ flat_map (pieces_at 9) (slice_texts l.texts)
