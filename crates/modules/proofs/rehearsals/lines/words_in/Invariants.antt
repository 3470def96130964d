use Rattle.std.proofs.Common.{◌≡◌, take}
use Rattle.std.specs.List.{flat_map}
use Rattle.envvars.specs.Texts.{slice_texts, texts_in}
use Rattle.modules.specs.rehearsals.Lines.{words_between_tabs}
use Rattle.modules.proofs.rehearsals.lines.words_in.Given as goal

abbrev pub invariant-loop-text : goal.invariant-loop-text
invariant-loop-text l = texts_in l.words ≡ flat_map words_between_tabs (slice_texts (take l.text-index l.text-items))
