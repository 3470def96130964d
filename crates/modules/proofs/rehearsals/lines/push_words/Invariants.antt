use Rattle.std.proofs.Common.{◌≡◌, ◌++◌, take}
use Rattle.std.specs.List.{flat_map}
use Rattle.envvars.specs.Texts.{slice_texts, texts_in}
use Rattle.modules.specs.rehearsals.Lines.{unless_empty}
use Rattle.modules.proofs.rehearsals.lines.push_words.Given as goal

abbrev pub invariant-loop-word : goal.invariant-loop-word
invariant-loop-word l = texts_in l.words ≡ texts_in l.initial.words ++ flat_map unless_empty (slice_texts (take l.word-index l.word-items))
