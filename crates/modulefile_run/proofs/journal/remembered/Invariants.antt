use Rattle.std.proofs.Common.{◌≡◌, map, take, string_bytes}
use Rattle.modulefile_run.specs.Journals.{words_in}
use Rattle.modulefile_run.proofs.journal.remembered.Given as goal

abbrev pub invariant-loop-word : goal.invariant-loop-word
invariant-loop-word l = words_in l.remembered ≡ map string_bytes (take l.word-index l.words)
