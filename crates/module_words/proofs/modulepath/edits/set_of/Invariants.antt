use Rattle.std.proofs.Common.{◌≡◌, ◌++◌, drop, not}
use Rattle.std.specs.Prelude.{filter}
use Rattle.envvars.specs.Texts.{has, slice_texts}
use Rattle.envvars.specs.Fields.{without_repeats}
use Rattle.module_words.proofs.modulepath.edits.set_of.Given as goal

-- those so far, and of the rest those that are new
abbrev pub invariant-loop-text : goal.invariant-loop-text
invariant-loop-text l = slice_texts l.set.keys ++ filter (λ y. not (has y (slice_texts l.set.keys)))
    (without_repeats (slice_texts (drop l.text-index l.texts))) ≡ without_repeats (slice_texts l.texts)
