use Rattle.std.proofs.Common.{◌≡◌, [], length}
use Rattle.std.specs.Prelude.{is_some}
use Rattle.envvars.specs.Texts.{slice_texts}
use Rattle.envstate.specs.paths.PathTexts.{counter_in_pairs, paired}
use Rattle.envstate.proofs.paths.texts.counts_empty_element.Given as goal

-- the empty element is counted where the rest counts it
abbrev pub invariant-loop-rest : goal.invariant-loop-rest
invariant-loop-rest l = is_some (counter_in_pairs [] (paired (slice_texts l.rest))) ≡ is_some (counter_in_pairs [] (paired (slice_texts l.fields)))

abbrev pub decreases-loop-rest : goal.decreases-loop-rest
decreases-loop-rest l = length l.rest
