use Rattle.modules.proofs.TreeAnswers.{reads_both}
use Rattle.module_auto.proofs.refused.lacked.Goals as goal

pub loop-name-preserved : goal.loop-name-preserved
loop-name-preserved g c = reads_both _ _ _ c.loop-name.invariant c.first_found.ensures.reads
