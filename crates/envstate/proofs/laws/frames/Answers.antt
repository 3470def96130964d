use Rattle.envstate.proofs.FrameLemmas.{path_edits_variable, stack_edits_variable, keeps_other, keeps_loaded}
use Rattle.envstate.proofs.FrameLemmas.{loaded_keeps, rest_stays, loaded_rest_stays}
use Rattle.envstate.proofs.laws.frames.Goals as goal

pub returns-clause-path : goal.returns-clause-path
returns-clause-path c = path_edits_variable

pub returns-clause-stack : goal.returns-clause-stack
returns-clause-stack c = stack_edits_variable

pub returns-clause-others : goal.returns-clause-others
returns-clause-others c = keeps_other

pub returns-clause-loaded : goal.returns-clause-loaded
returns-clause-loaded c = keeps_loaded

pub returns-clause-variables : goal.returns-clause-variables
returns-clause-variables c = loaded_keeps

pub returns-clause-rest : goal.returns-clause-rest
returns-clause-rest c = rest_stays

pub returns-clause-loaded_rest : goal.returns-clause-loaded_rest
returns-clause-loaded_rest c = loaded_rest_stays
