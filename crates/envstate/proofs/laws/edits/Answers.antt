use Rattle.envstate.proofs.FrameLemmas.{add_edits, drop_edits, push_edits, pop_edits, set_edits, add_edits_loaded}
use Rattle.envstate.proofs.FrameLemmas.{drop_edits_loaded}
use Rattle.envstate.proofs.laws.edits.Goals as goal

pub returns-clause-add_path : goal.returns-clause-add_path
returns-clause-add_path c = add_edits

pub returns-clause-drop_path : goal.returns-clause-drop_path
returns-clause-drop_path c = drop_edits

pub returns-clause-push_value : goal.returns-clause-push_value
returns-clause-push_value c = push_edits

pub returns-clause-pop_value : goal.returns-clause-pop_value
returns-clause-pop_value c = pop_edits

pub returns-clause-set_variable : goal.returns-clause-set_variable
returns-clause-set_variable c = set_edits

pub returns-clause-add_loaded : goal.returns-clause-add_loaded
returns-clause-add_loaded c = add_edits_loaded

pub returns-clause-drop_loaded : goal.returns-clause-drop_loaded
returns-clause-drop_loaded c = drop_edits_loaded
