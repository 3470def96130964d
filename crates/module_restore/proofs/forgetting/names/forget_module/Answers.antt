use Rattle.module_restore.proofs.forgetting.LawLemmas.{forgotten_by}
use Rattle.module_restore.proofs.forgetting.names.forget_module.Goals as goal

pub returns-clause-forgotten : goal.returns-clause-forgotten
returns-clause-forgotten c =
    forgotten_by c.args.name.now c.args.env.now c.drop_loaded.new.env c.pop_all.new.env c.in_ok-drop_loaded.ensures.edits c.in_ok-pop_all.ensures
