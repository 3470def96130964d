use Rattle.module_commands.specs.Explanations.{explained_view}
use Rattle.module_commands.proofs.AnswerLemmas.{is_refused}
use Rattle.module_commands.proofs.answering.refused_with_way_out.Goals as goal

pub returns : goal.returns
returns g c = is_refused c.args.asking.now c.args.refusal.now (explained_view c.in_ok-more.more) c.refused.result c.refused.ensures
