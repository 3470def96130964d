use Rattle.modaudit.proofs.command.EndLemmas.{only_failures_refuse, accepted_commands_are_printed}
use Rattle.modaudit.proofs.command.laws.accepted_commands.Goals as goal

pub returns-clause-ends : goal.returns-clause-ends
returns-clause-ends g c = only_failures_refuse c.one_command.ensures (g.T.Tree.agrees c.args.tree.now)

pub returns-clause-printed : goal.returns-clause-printed
returns-clause-printed g c = accepted_commands_are_printed (g.T.Tree.agrees c.args.tree.now)
