use Rattle.std.proofs.Common.{refl}
use Rattle.tcleval.proofs.Running.{later_still}
use Rattle.tcleval.proofs.evaluator.Evaluator.simple.Goals as goal

pub returns-clause-evaluates_to : goal.returns-clause-evaluates_to
returns-clause-evaluates_to g c = (c.simple_command.ensures.0, c.simple_command.ensures.1, λ k. c.simple_command.ensures.2 _ c.args.bounds.remaining c.args.self.now.used c.args.self.now.scripts _ k)

pub returns-clause-only_grows : goal.returns-clause-only_grows
returns-clause-only_grows g c = later_still refl refl
