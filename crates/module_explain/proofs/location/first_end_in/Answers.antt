use Rattle.std.proofs.Common.{ap, length, sym, ◌∙◌}
use Rattle.module_explain.specs.Commands.{first_end_by}
use Rattle.module_explain.proofs.location.first_end_in.Goals as goal

pub returns-in-Ok : goal.returns-in-Ok
returns-in-Ok c = c.first_end.ensures _ ∙ ap (first_end_by (length c.args.text.now)) (sym c.in-Ok.ensures.read)
