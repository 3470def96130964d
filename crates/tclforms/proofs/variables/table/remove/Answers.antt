use Rattle.std.proofs.Common.{ap, ◌∙◌}
use Rattle.tclforms.specs.variables.Views.{texts_of}
use Rattle.tclforms.proofs.variables.Frames.{without_texts}
use Rattle.tclforms.proofs.variables.table.remove.Goals as goal

pub returns : goal.returns
returns c = ap texts_of c.shift_remove.ensures.entries ∙ without_texts c.args.table.now.entries c.args.name.now
