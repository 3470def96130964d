use Rattle.std.proofs.Common.{◌∙◌}
use Rattle.tclforms.proofs.variables.Names.{any_named}
use Rattle.tclforms.proofs.variables.local.Local.sees.Goals as goal

pub returns : goal.returns
returns c = rw (← c.self.view_is) (c.contains.ensures ∙ any_named c.args.name.now c.self.inside.shared.keys)
