use Rattle.std.proofs.Common.{sym, ◌∙◌}
use Rattle.port_rewriting.specs.RecordViews.{shown}
use Rattle.port_rewriting.proofs.Reading.{same_by}
use Rattle.port_rewriting.proofs.guards.are_same.Goals as goal

pub returns : goal.returns
returns c = λ t. same_by shown c.args.loads.now c.args.others.now (sym c.eq.ensures ∙ t)
