use Rattle.std.proofs.Common.{subst}
use Rattle.port_rewriting.proofs.Asking.{modules_stand}
use Rattle.port_rewriting.specs.AskingViews.{MeansIn}
use Rattle.port_rewriting.specs.declared.names.Meaning.{Meaning}
use Rattle.port_rewriting.proofs.reader.Reader.asked.Goals as goal

pub returns-in-Modules : goal.returns-in-Modules
returns-in-Modules c =
    modules_stand c.args.self.now.given.site c.args.name.now c.in-Modules.modules
    (subst (λ (m : Meaning). MeansIn c.args.self.now.given.site c.args.name.now m) c.in-Modules.is c.in_ok-modules.ensures)
