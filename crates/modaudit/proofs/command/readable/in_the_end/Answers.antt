use Rattle.std.proofs.Common.{sym, subst}
use Rattle.modaudit.specs.command.Audits.{HasFailedOften}
use Rattle.modaudit.specs.command.Steps.{IsTransient}
use Rattle.modaudit.specs.declared.command.audit_fault.AuditFault.{AuditFault}
use Rattle.modaudit.proofs.command.ReadableLemmas.{read_fault}
use Rattle.modaudit.proofs.command.readable.in_the_end.Goals as goal

pub returns : goal.returns
returns g c =
    let tree = c.args.tree.now.tree in
    let often = HasFailedOften (g.T.Tree.failed tree) (g.T.Tree.failures tree) in
    subst (λ (f : AuditFault). IsTransient often f) (sym c.from.ensures) (read_fault c.fault_in_the_end.result often c.fault_in_the_end.ensures)
