use Rattle.std.proofs.Common.{Bool, List, map, string_bytes, String, sym, subst, ◌∙◌}
use Rattle.std.specs.declared.alloc.Global.{Global}
use Rattle.envvars.specs.Texts.{Text}
use Rattle.modaudit.specs.command.Audits.{HasFailedOften, IsSiteFault}
use Rattle.modaudit.specs.declared.command.audit_fault.AuditFault.{AuditFault}
use Rattle.modaudit.proofs.command.ReadableLemmas.{found_left, left_fault}
use Rattle.modaudit.proofs.command.readable.audit_seen.Goals as goal

abbrev texts : List (String Global) → List Text
texts l = map (λ s. string_bytes s) l

pub returns-in-Ok-clause-found : goal.returns-in-Ok-clause-found
returns-in-Ok-clause-found g c =
    let tree = c.audit_wanted.new.tree in
    found_left (texts tree.hidden.items) (texts tree.seen.items) (g.T.Tree.agrees tree.tree) c.args.judged.now (texts c.args.directories.now) (texts c.args.without.now) c.in-Ok.found tree.apart c.in-Ok.ensures.found

pub returns-else-is_failure-clause-refused : goal.returns-else-is_failure-clause-refused
returns-else-is_failure-clause-refused g c =
    let tree = c.audit_wanted.new.tree in
    let has_failed : Text → Bool = g.T.Tree.failed tree.tree in
    subst (λ (x : AuditFault). IsSiteFault (g.T.Tree.agrees tree.tree) has_failed (HasFailedOften (g.T.Tree.failed tree.tree) (g.T.Tree.failures tree.tree)) c.args.judged.now (texts c.args.directories.now) x)
    (sym (rw c.as_slice.ensures.value at c.unless_hidden.ensures))
    (left_fault (texts tree.hidden.items) (texts tree.seen.items) (g.T.Tree.agrees tree.tree) has_failed _ (HasFailedOften (g.T.Tree.failed tree.tree) (g.T.Tree.failures tree.tree)) c.args.judged.now (texts c.args.directories.now) c.in-Err.fault
    tree.apart tree.failed (sym c.is_failure.ensures ∙ c.if-is_failure.false) c.in-Err.ensures.refused)
