use Rattle.std.proofs.Common.{◌<◌, sym, ◌∙◌}
use Rattle.std.proofs.lemmas.Result.{err_from_is_err_and}
use Rattle.modules.specs.declared.refusal.Refusal.TheVariants.{OutOfMemory}
use Rattle.modaudit.specs.command.ArgumentViews.{wanted_view}
use Rattle.modaudit.specs.command.Audits.{HasFailedOften, transient_failure, judged_env, none_there}
use Rattle.modaudit.proofs.command.DirectoryLemmas.{transient_in}
use Rattle.modaudit.proofs.command.ReadableLemmas.{reads_nothing, site_transient}
use Rattle.modaudit.proofs.command.running.prepare.Goals as goal

pub returns-in_err-judged-clause-refused : goal.returns-in_err-judged-clause-refused
returns-in_err-judged-clause-refused g c =
    let p = err_from_is_err_and c.from_residual.result c.from_residual.ensures.1 in
    let tree = c.args.tree.now.tree in
    let failures = g.T.Tree.failures tree in
    let often = (failures < failures) × HasFailedOften (g.T.Tree.failed tree) failures in
    let wanted = wanted_view c.args.wanted.now in
    let fault = c.in_err-judged.field-0.0 in
    rw (p.1, p.2) (site_transient (g.T.Tree.agrees tree) (g.T.Tree.failed tree) often (judged_env c.args.env wanted.directories) wanted.directories fault
    (transient_in fault ⊥ often (λ (x : ⊥). absurd x) c.in_err-judged.ensures.cause))

pub returns-in_err-audit-clause-refused : goal.returns-in_err-audit-clause-refused
returns-in_err-audit-clause-refused g c =
    let p = err_from_is_err_and c.from_residual-in_err-audit.result c.from_residual-in_err-audit.ensures.1 in
    rw (p.1, p.2) (rw (c.in_ok-judged.ensures.set, c.as_slice-directories.ensures.value) at c.in_err-audit.ensures.refused)

pub returns-in_err-report-clause-refused : goal.returns-in_err-report-clause-refused
returns-in_err-report-clause-refused g c =
    let p = err_from_is_err_and c.from_residual-in_err-report.result c.from_residual-in_err-report.ensures.1 in
    rw (p.1, p.2) (transient_failure OutOfMemory tt)

pub returns-in_err-is_nothing-clause-refused : goal.returns-in_err-is_nothing-clause-refused
returns-in_err-is_nothing-clause-refused g c =
    let p = err_from_is_err_and c.from_residual-in_err-is_nothing.result c.from_residual-in_err-is_nothing.ensures.1 in
    rw (p.1, p.2) (transient_failure OutOfMemory tt)

pub returns-then-is_nothing-clause-refused : goal.returns-then-is_nothing-clause-refused
returns-then-is_nothing-clause-refused g c =
    let wanted = wanted_view c.args.wanted.now in
    let found = rw (c.in_ok-judged.ensures.set, c.as_slice-directories.ensures.value, c.as_slice.ensures.value) at c.in_ok-audit.ensures.found in
    none_there wanted.without c.in_ok-audit.audit found.found.directories found.found.exact
    (rw (c.in_ok-judged.ensures.set, c.as_slice-directories.ensures.value) at (sym c.in_ok-is_nothing.ensures ∙ c.if-is_nothing.true))

pub returns-clause-answered : goal.returns-clause-answered
returns-clause-answered g c = record {
  audit = c.in_ok-audit.audit;
  tried = rw (c.in_ok-judged.ensures.set, c.as_slice-directories.ensures.value, c.as_slice.ensures.value) at c.in_ok-audit.ensures.found;
  there = rw (c.in_ok-judged.ensures.set, c.as_slice-directories.ensures.value) at (sym c.in_ok-is_nothing.ensures ∙ c.if-is_nothing.false);
  certified = c.is_all_certified.ensures;
  report = c.in_ok-report.ensures;
}

pub returns-in_err-judged-clause-reads : goal.returns-in_err-judged-clause-reads
returns-in_err-judged-clause-reads g c = reads_nothing g.T.Tree.agrees g.T.Tree.failures g.T.Tree.failed c.args.tree.now.tree _

pub returns-in_err-audit-clause-reads : goal.returns-in_err-audit-clause-reads
returns-in_err-audit-clause-reads g c = rw (c.in_ok-judged.ensures.set, c.as_slice-directories.ensures.value) at c.in_err-audit.ensures.reads

pub returns-in_err-report-clause-reads : goal.returns-in_err-report-clause-reads
returns-in_err-report-clause-reads g c = rw (c.in_ok-judged.ensures.set, c.as_slice-directories.ensures.value) at c.in_ok-audit.ensures.reads

pub returns-in_err-is_nothing-clause-reads : goal.returns-in_err-is_nothing-clause-reads
returns-in_err-is_nothing-clause-reads g c = rw (c.in_ok-judged.ensures.set, c.as_slice-directories.ensures.value) at c.in_ok-audit.ensures.reads

pub returns-then-is_nothing-clause-reads : goal.returns-then-is_nothing-clause-reads
returns-then-is_nothing-clause-reads g c = rw (c.in_ok-judged.ensures.set, c.as_slice-directories.ensures.value) at c.in_ok-audit.ensures.reads

pub returns-clause-reads : goal.returns-clause-reads
returns-clause-reads g c = rw (c.in_ok-judged.ensures.set, c.as_slice-directories.ensures.value) at c.in_ok-audit.ensures.reads
