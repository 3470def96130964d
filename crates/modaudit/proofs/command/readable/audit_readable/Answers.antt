use Rattle.std.proofs.Common.{Bool, ◌<◌, ◌≤◌, List, map, string_bytes, String, sym, ◌∙◌, inl, inr}
use Rattle.std.specs.declared.alloc.Global.{Global}
use Rattle.envvars.specs.Texts.{Text}
use Rattle.filetree.proofs.hiding.HidingLemmas.{all_failed_too, some_failed_too}
use Rattle.modaudit.specs.command.Audits.{HasFailedOften, IsSiteFault}
use Rattle.modaudit.specs.command.Faults.{is_failure}
use Rattle.modaudit.specs.command.Looked.{SiteLooksAt}
use Rattle.modaudit.proofs.command.AuditLemmas.{if_err_so}
use Rattle.modaudit.proofs.command.DirectoryLemmas.{fails_before}
use Rattle.std.proofs.lemmas.Result.{IfOk-weaker}
use Rattle.modaudit.proofs.command.ReadableLemmas.{device_failed, fails_first, readable_in, readable_whole, site_fault_in, unfailed, whole_fault}
use Rattle.modaudit.proofs.command.readable.audit_readable.Goals as goal

abbrev texts : List (String Global) → List Text
texts l = map (λ s. string_bytes s) l

pub invariant_of-tree-clause-failed : goal.invariant_of-tree-clause-failed
invariant_of-tree-clause-failed g c =
    all_failed_too is_failure (g.T.Tree.failed c.args.tree.now.tree) (g.T.Tree.failed c.audit_wanted.new.tree) c.audit_wanted.result _ c.audit_wanted.ensures.failed (texts c.args.tree.now.hidden.items) c.args.tree.now.failed

pub invariant_of-tree-clause-failed_there : goal.invariant_of-tree-clause-failed_there
invariant_of-tree-clause-failed_there g c =
    some_failed_too is_failure (g.T.Tree.failed c.args.tree.now.tree) (g.T.Tree.failed c.audit_wanted.new.tree) c.audit_wanted.result _ c.audit_wanted.ensures.failed c.args.tree.now.failed_at c.args.tree.now.failed_there

pub returns-in-Ok-clause-found : goal.returns-in-Ok-clause-found
returns-in-Ok-clause-found g c =
    let tree = c.audit_wanted.new.tree in
    readable_whole (g.T.Tree.agrees tree) (g.T.Tree.failed tree) (g.T.Tree.failures c.args.tree.now.tree < g.T.Tree.failures tree) (g.T.Tree.failures tree) c.args.judged.now
    (texts c.args.directories.now) (texts c.args.without.now) c.in-Ok.found c.new.result c.new.ensures.items c.in-Ok.ensures.found

pub returns-else-is_failure-clause-refused : goal.returns-else-is_failure-clause-refused
returns-else-is_failure-clause-refused g c =
    let tree = c.audit_wanted.new.tree in
    whole_fault (g.T.Tree.agrees tree) (g.T.Tree.failed tree) _ ((g.T.Tree.failures c.args.tree.now.tree < g.T.Tree.failures tree) × HasFailedOften (g.T.Tree.failed tree) (g.T.Tree.failures tree))
    c.args.judged.now (texts c.args.directories.now) c.in-Err.fault (sym c.is_failure.ensures ∙ c.if-is_failure.false) c.in-Err.ensures.refused

pub returns-then-is_failure-clause-refused : goal.returns-then-is_failure-clause-refused
returns-then-is_failure-clause-refused g c =
    let tree = c.audit_without.new.tree in
    let agrees = g.T.Tree.agrees tree.tree in
    let has_failed : Text → Bool = g.T.Tree.failed tree.tree in
    let often = HasFailedOften has_failed (g.T.Tree.failures tree.tree) in
    let first = g.T.Tree.failures c.args.tree.now.tree in
    let was = g.T.Tree.failures c.audit_wanted.new.tree in
    let dirs = texts c.args.directories.now in
    let fails = device_failed (g.T.Tree.agrees c.audit_wanted.new.tree) (first < was) c.args.judged.now dirs c.in-Err.fault (sym c.is_failure.ensures ∙ c.if-is_failure.true) c.in-Err.ensures.refused in
    if_err_so c.audit_without.result (IsSiteFault agrees has_failed often c.args.judged.now dirs) (IsSiteFault agrees has_failed ((first < g.T.Tree.failures tree.tree) × often) c.args.judged.now dirs)
    (λ fault h. site_fault_in agrees has_failed often ((first < g.T.Tree.failures tree.tree) × often) c.args.judged.now dirs (λ o. (fails_before first was (g.T.Tree.failures tree.tree) c.audit_without.ensures.counts fails, o)) h)
    c.audit_without.ensures.refused

pub returns-in-Ok-clause-reads : goal.returns-in-Ok-clause-reads
returns-in-Ok-clause-reads g c = inl (c.in-Ok.ensures.reads, c.in-Ok.ensures.failed)

pub returns-else-is_failure-clause-reads : goal.returns-else-is_failure-clause-reads
returns-else-is_failure-clause-reads g c =
    inl (c.in-Err.ensures.reads, unfailed (is_failure c.in-Err.fault) (g.T.Tree.failed c.args.tree.now.tree) (g.T.Tree.failed c.audit_wanted.new.tree) _ (sym c.is_failure.ensures ∙ c.if-is_failure.false) c.in-Err.ensures.failed)

pub returns-then-is_failure-clause-reads : goal.returns-then-is_failure-clause-reads
returns-then-is_failure-clause-reads g c =
    let fault = c.in-Err.fault in
    let mid = c.audit_wanted.new.tree in
    let first = g.T.Tree.failures c.args.tree.now.tree in
    let dirs = texts c.args.directories.now in
    let fails = sym c.is_failure.ensures ∙ c.if-is_failure.true in
    inr (fails_first g.T.Tree.agrees g.T.Tree.failures g.T.Tree.failed c.args.tree.now.tree mid c.audit_without.new.tree.tree (SiteLooksAt c.args.judged.now dirs) (is_failure fault) fails c.in-Err.ensures.reads
    (device_failed (g.T.Tree.agrees mid) (first < g.T.Tree.failures mid) c.args.judged.now dirs fault fails c.in-Err.ensures.refused) c.audit_without.ensures.counts c.in-Err.ensures.failed)

pub returns-then-is_failure-clause-found : goal.returns-then-is_failure-clause-found
returns-then-is_failure-clause-found g c =
    let tree = c.audit_without.new.tree in
    let first = g.T.Tree.failures c.args.tree.now.tree in
    let was = g.T.Tree.failures c.audit_wanted.new.tree in
    let dirs = texts c.args.directories.now in
    let fails = device_failed (g.T.Tree.agrees c.audit_wanted.new.tree) (first < was) c.args.judged.now dirs c.in-Err.fault (sym c.is_failure.ensures ∙ c.if-is_failure.true) c.in-Err.ensures.refused in
    IfOk-weaker c.audit_without.result _ _
    (λ audit h. readable_in (g.T.Tree.agrees tree.tree) (g.T.Tree.failed tree.tree) (was ≤ g.T.Tree.failures tree.tree) (first < g.T.Tree.failures tree.tree) (g.T.Tree.failures tree.tree) c.args.judged.now dirs
    (texts c.args.without.now) audit (λ k. fails_before first was (g.T.Tree.failures tree.tree) k fails) h)
    c.audit_without.ensures.found
