use Rattle.std.proofs.Common.{List, map, string_bytes, String, refl, inl}
use Rattle.std.proofs.lemmas.Result.{err_from_is_err_and}
use Rattle.std.specs.declared.alloc.Global.{Global}
use Rattle.envvars.specs.Texts.{Text}
use Rattle.modules.specs.declared.refusal.Refusal.TheVariants.{OutOfMemory}
use Rattle.modaudit.specs.command.Audits.{transient_failure}
use Rattle.modaudit.specs.command.Looked.{JudgedLooksAt, SiteLooksAt}
use Rattle.modaudit.proofs.command.ReadableLemmas.{reads_wider}
use Rattle.modaudit.proofs.command.TryingLemmas.{all_kept, counts_unless, out_of_memory, reads_with_dry_runs, some_kept, tried_audit}
use Rattle.modaudit.proofs.command.trying.audit_tried.Goals as goal

abbrev texts : List (String Global) → List Text
texts l = map (λ s. string_bytes s) l

pub invariant_of-tree-clause-failed : goal.invariant_of-tree-clause-failed
invariant_of-tree-clause-failed g c =
    let tree = c.audit_readable.new.tree in
    all_kept (g.T.Tree.failed tree.tree) (g.T.Tree.failed c.dry_runs_of.new.tree) c.dry_runs_of.ensures.kept (texts tree.hidden.items) tree.failed

pub invariant_of-tree-clause-failed_there : goal.invariant_of-tree-clause-failed_there
invariant_of-tree-clause-failed_there g c =
    let tree = c.audit_readable.new.tree in
    some_kept (g.T.Tree.failed tree.tree) (g.T.Tree.failed c.dry_runs_of.new.tree) c.dry_runs_of.ensures.kept tree.failed_at tree.failed_there

pub returns-in-Ok-clause-reads : goal.returns-in-Ok-clause-reads
returns-in-Ok-clause-reads g c =
    let old = c.args.tree.now.tree in
    let mid = c.audit_readable.new.tree.tree in
    let new = c.dry_runs_of.new.tree in
    let judged = c.args.judged.now in
    let dirs = texts c.args.directories.now in
    let seen = c.in_ok-found.field-0 in
    reads_with_dry_runs g.T.Tree.agrees g.T.Tree.failures g.T.Tree.failed old mid new judged dirs (texts c.args.without.now) seen c.in-Ok.ensures.reads c.dry_runs_of.ensures.kept c.in_ok-found.ensures.found
    c.walks.ensures.modules c.in_ok-found.ensures.reads (rw c.as_slice-2.ensures.value at c.in-Ok.ensures.failed)

pub returns-in-Ok-clause-found : goal.returns-in-Ok-clause-found
returns-in-Ok-clause-found g c =
    let old = c.args.tree.now.tree in
    let mid = c.audit_readable.new.tree.tree in
    let new = c.dry_runs_of.new.tree in
    let judged = c.args.judged.now in
    let dirs = texts c.args.directories.now in
    let seen = c.in_ok-found.field-0 in
    tried_audit g.T.Tree.agrees g.T.Tree.failures g.T.Tree.failed old mid new judged dirs (texts c.args.without.now) seen c.in-Ok.ensures.reads c.dry_runs_of.ensures.kept c.in_ok-found.ensures.found
    (record { found = seen.found; unreadable = seen.unreadable; dry_runs = c.in-Ok.dry_runs; not_utf8 = c.in_ok-kept.kept }) (texts c.args.not_utf8.now) refl refl
    (counts_unless g.T.Tree.agrees g.T.Tree.failures g.T.Tree.failed old mid (SiteLooksAt judged dirs) c.in_ok-found.ensures.reads)
    (rw c.as_slice-2.ensures.value at c.in-Ok.ensures.tried) c.in-Ok.ensures.failures (rw c.as_slice.ensures.value at c.in_ok-kept.ensures)

pub returns-in-Err-clause-reads : goal.returns-in-Err-clause-reads
returns-in-Err-clause-reads g c =
    let old = c.args.tree.now.tree in
    let mid = c.audit_readable.new.tree.tree in
    let new = c.dry_runs_of.new.tree in
    let judged = c.args.judged.now in
    let dirs = texts c.args.directories.now in
    let seen = c.in_ok-found.field-0 in
    reads_with_dry_runs g.T.Tree.agrees g.T.Tree.failures g.T.Tree.failed old mid new judged dirs (texts c.args.without.now) seen c.in-Err.ensures.reads c.dry_runs_of.ensures.kept c.in_ok-found.ensures.found
    c.walks.ensures.modules c.in_ok-found.ensures.reads (rw c.as_slice-2.ensures.value at c.in-Err.ensures.failed)

pub returns-in-Err-clause-refused : goal.returns-in-Err-clause-refused
returns-in-Err-clause-refused g c =
    let tree = c.dry_runs_of.new.tree in
    out_of_memory (g.T.Tree.agrees tree) (g.T.Tree.failed tree) _ c.args.judged.now (texts c.args.directories.now) c.in-Err.refusal c.in-Err.ensures.cause

pub returns-in_err-found-clause-reads : goal.returns-in_err-found-clause-reads
returns-in_err-found-clause-reads g c =
    let judged = c.args.judged.now in
    let dirs = texts c.args.directories.now in
    reads_wider g.T.Tree.agrees g.T.Tree.failures g.T.Tree.failed c.args.tree.now.tree c.audit_readable.new.tree.tree (SiteLooksAt judged dirs) (JudgedLooksAt judged dirs)
    (λ files listings at h. inl h) c.in_err-found.ensures.reads

pub returns-in_err-kept-clause-reads : goal.returns-in_err-kept-clause-reads
returns-in_err-kept-clause-reads g c =
    let judged = c.args.judged.now in
    let dirs = texts c.args.directories.now in
    reads_wider g.T.Tree.agrees g.T.Tree.failures g.T.Tree.failed c.args.tree.now.tree c.audit_readable.new.tree.tree (SiteLooksAt judged dirs) (JudgedLooksAt judged dirs)
    (λ files listings at h. inl h) c.in_ok-found.ensures.reads

pub returns-in_err-kept-clause-refused : goal.returns-in_err-kept-clause-refused
returns-in_err-kept-clause-refused g c =
    let p = err_from_is_err_and c.from_residual-in_err-kept.result c.from_residual-in_err-kept.ensures.1 in
    rw (p.1, p.2) (transient_failure OutOfMemory tt)
