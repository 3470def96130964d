use Rattle.std.proofs.Common.{◌≤◌, arith, List, map, string_bytes, String}
use Rattle.std.proofs.lemmas.List.{length-map}
use Rattle.std.proofs.lemmas.Result.{err_from_is_err_and}
use Rattle.std.specs.declared.alloc.Global.{Global}
use Rattle.envvars.specs.Texts.{Text}
use Rattle.modules.specs.declared.refusal.Refusal.TheVariants.{OutOfMemory}
use Rattle.modaudit.specs.command.Audits.{HasFailedOften, transient_failure}
use Rattle.modaudit.proofs.command.DirectoryLemmas.{counts_both}
use Rattle.modaudit.proofs.command.ReadableLemmas.{readable_left, site_transient}
use Rattle.modaudit.proofs.command.readable.audit_without.Goals as goal

abbrev texts : List (String Global) → List Text
texts l = map (λ s. string_bytes s) l

pub returns-in-Some-clause-found : goal.returns-in-Some-clause-found
returns-in-Some-clause-found g c =
    let tree = c.audit_seen.new.tree in
    readable_left (g.T.Tree.agrees tree.tree) (g.T.Tree.failed tree.tree) (g.T.Tree.failures c.args.tree.now.tree ≤ g.T.Tree.failures tree.tree) (g.T.Tree.failures tree.tree) c.args.judged.now
    (texts c.args.directories.now) (texts c.args.without.now) (texts tree.hidden.items) c.in-Some.found c.in_ok-in_order.field-0
    (counts_both (g.T.Tree.failures c.args.tree.now.tree) (g.T.Tree.failures c.loop.tree.tree) (g.T.Tree.failures tree.tree) c.loop.invariant c.in_ok-found.ensures.counts)
    (omega (arith, length-map tree.hidden.items (λ (s : String Global). string_bytes s), tree.counted)) c.in_ok-in_order.ensures.order (rw c.as_slice.ensures.value at c.in_ok-in_order.ensures.same) tree.failed (rw c.in-Some.is at c.in_ok-found.ensures.found)

pub returns-in_err-in_order-clause-refused : goal.returns-in_err-in_order-clause-refused
returns-in_err-in_order-clause-refused g c =
    let p = err_from_is_err_and c.from_residual-in_err-in_order.result c.from_residual-in_err-in_order.ensures.1 in
    rw (p.1, p.2) (transient_failure OutOfMemory tt)

pub returns-in_err-hide_all_failed-clause-refused : goal.returns-in_err-hide_all_failed-clause-refused
returns-in_err-hide_all_failed-clause-refused g c =
    let p = err_from_is_err_and c.from_residual-in_err-hide_all_failed.result c.from_residual-in_err-hide_all_failed.ensures.1 in
    rw (p.1, p.2) (transient_failure OutOfMemory tt)

pub returns-then-not-branch-clause-refused : goal.returns-then-not-branch-clause-refused
returns-then-not-branch-clause-refused g c =
    let tree = c.hide_all_failed.new.self in
    site_transient (g.T.Tree.agrees tree.tree) (g.T.Tree.failed tree.tree) (HasFailedOften (g.T.Tree.failed tree.tree) (g.T.Tree.failures tree.tree)) c.args.judged.now (texts c.args.directories.now)
    c.in_the_end.result c.in_the_end.ensures

pub returns-clause-refused : goal.returns-clause-refused
returns-clause-refused g c =
    let tree = c.loop.tree in
    site_transient (g.T.Tree.agrees tree.tree) (g.T.Tree.failed tree.tree) (HasFailedOften (g.T.Tree.failed tree.tree) (g.T.Tree.failures tree.tree)) c.args.judged.now (texts c.args.directories.now)
    c.in_the_end-2.result c.in_the_end-2.ensures
