use Rattle.std.proofs.Common.{None, string_bytes, sym, subst}
use Rattle.envvars.specs.Environment.{Environment}
use Rattle.envvars.specs.Changes.{new_values_in}
use Rattle.filetree.proofs.FailedPaths.{only_if, only_none, only_wider_in_each}
use Rattle.requests.specs.RequestViews.{request_view}
use Rattle.modules.specs.Replies.{changed_view}
use Rattle.modules.specs.rehearsals.RehearsalParts.{PrintsFor}
use Rattle.modules.proofs.rehearsals.TextLemmas.{accepted_came, refused_came, unsaid_came, wanting_came}
use Rattle.modules.proofs.rehearsals.rehearsal.print_request.Goals as goal

pub returns-in_default-clause-prints_for : goal.returns-in_default-clause-prints_for
returns-in_default-clause-prints_for g c =
    refused_came (g.T.Tree.agrees c.run_changes.new.tree) c.args.limits (request_view c.args.request.now) c.args.env.now
    (g.T.Tree.failures c.args.tree.now) (g.T.Tree.failures c.run_changes.new.tree) c.run_changes.ensures.reads.counts_failures
    c.in_default.field-0 c.in_default.ensures.over_tree

pub returns-in_default-print_changes-clause-prints_for : goal.returns-in_default-print_changes-clause-prints_for
returns-in_default-print_changes-clause-prints_for g c =
    let changed = c.in-Ok.changed in
    unsaid_came (g.T.Tree.agrees c.run_changes.new.tree) c.args.limits (request_view c.args.request.now) c.args.env.now
    (g.T.Tree.failures c.args.tree.now) (g.T.Tree.failures c.run_changes.new.tree) c.run_changes.ensures.reads.counts_failures
    (changed_view c.args.env.now changed) (new_values_in changed.changes) c.in-Ok.ensures.over_tree c.in-Ok.ensures.exact
    c.in_default-print_changes.field-0 (rw c.as_slice.ensures.value at c.in_default-print_changes.ensures.fault)

pub returns-in-Ok-apply-clause-prints_for : goal.returns-in-Ok-apply-clause-prints_for
returns-in-Ok-apply-clause-prints_for g c =
    let changed = c.in-Ok.changed in
    accepted_came (g.T.Tree.agrees c.run_changes.new.tree) c.args.limits (request_view c.args.request.now) c.args.env.now
    (g.T.Tree.failures c.args.tree.now) (g.T.Tree.failures c.run_changes.new.tree) c.run_changes.ensures.reads.counts_failures
    (changed_view c.args.env.now changed) (new_values_in changed.changes) c.in-Ok.ensures.over_tree c.in-Ok.ensures.exact
    c.apply.new.self (string_bytes c.in-Ok-print_changes.text) (rw c.as_slice.ensures.value at c.in-Ok-print_changes.ensures.text) c.in-Ok-apply.ensures.ok

pub returns-clause-prints_for : goal.returns-clause-prints_for
returns-clause-prints_for g c =
    let agrees = g.T.Tree.agrees c.run_changes.new.tree in
    let r = request_view c.args.request.now in
    let before = g.T.Tree.failures c.args.tree.now in
    let after = g.T.Tree.failures c.run_changes.new.tree in
    subst (λ (x : Environment). PrintsFor agrees c.args.limits r c.args.env.now x None before after) (sym c.in-Err.ensures.err)
    (wanting_came agrees c.args.limits r c.args.env.now before after c.run_changes.ensures.reads.counts_failures)

pub returns-in_default-clause-failed : goal.returns-in_default-clause-failed
returns-in_default-clause-failed g c =
    only_wider_in_each _ _ _ _ _ (λ files listings agreed at h shell. h) (only_if _ _ _ _ c.in_default.ensures.failed)

pub returns-in_default-print_changes-clause-failed : goal.returns-in_default-print_changes-clause-failed
returns-in_default-print_changes-clause-failed g c = only_none _ _ _ c.in-Ok.ensures.failed

pub returns-in-Ok-apply-clause-failed : goal.returns-in-Ok-apply-clause-failed
returns-in-Ok-apply-clause-failed g c = only_none _ _ _ c.in-Ok.ensures.failed

pub returns-clause-failed : goal.returns-clause-failed
returns-clause-failed g c = only_none _ _ _ c.in-Ok.ensures.failed
