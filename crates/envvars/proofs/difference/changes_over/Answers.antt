use Rattle.std.proofs.Common.{filter, ap, ◌∙◌}
use Rattle.envvars.specs.Tables.{differs_from}
use Rattle.envvars.proofs.DifferenceLemmas.{distinct_changes, AreChanges-over}
use Rattle.envvars.proofs.difference.changes_over.Goals as goal

pub sort_by_name-requires : goal.sort_by_name-requires
sort_by_name-requires g c =
    let e = g.B.Vars.vars c.args.old.now in
    distinct_changes e c.args.table.entries _ (c.keep_differences.ensures ∙ ap (filter (differs_from e)) c.in_ok-changes.ensures.edits) c.in_ok-changes.ensures.distinct

pub returns : goal.returns
returns g c =
    let e = g.B.Vars.vars c.args.old.now in
    AreChanges-over e c.args.table.entries _ _ (c.keep_differences.ensures ∙ ap (filter (differs_from e))
    c.in_ok-changes.ensures.edits) c.in_ok-changes.ensures.distinct c.sort_by_name.ensures.ordered
    c.sort_by_name.ensures.same
