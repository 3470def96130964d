use Rattle.std.proofs.Common.{◌≡◌, ◌<◌, string_bytes}
use Rattle.std.proofs.lemmas.Result.{err_from_is_err_and}
use Rattle.audit_laws.specs.site.Sites.{SiteModule}
use Rattle.audit_site.specs.WalkParts.{site_context}
use Rattle.audit_site.proofs.FailureLemmas.{shows_unfailed}
use Rattle.audit_site.proofs.OutcomeLemmas.{script_comes, unread_comes}
use Rattle.audit_site.proofs.files.evaluate_file.Goals as goal

pub returns-in_err-text-clause-over_tree : goal.returns-in_err-text-clause-over_tree
returns-in_err-text-clause-over_tree g c =
    let p = err_from_is_err_and c.from_residual.result c.from_residual.ensures.1 in
    let a = c.args.settings in
    let m : SiteModule = record { name = c.args.name.now; path = c.args.path.now } in
    rw (p.1, p.2) (unread_comes a.limits a.env.now c.requires m (g.T.Tree.agrees c.script_at.new.tree)
    (g.T.Tree.failures c.args.tree.now < g.T.Tree.failures c.script_at.new.tree) c.in_err-text.field-0.0 c.in_err-text.ensures.over_tree)

pub returns-clause-over_tree : goal.returns-clause-over_tree
returns-clause-over_tree g c =
    let a = c.args.settings in
    let m : SiteModule = record { name = c.args.name.now; path = c.args.path.now } in
    let shows = rw c.as_str-text.ensures.value at c.evaluate_script.ensures in
    script_comes a.limits a.env.now c.requires m (g.T.Tree.agrees c.script_at.new.tree)
    (g.T.Tree.failures c.args.tree.now < g.T.Tree.failures c.script_at.new.tree) (string_bytes c.in_ok-text.text) c.evaluate_script.result c.in_ok-text.ensures.over_tree shows

pub returns-in_err-text-clause-failed : goal.returns-in_err-text-clause-failed
returns-in_err-text-clause-failed g c =
    let p = err_from_is_err_and c.from_residual.result c.from_residual.ensures.1 in
    rw (p.1, p.2) c.in_err-text.ensures.failed

pub returns-clause-failed : goal.returns-clause-failed
returns-clause-failed g c =
    let a = c.args.settings in
    shows_unfailed a.limits (λ w. site_context w c.args.name.now c.args.path.now a.env.now) c.as_str-text.result.now c.evaluate_script.result (g.T.Tree.failed c.args.tree.now) (g.T.Tree.failed c.script_at.new.tree) (λ at. at ≡ c.args.path.now) c.evaluate_script.ensures c.in_ok-text.ensures.failed
