use Rattle.std.proofs.Common.{refl, inl, ◌∙◌, map, string_bytes}
use Rattle.std.proofs.lemmas.Result.{err_from_is_err_and}
use Rattle.filetree.specs.Agreement.{InEachPair}
use Rattle.filetree.proofs.FailedPaths.{fails_then}
use Rattle.modules.specs.Answers as steps
use Rattle.audit_site.specs.WalkLooked.{WalkLooksAt}
use Rattle.audit_laws.specs.site.Sites.{site_of}
use Rattle.audit_site.specs.Parts.{WalkedLookAt}
use Rattle.audit_site.specs.Looked.{AuditLooksAt, is_failure}
use Rattle.audit_site.proofs.Looked.{of_walk}
use Rattle.audit_site.proofs.auditing.audit.Goals as goal

pub returns-clause-exact : goal.returns-clause-exact
returns-clause-exact g c = λ files listings agrees.
    let before = c.in_ok-audit_walk.ensures.reads.narrows files listings agrees in
    (c.parts_are_audits.ensures (site_of c.args.limits c.args.env.now files listings) (map string_bytes c.args.without.now) c.in_ok-walk.walk c.in_ok-audit_walk.field-0
    (c.in_ok-walk.ensures.walked files listings before) (c.in_ok-audit_walk.ensures.parts files listings agrees)).0

pub returns-clause-holds : goal.returns-clause-holds
returns-clause-holds g c = λ files listings agrees.
    let before = c.in_ok-audit_walk.ensures.reads.narrows files listings agrees in
    (c.parts_are_audits.ensures (site_of c.args.limits c.args.env.now files listings) (map string_bytes c.args.without.now) c.in_ok-walk.walk c.in_ok-audit_walk.field-0
    (c.in_ok-walk.ensures.walked files listings before) (c.in_ok-audit_walk.ensures.parts files listings agrees)).1

pub returns-in_err-walk-clause-failed : goal.returns-in_err-walk-clause-failed
returns-in_err-walk-clause-failed g c =
    let a = c.args in
    let fails = is_failure c.in_err-walk.field-0.0 in
    let agrees = g.T.Tree.agrees c.walk_site.new.tree in
    let p = err_from_is_err_and c.from_residual.result c.from_residual.ensures.1 in
    rw (p.1, p.2) (fails_then fails fails (g.T.Tree.failed a.tree.now) (g.T.Tree.failed a.tree.now) (g.T.Tree.failed c.walk_site.new.tree)
    (λ at. InEachPair agrees (λ files listings. WalkLooksAt (site_of a.limits a.env.now files listings) at))
    (λ at. InEachPair agrees (λ files listings. AuditLooksAt (site_of a.limits a.env.now files listings) at)) refl refl
    (λ at h files listings k. inl (h files listings k)) c.in_err-walk.ensures.failed)

pub returns-in_err-audit_walk-clause-failed : goal.returns-in_err-audit_walk-clause-failed
returns-in_err-audit_walk-clause-failed g c =
    let a = c.args in
    let walk = c.in_ok-walk.walk in
    let fails = steps.is_failure c.in_err-audit_walk.field-0.0 in
    let agrees = g.T.Tree.agrees c.audit_walk.new.tree in
    let p = err_from_is_err_and c.from_residual-in_err-audit_walk.result c.from_residual-in_err-audit_walk.ensures.1 in
    rw (p.1, p.2) (fails_then fails fails (g.T.Tree.failed a.tree.now) (g.T.Tree.failed c.walk_site.new.tree) (g.T.Tree.failed c.audit_walk.new.tree)
    (λ at. InEachPair agrees (λ files listings. WalkedLookAt a.limits files listings walk at))
    (λ at. InEachPair agrees (λ files listings. AuditLooksAt (site_of a.limits a.env.now files listings) at)) c.in_ok-walk.ensures.failed refl
    (λ at h files listings k. of_walk c.walks.ensures.modules (site_of a.limits a.env.now files listings) walk at
    (c.in_ok-walk.ensures.walked files listings (c.audit_walk.ensures.reads.narrows files listings k)) (h files listings k)) c.in_err-audit_walk.ensures.failed)

pub returns-clause-failed : goal.returns-clause-failed
returns-clause-failed g c = c.in_ok-audit_walk.ensures.failed ∙ c.in_ok-walk.ensures.failed
