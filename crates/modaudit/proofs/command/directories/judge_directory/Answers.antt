use Rattle.std.proofs.Common.{◌<◌, ◌≡◌, false, refl, sym, ◌∙◌, subst, inl, inr}
use Rattle.std.proofs.lemmas.Result.{err_from_is_err_and}
use Rattle.filetree.proofs.FailedPaths.{fails_then}
use Rattle.modaudit.specs.command.Audits.{is_no_element}
use Rattle.modaudit.specs.command.Faults.{is_failure}
use Rattle.modaudit.specs.command.Steps.{IsListing}
use Rattle.modaudit.proofs.command.DirectoryLemmas.{fault_of_word, names_unfailed}
use Rattle.modaudit.proofs.command.directories.judge_directory.Goals as goal

pub returns-then-is_no_element-clause-cause : goal.returns-then-is_no_element-clause-cause
returns-then-is_no_element-clause-cause g c =
    fault_of_word (g.T.Tree.agrees c.args.tree.now) (g.T.Tree.failures c.args.tree.now < g.T.Tree.failures c.args.tree.now) c.no_directory.result c.args.dir.now
    (inl (sym c.is_no_element.ensures ∙ c.if-is_no_element.true)) c.no_directory.ensures

pub returns-then-not-branch-clause-cause : goal.returns-then-not-branch-clause-cause
returns-then-not-branch-clause-cause g c =
    let agrees = g.T.Tree.agrees c.is_listed.new.tree in
    fault_of_word agrees (g.T.Tree.failures c.args.tree.now < g.T.Tree.failures c.is_listed.new.tree) c.no_directory-then-not-branch.result c.args.dir.now
    (inr (subst (λ b. IsListing agrees c.args.dir.now b) c.if-not-branch.true c.in_ok-is_listed.ensures.answer)) c.no_directory-then-not-branch.ensures

pub returns-then-is_no_element-clause-failed : goal.returns-then-is_no_element-clause-failed
returns-then-is_no_element-clause-failed g c =
    names_unfailed c.no_directory.result c.args.dir.now (g.T.Tree.failed c.args.tree.now) (g.T.Tree.failed c.args.tree.now) (λ at. (at ≡ c.args.dir.now) × (is_no_element c.args.dir.now ≡ false))
    c.no_directory.ensures refl

pub returns-in_err-is_listed-clause-failed : goal.returns-in_err-is_listed-clause-failed
returns-in_err-is_listed-clause-failed g c =
    let dir = c.args.dir.now in
    let fails = is_failure c.in_err-is_listed.field-0.0 in
    let p = err_from_is_err_and c.from_residual.result c.from_residual.ensures.1 in
    rw (p.1, p.2) (fails_then fails fails (g.T.Tree.failed c.args.tree.now) (g.T.Tree.failed c.args.tree.now) (g.T.Tree.failed c.is_listed.new.tree) (λ at. at ≡ dir)
    (λ at. (at ≡ dir) × (is_no_element dir ≡ false)) refl refl (λ at e. (e, sym c.is_no_element.ensures ∙ c.if-is_no_element.false)) c.in_err-is_listed.ensures.failed)

pub returns-then-not-branch-clause-failed : goal.returns-then-not-branch-clause-failed
returns-then-not-branch-clause-failed g c =
    names_unfailed c.no_directory-then-not-branch.result c.args.dir.now (g.T.Tree.failed c.args.tree.now)
    (g.T.Tree.failed c.is_listed.new.tree) (λ at. (at ≡ c.args.dir.now) × (is_no_element c.args.dir.now ≡ false))
    c.no_directory-then-not-branch.ensures c.in_ok-is_listed.ensures.failed
