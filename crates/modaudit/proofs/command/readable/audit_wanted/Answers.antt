use Rattle.std.proofs.Common.{◌<◌, map, string_bytes, String, refl, ◌∙◌, inl, inr}
use Rattle.std.proofs.lemmas.Result.{err_from_is_err_and}
use Rattle.std.specs.declared.alloc.Global.{Global}
use Rattle.filetree.specs.Agreement.{InEachPair}
use Rattle.filetree.proofs.FailedPaths.{fails_then}
use Rattle.modulecmd.specs.Command.{standard}
use Rattle.audit_laws.specs.site.Sites.{site_of}
use Rattle.audit_site.specs.Looked as audits
use Rattle.modaudit.specs.command.Faults.{is_failure, of_walk}
use Rattle.modaudit.specs.command.Looked.{DirectoriesLookAt, SiteLooksAt}
use Rattle.modaudit.proofs.command.AuditLemmas.{cause_in}
use Rattle.modaudit.proofs.command.DirectoryLemmas.{all_there, are_in, fails_later, modulepath_found, modulepath_unfailed, walked_failure}
use Rattle.modaudit.proofs.command.readable.audit_wanted.Goals as goal

pub returns-in_err-judge_directories-clause-refused : goal.returns-in_err-judge_directories-clause-refused
returns-in_err-judge_directories-clause-refused g c =
    let p = err_from_is_err_and c.from_residual.result c.from_residual.ensures.1 in
    rw (p.1, p.2) (inl c.in_err-judge_directories.ensures.cause)

pub returns-in_err-judge_modulepath-clause-refused : goal.returns-in_err-judge_modulepath-clause-refused
returns-in_err-judge_modulepath-clause-refused g c =
    let p = err_from_is_err_and c.from_residual-in_err-judge_modulepath.result c.from_residual-in_err-judge_modulepath.ensures.1 in
    rw (p.1, p.2) (modulepath_found (g.T.Tree.agrees c.judge_directories.new.tree) (g.T.Tree.failures c.args.tree.now < g.T.Tree.failures c.judge_directories.new.tree) c.args.judged.now
    (map (λ (s : String Global). string_bytes s) c.args.directories.now) c.in_err-judge_modulepath.field-0.0 c.in_ok-judge_directories.ensures.there c.in_err-judge_modulepath.ensures.cause)

pub returns-in_err-audit-clause-refused : goal.returns-in_err-audit-clause-refused
returns-in_err-audit-clause-refused g c =
    let p = err_from_is_err_and c.from_residual-in_err-audit.result c.from_residual-in_err-audit.ensures.1 in
    let first = g.T.Tree.failures c.args.tree.now in
    let was = g.T.Tree.failures c.judge_directories.new.tree in
    let is = g.T.Tree.failures c.audit.new.tree in
    let agrees = g.T.Tree.agrees c.audit.new.tree in
    let dirs = map (λ (s : String Global). string_bytes s) c.args.directories.now in
    rw (p.1, p.2) (inr (inr (
      c.in_err-audit.field-0.0,
      refl,
      are_in (g.T.Tree.agrees c.judge_directories.new.tree) agrees dirs c.in_err-audit.ensures.reads.narrows c.in_ok-judge_directories.ensures.there,
      cause_in agrees (was < is) (first < is) standard c.args.judged.now c.in_err-audit.field-0.0 (λ h. fails_later first was is c.in_ok-judge_directories.ensures.reads.counts_failures h) c.in_err-audit.ensures.cause,
    )))

pub returns-clause-found : goal.returns-clause-found
returns-clause-found g c = record {
  directories = are_in (g.T.Tree.agrees c.judge_directories.new.tree) (g.T.Tree.agrees c.audit.new.tree) (map (λ (s : String Global). string_bytes s) c.args.directories.now)
      c.in_ok-audit.ensures.reads.narrows c.in_ok-judge_directories.ensures.there;
  begins = c.in_ok-judge_modulepath.ensures.begins;
  exact = c.in_ok-audit.ensures.exact;
  holds = c.in_ok-audit.ensures.holds;
}

pub returns-in_err-judge_directories-clause-failed : goal.returns-in_err-judge_directories-clause-failed
returns-in_err-judge_directories-clause-failed g c =
    let fails = is_failure c.in_err-judge_directories.field-0.0 in
    let agrees = g.T.Tree.agrees c.judge_directories.new.tree in
    let dirs = map (λ (s : String Global). string_bytes s) c.args.directories.now in
    let p = err_from_is_err_and c.from_residual.result c.from_residual.ensures.1 in
    rw (p.1, p.2) (fails_then fails fails (g.T.Tree.failed c.args.tree.now) (g.T.Tree.failed c.args.tree.now) (g.T.Tree.failed c.judge_directories.new.tree)
    (λ at. InEachPair agrees (λ files listings. DirectoriesLookAt listings dirs at))
    (λ at. InEachPair agrees (λ files listings. SiteLooksAt c.args.judged.now dirs files listings at)) refl refl
    (λ at h files listings a. inl (h files listings a)) c.in_err-judge_directories.ensures.failed)

pub returns-in_err-judge_modulepath-clause-failed : goal.returns-in_err-judge_modulepath-clause-failed
returns-in_err-judge_modulepath-clause-failed g c =
    let p = err_from_is_err_and c.from_residual-in_err-judge_modulepath.result c.from_residual-in_err-judge_modulepath.ensures.1 in
    rw (p.1, p.2) (modulepath_unfailed c.args.judged.now c.in_err-judge_modulepath.field-0.0 (g.T.Tree.failed c.args.tree.now) (g.T.Tree.failed c.judge_directories.new.tree)
    (λ at. InEachPair (g.T.Tree.agrees c.judge_directories.new.tree)
    (λ files listings. SiteLooksAt c.args.judged.now (map (λ (s : String Global). string_bytes s) c.args.directories.now) files listings at))
    c.in_err-judge_modulepath.ensures.cause c.in_ok-judge_directories.ensures.failed)

pub returns-in_err-audit-clause-failed : goal.returns-in_err-audit-clause-failed
returns-in_err-audit-clause-failed g c =
    let dirs = map (λ (s : String Global). string_bytes s) c.args.directories.now in
    let fault = c.in_err-audit.field-0.0 in
    let before = g.T.Tree.agrees c.judge_directories.new.tree in
    let agrees = g.T.Tree.agrees c.audit.new.tree in
    let there = all_there before agrees dirs c.in_err-audit.ensures.reads.narrows c.in_ok-judge_directories.ensures.there in
    let p = err_from_is_err_and c.from_residual-in_err-audit.result c.from_residual-in_err-audit.ensures.1 in
    rw (p.1, p.2) (fails_then (audits.is_failure fault) (is_failure (of_walk fault)) (g.T.Tree.failed c.args.tree.now) (g.T.Tree.failed c.judge_directories.new.tree) (g.T.Tree.failed c.audit.new.tree)
    (λ at. InEachPair agrees (λ files listings. audits.AuditLooksAt (site_of standard c.args.judged.now files listings) at))
    (λ at. InEachPair agrees (λ files listings. SiteLooksAt c.args.judged.now dirs files listings at)) c.in_ok-judge_directories.ensures.failed (walked_failure fault)
    (λ at h files listings a. inr (there files listings a, h files listings a)) c.in_err-audit.ensures.failed)

pub returns-clause-failed : goal.returns-clause-failed
returns-clause-failed g c = c.in_ok-audit.ensures.failed ∙ c.in_ok-judge_directories.ensures.failed
