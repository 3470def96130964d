use Rattle.std.proofs.Common.{◌≡◌, ◌<◌, false, map, refl, ◌∙◌, string_bytes, String}
use Rattle.std.proofs.lemmas.List.{take_all}
use Rattle.std.proofs.lemmas.Result.{err_from_is_err_and}
use Rattle.std.specs.declared.alloc.Global.{Global}
use Rattle.filetree.specs.Agreement.{InEachPair}
use Rattle.filetree.proofs.FailedPaths.{fails_then}
use Rattle.modaudit.specs.command.Audits.{is_no_element}
use Rattle.modaudit.specs.command.Faults.{is_failure}
use Rattle.modaudit.specs.command.Looked.{DirectoriesLookAt}
use Rattle.modules.proofs.TreeAnswers.{reads_both}
use Rattle.modaudit.proofs.command.DirectoryLemmas.{fails_later, directory_more, fault_among, looks_in_turn}
use Rattle.modaudit.proofs.command.directories.judge_directories.Goals as goal

pub loop-dir-preserved : goal.loop-dir-preserved
loop-dir-preserved g c = record {
  reads = reads_both c.args.tree.now c.loop-dir.tree c.judge_directory.new.tree c.loop-dir.invariant.reads c.in_ok-judge_directory.ensures.reads;
  unfailed = c.in_ok-judge_directory.ensures.failed ∙ c.loop-dir.invariant.unfailed;
  there = directory_more (g.T.Tree.agrees c.loop-dir.tree) (g.T.Tree.agrees c.judge_directory.new.tree) c.args.dirs.now c.loop-dir.dir-index c.dir-item.result c.loop-dir-test.true c.dir-item.is
      c.in_ok-judge_directory.ensures.reads.narrows c.loop-dir.invariant.there (rw c.as_str.ensures.value at c.in_ok-judge_directory.ensures.there);
}

pub returns-in_err-judge_directory-clause-reads : goal.returns-in_err-judge_directory-clause-reads
returns-in_err-judge_directory-clause-reads g c =
    reads_both c.args.tree.now c.loop-dir.tree c.judge_directory.new.tree c.loop-dir.invariant.reads c.in_err-judge_directory.ensures.reads

pub returns-in_err-judge_directory-clause-cause : goal.returns-in_err-judge_directory-clause-cause
returns-in_err-judge_directory-clause-cause g c =
    let p = err_from_is_err_and c.from_residual.result c.from_residual.ensures.1 in
    let first = g.T.Tree.failures c.args.tree.now in
    let was = g.T.Tree.failures c.loop-dir.tree in
    let is = g.T.Tree.failures c.judge_directory.new.tree in
    rw (p.1, p.2) (fault_among (g.T.Tree.agrees c.loop-dir.tree) (g.T.Tree.agrees c.judge_directory.new.tree) (was < is)
    (first < is) c.args.dirs.now c.loop-dir.dir-index c.dir-item.result c.in_err-judge_directory.field-0.0
    (λ h. fails_later first was is c.loop-dir.invariant.reads.counts_failures h) c.loop-dir-test.true c.dir-item.is c.in_err-judge_directory.ensures.reads.narrows c.loop-dir.invariant.there
    (rw c.as_str.ensures.value at c.in_err-judge_directory.ensures.cause))

pub returns-clause-there : goal.returns-clause-there
returns-clause-there g c = rw (take_all c.loop-dir.dir-index c.args.dirs.now c.loop-dir-test.false) at c.loop-dir.invariant.there

pub returns-in_err-judge_directory-clause-failed : goal.returns-in_err-judge_directory-clause-failed
returns-in_err-judge_directory-clause-failed g c =
    let p = err_from_is_err_and c.from_residual.result c.from_residual.ensures.1 in
    let fails = is_failure c.in_err-judge_directory.field-0.0 in
    let agrees = g.T.Tree.agrees c.judge_directory.new.tree in
    let word = string_bytes c.dir-item.result in
    rw (p.1, p.2) (fails_then fails fails (g.T.Tree.failed c.args.tree.now) (g.T.Tree.failed c.loop-dir.tree)
    (g.T.Tree.failed c.judge_directory.new.tree) (λ at. (at ≡ word) × (is_no_element word ≡ false))
    (λ at. InEachPair agrees (λ files listings. DirectoriesLookAt listings (map (λ (s : String Global). string_bytes s) c.args.dirs.now) at)) c.loop-dir.invariant.unfailed refl
    (λ at h. looks_in_turn (g.T.Tree.agrees c.loop-dir.tree) agrees c.args.dirs.now c.loop-dir.dir-index
    c.dir-item.result at c.loop-dir-test.true c.dir-item.is c.in_err-judge_directory.ensures.reads.narrows
    c.loop-dir.invariant.there h) (rw c.as_str.ensures.value at c.in_err-judge_directory.ensures.failed))

pub returns-clause-failed : goal.returns-clause-failed
returns-clause-failed g c = c.loop-dir.invariant.unfailed
