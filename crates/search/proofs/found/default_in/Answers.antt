use Rattle.std.proofs.Common.{◌≡◌, ◌⊎◌, inr}
use Rattle.filetree.specs.Agreement.{InEachPair}
use Rattle.filetree.specs.Modulefiles.{path_of}
use Rattle.search.specs.Looked.{LooksInFolder}
use Rattle.search.specs.Answers.{is_failure}
use Rattle.filetree.proofs.FailedPaths.{fails_last}
use Rattle.search.proofs.found.default_in.Goals as goal

pub returns-clause-failed : goal.returns-clause-failed
returns-clause-failed g c =
    let results = g.D.DefaultFiles.results c.args.default_files.now in
    let dir = c.args.dir.now in
    let name = c.args.name.now in
    let agrees = g.T.Tree.agrees c.default_of.new.tree in
    fails_last is_failure (g.T.Tree.failed c.args.tree.now) (g.T.Tree.failed c.entries.new.self) (g.T.Tree.failed c.default_of.new.tree) c.default_of.result
    (λ at. InEachPair agrees (λ files listings. LooksInFolder results files listings dir name at))
    (λ at. InEachPair agrees (λ files listings. (at ≡ path_of dir name) ⊎ LooksInFolder results files listings dir name at))
    c.in_ok-entries.ensures.failed (λ at h files listings a. inr (h files listings a)) c.default_of.ensures.failed
