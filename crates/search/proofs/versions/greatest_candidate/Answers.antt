use Rattle.std.proofs.Common.{◌≡◌, map, find, string_bytes, option_map, refl, ap, ◌∙◌, subst}
use Rattle.std.proofs.lemmas.Result.{IfOk-weaker}
use Rattle.filetree.specs.Agreement.{InEachPair, is_device}
use Rattle.search.specs.Candidates.{LooksForGreatest}
use Rattle.search.specs.Versions.{is_module_in, IsGreatestOf, LooksFromGreatest}
use Rattle.filetree.proofs.FailedPaths.{fails_last}
use Rattle.search.proofs.VersionLemmas.{greatest_is, greatest_looked}
use Rattle.search.proofs.versions.greatest_candidate.Goals as goal

pub returns-clause-answer : goal.returns-clause-answer
returns-clause-answer g c =
    let dir = c.args.dir.now in
    let name = c.args.name.now in
    let agrees = g.T.Tree.agrees c.first_module.new.tree in
    IfOk-weaker c.first_module.result
    (λ r. InEachPair agrees (λ files listings. option_map string_bytes r ≡ find (is_module_in files dir name) (map (λ v. v.now) c.deref.result.now)))
    (λ r. InEachPair agrees (λ files listings. IsGreatestOf files listings dir name (option_map string_bytes r)))
    (λ r h files listings agree.
    greatest_is files listings dir name (map string_bytes c.args.entries.now) (c.requires files listings (c.first_module.ensures.narrows files listings agree))
    (λ v. v.now) c.in_ok-versions.versions.items c.sort_down.new.versions.items c.in_ok-versions.ensures c.in_ok-sort_down.ensures.same c.in_ok-sort_down.ensures.sorted (option_map string_bytes r)
    (h files listings agree ∙ ap (λ vs. find (is_module_in files dir name) (map (λ v. v.now) vs)) c.deref.ensures.value))
    c.first_module.ensures.answer

pub returns-clause-failed : goal.returns-clause-failed
returns-clause-failed g c =
    let dir = c.args.dir.now in
    let name = c.args.name.now in
    let agrees = g.T.Tree.agrees c.first_module.new.tree in
    fails_last is_device (g.T.Tree.failed c.args.tree.now) (g.T.Tree.failed c.args.tree.now) (g.T.Tree.failed c.first_module.new.tree) c.first_module.result
    (λ at. InEachPair agrees (λ files listings. LooksFromGreatest files dir name (map (λ v. v.now) c.deref.result.now) at))
    (λ at. InEachPair agrees (λ files listings. LooksForGreatest files listings dir name at)) refl
    (λ at h files listings a.
    greatest_looked files listings dir name (map string_bytes c.args.entries.now) (c.requires files listings (c.first_module.ensures.narrows files listings a))
    (λ v. v.now) c.in_ok-versions.versions.items c.sort_down.new.versions.items c.in_ok-versions.ensures c.in_ok-sort_down.ensures.same c.in_ok-sort_down.ensures.sorted at
    (subst (λ vs. LooksFromGreatest files dir name (map (λ v. v.now) vs) at) c.deref.ensures.value (h files listings a)))
    c.first_module.ensures.failed
