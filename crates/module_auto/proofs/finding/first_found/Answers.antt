use Rattle.std.proofs.Common.{◌≡◌, Bool, map, string_bytes, String, Option, Some, refl, sym, ap, subst, ◌∙◌}
use Rattle.std.proofs.lemmas.Result.{err_from_is_err_and}
use Rattle.std.specs.Option.{option_map}
use Rattle.std.specs.declared.alloc.Global.{Global}
use Rattle.envvars.specs.Texts.{Text}
use Rattle.filetree.specs.Agreement.{InEachPair}
use Rattle.filetree.proofs.FailedPaths.{fails_then}
use Rattle.search.specs.Answers.{is_failure}
use Rattle.shelltext.specs.declared.shell.Shell.{Shell}
use Rattle.requests.specs.Looked.{SearchLooksAt}
use Rattle.requests.specs.Steps.{request_context_in}
use Rattle.modules.proofs.TreeAnswers.{reads_both}
use Rattle.module_auto.specs.Loads.{AnyLooksAt, FoundAmong, IsFound, IsMissed}
use Rattle.module_auto.specs.Views.{IsFoundOrMissed}
use Rattle.module_auto.proofs.FindLemmas.{all_missed, first_found, missed_more, one_looks}
use Rattle.module_auto.proofs.finding.first_found.Goals as goal

pub returns-in_err-is_found-clause-failed : goal.returns-in_err-is_found-clause-failed
returns-in_err-is_found-clause-failed g c =
    let p = err_from_is_err_and c.from_residual.result c.from_residual.ensures.1 in
    let agrees = g.T.Tree.agrees c.is_found.new.tree in
    let e = c.args.env.now in
    let all = map (λ (s : String Global). string_bytes s) c.args.alternatives.now in
    let fails = is_failure c.in_err-is_found.field-0.0 in
    let Here : Text → Type 0 = λ at. InEachPair agrees (λ files listings. (shell : Shell) → SearchLooksAt (request_context_in c.args.limits shell files listings) e c.as_str.result.now at) in
    let Whole : Text → Type 0 = λ at. InEachPair agrees (λ files listings. (shell : Shell) → AnyLooksAt (request_context_in c.args.limits shell files listings) e all at) in
    rw (p.1, p.2) (fails_then fails fails (g.T.Tree.failed c.args.tree.now) (g.T.Tree.failed c.loop-name.tree) (g.T.Tree.failed c.is_found.new.tree) Here Whole c.loop-name.invariant.unfailed refl
    (λ at k files listings a shell. one_looks c.args.alternatives.now c.loop-name.name-index c.name-item.result c.loop-name-test.true c.name-item.is
    (request_context_in c.args.limits shell files listings) e at
    (subst (λ (n : Text). SearchLooksAt (request_context_in c.args.limits shell files listings) e n at) c.as_str.ensures.value (k files listings a shell)))
    c.in_err-is_found.ensures.failed)

pub returns-then-branch-clause-found : goal.returns-then-branch-clause-found
returns-then-branch-clause-found g c =
    let e = c.args.env.now in
    let all = map (λ (s : String Global). string_bytes s) c.args.alternatives.now in
    let same : option_map string_bytes c.in_ok-copy.field-0 ≡ Some (string_bytes c.name-item.result) =
    c.in_ok-copy.ensures ∙ ap (λ (t : Text). let o : Option Text = Some t in o) c.as_str-then-branch.ensures.value in
    λ files listings a shell.
    let s = request_context_in c.args.limits shell files listings in
    let found = subst (λ (b : Bool). IsFoundOrMissed s e c.as_str.result.now b) c.if-branch.true (c.in_ok-is_found.ensures.found files listings a shell) in
    subst (λ (o : Option Text). FoundAmong s e all o) (sym same)
    (first_found c.args.alternatives.now c.loop-name.name-index c.name-item.result c.loop-name-test.true c.name-item.is s e
    (subst (λ (n : Text). IsFound s e n) c.as_str.ensures.value found)
    (c.loop-name.invariant.missed files listings (c.is_found.ensures.reads.narrows files listings a) shell))

pub loop-name-preserved : goal.loop-name-preserved
loop-name-preserved g c = record {
  reads = reads_both _ _ _ c.loop-name.invariant.reads c.is_found.ensures.reads;
  unfailed = c.in_ok-is_found.ensures.failed ∙ c.loop-name.invariant.unfailed;
  missed = λ files listings a shell.
      let s = request_context_in c.args.limits shell files listings in
      let e = c.args.env.now in
      let missed = subst (λ (b : Bool). IsFoundOrMissed s e c.as_str.result.now b) c.if-branch.false (c.in_ok-is_found.ensures.found files listings a shell) in
      missed_more c.args.alternatives.now c.loop-name.name-index c.name-item.result c.loop-name-test.true c.name-item.is (IsMissed s e)
      (subst (λ (n : Text). IsMissed s e n) c.as_str.ensures.value missed)
      (c.loop-name.invariant.missed files listings (c.is_found.ensures.reads.narrows files listings a) shell);
}

pub returns-clause-found : goal.returns-clause-found
returns-clause-found g c =
    λ files listings a shell.
    all_missed (IsMissed (request_context_in c.args.limits shell files listings) c.args.env.now) c.args.alternatives.now c.loop-name.name-index c.loop-name-test.false
    (c.loop-name.invariant.missed files listings a shell)
