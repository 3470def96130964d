use Rattle.std.proofs.Common.{◌≡◌, List, [], ◌∷◌, map, refl, sym, ◌∙◌, subst, arith}
use Rattle.std.proofs.lemmas.Result.{err_from_is_err_and}
use Rattle.filetree.specs.Agreement.{InEachPair}
use Rattle.filetree.specs.Modulefiles.{directories}
use Rattle.search.specs.ListingEntries.{name_of}
use Rattle.search.specs.declared.listing_entries.ListingEntry.{ListingEntry}
use Rattle.filetree.proofs.FailedPaths.{fails_then}
use Rattle.modules.specs.Answers.{is_failure}
use Rattle.audit_laws.specs.site.Sites.{site_of, AreNamesBelow, module_below}
use Rattle.audit_site.specs.declared.walk.Evaluation.{Evaluation}
use Rattle.audit_site.specs.WalkParts.{AreEvaluationsOf}
use Rattle.audit_site.specs.WalkLooked.{DirectoryLooksAt}
use Rattle.audit_site.proofs.FailureLemmas.{of_its_directory}
use Rattle.audit_site.proofs.WalkLemmas.{none_evaluated, next_evaluated}
use Rattle.audit_site.proofs.below.evaluate_below.Goals as goal

pub loop-entry-init : goal.loop-entry-init
loop-entry-init g c =
    let a = c.args.settings in
    record {
      reads = record { narrows = λ files listings k. k; counts_failures = omega arith };
      unfailed = refl;
      evaluated = λ files listings k. subst (λ (xs : List Evaluation). AreEvaluationsOf
          (site_of a.limits a.env.now files listings) [] xs) (sym c.new-evaluations.ensures.items)
          (none_evaluated (site_of a.limits a.env.now files listings));
    }

pub loop-entry-preserved : goal.loop-entry-preserved
loop-entry-preserved g c =
    let a = c.args.settings in
    record {
      reads = record { narrows = λ files listings k. c.loop-entry.invariant.reads.narrows files listings (c.evaluate_module.ensures.reads.narrows files listings k); counts_failures = omega arith };
      unfailed = c.in_ok-evaluate_module.ensures.failed ∙ c.loop-entry.invariant.unfailed;
      evaluated = λ files listings k.
          next_evaluated (site_of a.limits a.env.now files listings) c.args.dir.now c.deref-entry-items.result.now c.loop-entry.entry-index c.entry-item.result c.as_str.result.now
          c.loop-entry.evaluations.items c.push.new.self.items c.in_ok-evaluate_module.field-0 c.loop-entry-test.true c.entry-item.is c.as_str.ensures.value c.in_ok-push.ensures.items
          (c.loop-entry.invariant.evaluated files listings (c.evaluate_module.ensures.reads.narrows files listings k)) (c.in_ok-evaluate_module.ensures.evaluated files listings k);
    }

pub returns-in_err-evaluate_module-clause-failed : goal.returns-in_err-evaluate_module-clause-failed
returns-in_err-evaluate_module-clause-failed g c =
    let a = c.args.settings in
    let dir = c.args.dir.now in
    let fails = is_failure c.in_err-evaluate_module.field-0.0 in
    let agrees = g.T.Tree.agrees c.evaluate_module.new.tree in
    let p = err_from_is_err_and c.from_residual-in_err-evaluate_module.result c.from_residual-in_err-evaluate_module.ensures.1 in
    rw (p.1, p.2) (fails_then fails fails (g.T.Tree.failed c.args.tree.now) (g.T.Tree.failed c.loop-entry.tree) (g.T.Tree.failed c.evaluate_module.new.tree)
    (λ at. at ≡ (module_below dir (name_of c.entry-item.result)).path)
    (λ at. InEachPair agrees (λ files listings. directories dir ≡ dir ∷ []
    → DirectoryLooksAt (site_of a.limits a.env.now files listings) dir at))
    (c.loop-entry.invariant.unfailed ∙ c.in_ok-entries.ensures.failed) refl
    (λ at e files listings k alone.
    let site = site_of a.limits a.env.now files listings in
    let names = c.in_ok-entries.ensures.listed alone files listings (c.loop-entry.invariant.reads.narrows files listings (c.evaluate_module.ensures.reads.narrows files listings k)) in
    let same = subst (λ (xs : List ListingEntry). AreNamesBelow site dir (map name_of xs)) (sym c.deref-entry-items.ensures.value) names in
    of_its_directory site dir c.deref-entry-items.result.now c.loop-entry.entry-index c.entry-item.result at c.loop-entry-test.true c.entry-item.is same e)
    (rw c.as_str.ensures.value at c.in_err-evaluate_module.ensures.failed))

pub returns-in_err-push-clause-failed : goal.returns-in_err-push-clause-failed
returns-in_err-push-clause-failed g c =
    let p = err_from_is_err_and c.from_residual-in_err-push.result c.from_residual-in_err-push.ensures.1 in
    rw (p.1, p.2) (c.in_ok-evaluate_module.ensures.failed ∙ (c.loop-entry.invariant.unfailed ∙ c.in_ok-entries.ensures.failed))

pub returns-clause-failed : goal.returns-clause-failed
returns-clause-failed g c = c.loop-entry.invariant.unfailed ∙ c.in_ok-entries.ensures.failed
