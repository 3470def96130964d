use Rattle.std.proofs.Common.{◌≡◌, ◌+◌, ◌<◌, ◌≤◌, List, [], ◌∷◌, ◌++◌, take, string_bytes, arith, sym, subst}
use Rattle.std.proofs.lemmas.List.{take_all}
use Rattle.envvars.specs.Texts.{Text, slice_texts}
use Rattle.filetree.proofs.FailedPaths.{only_at}
use Rattle.modules.specs.rehearsals.Judgments.{AreJudgments, count_failed_judgments}
use Rattle.modules.specs.declared.rehearsals.judging.ModuleVerdict.{ModuleVerdict}
use Rattle.modules.proofs.rehearsals.JudgmentLemmas.{below_more, failures_more, judged_name, judgments_narrowed, judgments_push}
use Rattle.modules.proofs.rehearsals.JudgmentLemmas.{more_below, named_so_far, names_fail, verdict_counts}
use Rattle.modules.proofs.rehearsals.judging.give_verdicts.Goals as goal

pub loop-name-preserved : goal.loop-name-preserved
loop-name-preserved g c =
    let agrees = g.T.Tree.agrees c.verdict-answer.new.tree in
    let first = g.T.Tree.failures c.args.tree.now in
    let was = g.T.Tree.failures c.loop-name.tree in
    let is = g.T.Tree.failures c.verdict-answer.new.tree in
    let judgment : ModuleVerdict = record { name = c.in_ok-full_name.full_name; verdict = c.verdict-answer.result } in
    let sofar = c.loop-name.judgments.items in
    let items : c.push.new.self.items ≡ sofar ++ judgment ∷ [] = c.in_ok-push.ensures.items in
    let names = c.args.names.now in
    let i = c.loop-name.name-index in
    let done = slice_texts (take i names) in
    let name = string_bytes c.in_ok-full_name.full_name in
    let grown : slice_texts (take (i + 1) names) ≡ done ++ name ∷ [] = named_so_far names i _ name c.loop-name-test.true c.in_ok-full_name.ensures.ok in
    let Are : List Text → List ModuleVerdict → Type 0 = λ ns js. AreJudgments agrees (first < is) c.args.limits c.args.env.now ns js in
    let Counted : List ModuleVerdict → Type 0 = λ js. first + count_failed_judgments js ≤ is in
    record {
      reads = record {
        narrows = λ files listings agreed. c.loop-name.invariant.reads.narrows files listings (c.verdict-answer.ensures.reads.narrows files listings agreed);
        counts_failures = omega (arith, c.loop-name.invariant.reads.counts_failures, c.verdict-answer.ensures.reads.counts_failures);
      };
      failures = subst Counted (sym items) (failures_more first was is sofar judgment c.loop-name.invariant.failures
          (verdict_counts agrees was is c.verdict-answer.result _ c.verdict-answer.ensures.reads.counts_failures c.verdict-answer.ensures.judged));
      judged = subst (λ ns. Are ns c.push.new.self.items) (sym grown) (subst (Are (done ++ name ∷ [])) (sym items)
          (judgments_push agrees (first < is) c.args.limits c.args.env.now done sofar name judgment
          (judgments_narrowed (g.T.Tree.agrees c.loop-name.tree) agrees (first < was) (first < is) c.args.limits c.args.env.now done sofar c.verdict-answer.ensures.reads.narrows
          (λ h. more_below first was is h c.verdict-answer.ensures.reads.counts_failures) c.loop-name.invariant.judged)
          (judged_name agrees (was < is) (first < is) c.args.limits c.args.env.now _ judgment c.in_ok-full_name.ensures.ok
          (λ h. below_more first was is c.loop-name.invariant.reads.counts_failures h) c.verdict-answer.ensures.judged)));
      failed =
          names_fail _ _ _ _ _ c.args.limits c.args.env.now c.args.names.now c.loop-name.name-index _ c.verdict-answer.ensures.reads.narrows c.loop-name-test.true c.loop-name.invariant.failed
          (only_at _ _ _ c.verdict-answer.result _ c.verdict-answer.ensures.failed);
    }

pub returns-clause-judged : goal.returns-clause-judged
returns-clause-judged g c = rw (take_all c.loop-name.name-index c.args.names.now c.loop-name-test.false) at c.loop-name.invariant.judged

pub returns-in_err-full_name-clause-failed : goal.returns-in_err-full_name-clause-failed
returns-in_err-full_name-clause-failed g c =
    names_fail _ _ _ _ _ c.args.limits c.args.env.now c.args.names.now c.loop-name.name-index _ c.verdict-answer.ensures.reads.narrows c.loop-name-test.true c.loop-name.invariant.failed
    (only_at _ _ _ c.verdict-answer.result _ c.verdict-answer.ensures.failed)

pub returns-in_err-push-clause-failed : goal.returns-in_err-push-clause-failed
returns-in_err-push-clause-failed g c =
    names_fail _ _ _ _ _ c.args.limits c.args.env.now c.args.names.now c.loop-name.name-index _ c.verdict-answer.ensures.reads.narrows c.loop-name-test.true c.loop-name.invariant.failed
    (only_at _ _ _ c.verdict-answer.result _ c.verdict-answer.ensures.failed)
