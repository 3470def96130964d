use Rattle.std.proofs.Common.{map, ap, ◌∙◌}
use Rattle.std.specs.List.{flat_map}
use Rattle.envvars.specs.Fields.{without_repeats}
use Rattle.envvars.specs.Texts.{texts_in}
use Rattle.modules.specs.rehearsals.Parts.{loaded_in}
use Rattle.modules.proofs.rehearsals.CheckLemmas.{check_fails, check_fails_in_lines, checked}
use Rattle.modules.proofs.rehearsals.checking.check.Goals as goal

pub returns-clause-checked : goal.returns-clause-checked
returns-clause-checked g c =
    let first = g.T.Tree.failures c.args.tree.now in
    let was = g.T.Tree.failures c.run_lines.new.tree in
    let is = g.T.Tree.failures c.judge_loaded.new.tree in
    checked (g.T.Tree.agrees c.run_lines.new.tree) (g.T.Tree.agrees c.judge_loaded.new.tree) first was is c.args.limits c.args.shell c.args.env.now c.in-Ok.after c.args.text.now
    (map texts_in c.as_slice.result.now) (without_repeats (flat_map loaded_in c.as_slice-2.result.now))
    (record { env = c.run_lines.new.env; outcomes = c.in_ok-outcomes.outcomes; judgments = c.in_ok-judgments.judgments })
    c.judge_loaded.ensures.reads.narrows c.in_ok-outcomes.ensures.failures c.in_ok-judgments.ensures.failures c.in-Ok.ensures.ok
    (ap (map texts_in) c.as_slice.ensures.value ∙ c.in_ok-lines.ensures) c.in_ok-outcomes.ensures.ran c.in_ok-outcomes.ensures.end
    (ap (λ xs. without_repeats (flat_map loaded_in xs)) c.as_slice-2.ensures.value) c.in_ok-judgments.ensures.judged

pub returns-in_err-outcomes-clause-failed : goal.returns-in_err-outcomes-clause-failed
returns-in_err-outcomes-clause-failed g c =
    check_fails_in_lines _ _ _ c.args.limits c.args.shell c.in-Ok.after c.args.env.now c.args.text.now (map texts_in c.as_slice.result.now) c.in-Ok.ensures.ok
    (ap (map texts_in) c.as_slice.ensures.value ∙ c.in_ok-lines.ensures) c.run_lines.ensures.failed

pub returns-in_err-judgments-clause-failed : goal.returns-in_err-judgments-clause-failed
returns-in_err-judgments-clause-failed g c =
    check_fails _ _ _ _ _ c.args.limits c.args.shell c.in-Ok.after c.args.env.now c.args.text.now
    (map texts_in c.as_slice.result.now) (without_repeats (flat_map loaded_in c.as_slice-2.result.now))
    c.in_ok-outcomes.outcomes.items
    c.judge_loaded.ensures.reads.narrows c.in-Ok.ensures.ok (ap (map texts_in) c.as_slice.ensures.value ∙ c.in_ok-lines.ensures) c.in_ok-outcomes.ensures.ran
    (ap (λ xs. without_repeats (flat_map loaded_in xs)) c.as_slice-2.ensures.value) c.run_lines.ensures.failed c.judge_loaded.ensures.failed

pub returns-clause-failed : goal.returns-clause-failed
returns-clause-failed g c =
    check_fails _ _ _ _ _ c.args.limits c.args.shell c.in-Ok.after c.args.env.now c.args.text.now
    (map texts_in c.as_slice.result.now) (without_repeats (flat_map loaded_in c.as_slice-2.result.now))
    c.in_ok-outcomes.outcomes.items
    c.judge_loaded.ensures.reads.narrows c.in-Ok.ensures.ok (ap (map texts_in) c.as_slice.ensures.value ∙ c.in_ok-lines.ensures) c.in_ok-outcomes.ensures.ran
    (ap (λ xs. without_repeats (flat_map loaded_in xs)) c.as_slice-2.ensures.value) c.run_lines.ensures.failed c.judge_loaded.ensures.failed
