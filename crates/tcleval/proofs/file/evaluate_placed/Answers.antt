use Rattle.std.proofs.Common.{[], map, refl}
use Rattle.std.proofs.lemmas.Result.{err_from_is_err_and}
use Rattle.tclrules.specs.Derivation.{OutOfMemory, Halted, lacks_memory}
use Rattle.tclrules.specs.Rules.{file_ended}
use Rattle.tclrules.specs.Promise.{texts_of}
use Rattle.tclcommands.proofs.Stopping.{same_as}
use Rattle.tcleval.proofs.Running.{run_known, begins_refl}
use Rattle.tcleval.proofs.Whole.{evaluated_alike}
use Rattle.tcleval.proofs.file.evaluate_placed.Goals as goal

pub returns-in_err-variables-clause-evaluates : goal.returns-in_err-variables-clause-evaluates
returns-in_err-variables-clause-evaluates g c =
    let p = err_from_is_err_and c.from_residual.result c.from_residual.ensures.1 in
    rw (p.1, p.2) ([], (Halted OutOfMemory, 0, refl, lacks_memory (g.H.Host.trace c.args.host.now).asked refl), λ m. absurd (cc))

pub returns-in_err-variables-clause-same : goal.returns-in_err-variables-clause-same
returns-in_err-variables-clause-same g c = refl

pub returns-clause-evaluates : goal.returns-clause-evaluates
returns-clause-evaluates g c =
    let f = rw (c.in_ok-variables.ensures, c.depth_limit.ensures, c.new-scripts.ensures) at c.script-outcome.ensures.evaluates_to in
    let l = same_as (c.file_completion.ensures _) (run_known file_ended _ _ _ f) in
    evaluated_alike (map (λ n. n.now) c.reserved.result.now) c.args.limits c.args.script.now (texts_of c.args.globals.items) _ _ _ _ _ _ _ _ _ c.reserved.ensures.names l c.file_answer.ensures

pub returns-clause-same : goal.returns-clause-same
returns-clause-same g c = c.script-outcome.ensures.evaluates_to.2.same

pub returns-in_err-variables-clause-begins : goal.returns-in_err-variables-clause-begins
returns-in_err-variables-clause-begins g c = (begins_refl, begins_refl)

pub returns-clause-begins : goal.returns-clause-begins
returns-clause-begins g c = rw c.replace.ensures.value at c.script-outcome.ensures.only_grows.begins
