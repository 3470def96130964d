use Rattle.std.proofs.Common.{Ok, Err, ap, ◌∙◌}
use Rattle.tclrules.specs.Promise.{texts_of}
use Rattle.modulefile.specs.Answers.{oracle_of}
use Rattle.modulefile_run.specs.Hosting.{context_with, trace_with}
use Rattle.modulefile_run.specs.Running.{context_view}
use Rattle.modulefile_run.proofs.DraftLemmas.{begun, started, drafts_ok, drafts_err}
use Rattle.modulefile_run.proofs.run.draft_file.Goals as goal

pub returns-in-Ok : goal.returns-in-Ok
returns-in-Ok g c =
    let before = g.V.Vars.vars c.args.env.now in
    drafts_ok c.args.limits (context_view c.args.context.now before) (context_with c.evaluate_placed.new.host.journal c.evaluate_placed.new.host.context) c.args.text.now
    (trace_with c.evaluate_placed.new.host.journal c.evaluate_placed.new.host.messages c.evaluate_placed.new.host.asked c.evaluate_placed.new.host.refusal) c.in-Ok._ending c.finish.result
    (started c.args.limits c.args.text.now c.args.context.now c.over-runner.result.context before
    c.over-runner.result.journal c.over-runner.result.messages c.over-runner.result.asked
    c.over-runner.result.refusal (texts_of c.in_ok-globals.globals.items) (Ok c.in-Ok._ending)
    (trace_with c.evaluate_placed.new.host.journal c.evaluate_placed.new.host.messages c.evaluate_placed.new.host.asked c.evaluate_placed.new.host.refusal)
    c.over-runner.ensures.journal c.over-runner.ensures.context c.over-runner.ensures.messages
    c.over-runner.ensures.asked c.over-runner.ensures.refusal c.in_ok-globals.ensures c.in-Ok.ensures.evaluates)
    (c.in-Ok.ensures.same ∙ ap oracle_of (begun c.args.context.now c.over-runner.result.context before c.over-runner.result.journal c.over-runner.ensures.journal c.over-runner.ensures.context))
    c.finish.ensures.ok c.finish.ensures.only

pub returns : goal.returns
returns g c =
    let before = g.V.Vars.vars c.args.env.now in
    let host = c.evaluate_placed.new.host in
    let trace = trace_with host.journal host.messages host.asked host.refusal in
    drafts_err c.args.limits (context_view c.args.context.now before) c.args.text.now trace
    c.in-Err.fault c.stopped_file.result.stop c.stopped_file.result
    (started c.args.limits c.args.text.now c.args.context.now c.over-runner.result.context before
    c.over-runner.result.journal c.over-runner.result.messages c.over-runner.result.asked
    c.over-runner.result.refusal (texts_of c.in_ok-globals.globals.items) (Err c.in-Err.fault) trace
    c.over-runner.ensures.journal c.over-runner.ensures.context c.over-runner.ensures.messages
    c.over-runner.ensures.asked c.over-runner.ensures.refusal c.in_ok-globals.ensures c.in-Err.ensures.evaluates)
    c.stopped_file.ensures.stop
    (c.stopped_file.ensures.reason before)
