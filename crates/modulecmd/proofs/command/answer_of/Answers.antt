use Rattle.std.proofs.Common.{◌<◌, map, string_bytes, String, Ok, Err, refl}
use Rattle.std.proofs.lemmas.Result.{err_from_is_err_and}
use Rattle.std.specs.declared.alloc.Global.{Global}
use Rattle.envvars.specs.Changes.{new_values_in}
use Rattle.filetree.proofs.FailedPaths.{only_if, only_none, only_wider_in_each}
use Rattle.requests.specs.RequestViews.{request_view}
use Rattle.modules.specs.Replies.{changed_view}
use Rattle.modulecmd.specs.Command.{CommandHasResult}
use Rattle.modulecmd.specs.Output.{HasResultInEachPair, ResultLacksText}
use Rattle.modulecmd.proofs.CommandLemmas.{answers, does, unprinted}
use Rattle.modulecmd.proofs.command.answer_of.Goals as goal

pub returns-clause-answered : goal.returns-clause-answered
returns-clause-answered g c =
    answers c.command_returns.ensures c.one_effect.ensures c.difference_makes.ensures (g.T.Tree.agrees c.run_changes.new.tree)
    (map (λ (s : String Global). string_bytes s) c.args.args.now) c.args.env.now (request_view c.in_ok-request.request)
    (record { shell = c.in_ok-request.request.shell; changed = c.in_ok-changed.changed; text = c.in_ok-text.text })
    c.in_ok-request.ensures.made refl c.in_ok-changed.ensures.over_tree c.in_ok-changed.ensures.exact
    (rw c.as_slice.ensures.value at c.in_ok-text.ensures.text)

pub returns-in_err-text-clause-refused : goal.returns-in_err-text-clause-refused
returns-in_err-text-clause-refused g c =
    let p = err_from_is_err_and c.from_residual-in_err-text.result c.from_residual-in_err-text.ensures.1 in
    let arguments = map (λ (s : String Global). string_bytes s) c.args.args.now in
    let e = c.args.env.now in
    let agrees = g.T.Tree.agrees c.run_changes.new.tree in
    let r = request_view c.in_ok-request.request in
    let changed = c.in_ok-changed.changed in
    rw (p.1, p.2) (unprinted r.0 (new_values_in changed.changes) c.in_err-text.field-0.0
    (λ reason. HasResultInEachPair agrees (CommandHasResult arguments e) (Err reason))
    (ResultLacksText agrees e (CommandHasResult arguments e))
    (g.T.Tree.failures c.args.tree.now < g.T.Tree.failures c.run_changes.new.tree)
    (λ name unsayable. (
      (r.0, changed_view e changed),
      λ files listings agreed. does arguments e files listings r (Ok (changed_view e changed)) c.in_ok-request.ensures.made (c.in_ok-changed.ensures.over_tree files listings agreed),
      (new_values_in changed.changes, c.in_ok-changed.ensures.exact, unsayable),
    ))
    (rw c.as_slice.ensures.value at c.in_err-text.ensures.fault))

pub returns-in_err-changed-clause-failed : goal.returns-in_err-changed-clause-failed
returns-in_err-changed-clause-failed g c =
    only_wider_in_each _ _ _ _ _ (λ files listings agreed at h. (request_view c.in_ok-request.request, c.in_ok-request.ensures.made, h)) (only_if _ _ _ _ c.in_err-changed.ensures.failed)

pub returns-in_err-text-clause-failed : goal.returns-in_err-text-clause-failed
returns-in_err-text-clause-failed g c = only_none _ _ _ c.in_ok-changed.ensures.failed

pub returns-clause-failed : goal.returns-clause-failed
returns-clause-failed g c = only_none _ _ _ c.in_ok-changed.ensures.failed
