use Rattle.std.proofs.Common.{◌<◌, List, map, string_bytes, String}
use Rattle.std.proofs.lemmas.Result.{err_from_is_err_and}
use Rattle.std.specs.declared.alloc.Global.{Global}
use Rattle.message.specs.Messages.{Text}
use Rattle.requests.specs.RequestViews.{action_view}
use Rattle.requests.specs.Steps.{RequestStep}
use Rattle.module_auto.specs.Answers.{Outcomes}
use Rattle.module_subcommands.specs.Changes.{RequestedStep}
use Rattle.module_subcommands.specs.Limits.{context}
use Rattle.module_subcommands.proofs.ChangeLemmas.{fault_wider}
use Rattle.module_subcommands.proofs.RequestLemmas.{of_request}
use Rattle.module_subcommands.proofs.requesting.request_done.Goals as goal

pub returns-in_err-done-clause-refused : goal.returns-in_err-done-clause-refused
returns-in_err-done-clause-refused g c =
    let p = err_from_is_err_and c.from_residual-in_err-done.result c.from_residual-in_err-done.ensures.1 in
    let agrees = g.T.Tree.agrees c.done.new.tree in
    let failed = g.T.Tree.failures c.args.tree.now < g.T.Tree.failures c.done.new.tree in
    let shell = c.args.asking.now.shell in
    let e = c.args.asking.now.env in
    let words : List Text = map (λ (s : String Global). string_bytes s) c.args.words.now in
    let action = action_view c.in_ok-wanted.wanted.action in
    let Comes : Outcomes = λ files listings. RequestStep (context shell files listings) e action in
    rw (p.1, p.2) (fault_wider agrees agrees (λ files listings a. a) failed failed (λ q. q) shell e Comes (RequestedStep shell e words)
    (λ files listings o a k. of_request shell e words action c.in_ok-wanted.ensures.action files listings o k) c.in_err-done.field-0.0
    (rw c.in_ok-wanted.ensures.shell at c.in_err-done.ensures.refused))
