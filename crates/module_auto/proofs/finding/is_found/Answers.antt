use Rattle.std.proofs.Common.{◌≡◌, true, Err, sym, ◌∙◌}
use Rattle.envvars.specs.Texts.{Text}
use Rattle.filetree.specs.Agreement.{InEachPair}
use Rattle.lookup.specs.DefaultFileResults.{HasResult}
use Rattle.search.specs.Answers.{cause_of, found_view}
use Rattle.search.specs.Found.{Found}
use Rattle.search.specs.Reasons.{FindReason}
use Rattle.requests.specs.Steps.{request_context_in}
use Rattle.module_auto.specs.Views.{is_reason}
use Rattle.module_auto.proofs.FindLemmas.{is_found, is_missed, reason_of}
use Rattle.module_auto.proofs.finding.is_found.Goals as goal

pub returns-in-Ok-clause-found : goal.returns-in-Ok-clause-found
returns-in-Ok-clause-found g c =
    λ files listings a shell.
    is_found (request_context_in c.args.limits shell files listings) c.args.env.now c.args.name.now c.modulepath.result.now c.modulepath.ensures (found_view c.in-Ok.field-0)
    (c.in-Ok.ensures.over_tree files listings a)

pub returns-then-is_reason-clause-found : goal.returns-then-is_reason-clause-found
returns-then-is_reason-clause-found g c =
    let path : Text = c.modulepath.result.now in
    let is : is_reason (cause_of c.in-Err.fault) ≡ true = sym c.is_reason.ensures ∙ c.if-is_reason.true in
    let Missed : FindReason → Type 0 = λ r. InEachPair (g.T.Tree.agrees c.locate.new.tree) (λ files listings. Found (HasResult c.args.limits) files listings path c.args.name.now (Err r)) in
    let found = reason_of (cause_of c.in-Err.fault) _ Missed is c.in-Err.ensures.over_tree in
    λ files listings a shell.
    is_missed (request_context_in c.args.limits shell files listings) c.args.env.now c.args.name.now path c.modulepath.ensures found.0 (found.1 files listings a)
