use Rattle.std.proofs.Common.{◌≡◌, ◌<◌, List, map, string_bytes, String, Result, Ok, Err, ap, ◌∙◌}
use Rattle.std.proofs.lemmas.Result.{err_from_is_err_and}
use Rattle.std.specs.declared.alloc.Global.{Global}
use Rattle.envvars.specs.Texts.{Text}
use Rattle.filetree.specs.Agreement.{InEachPair}
use Rattle.search.specs.Answers.{found_view}
use Rattle.requests.specs.Reasons.{RequestReason}
use Rattle.requests.specs.Steps.{request_context_in}
use Rattle.modules.specs.Answers.{cause_of}
use Rattle.modules.proofs.StepLemmas.{over_tree_given, stands_as}
use Rattle.module_reports.specs.descriptions.Helps.{Helps, HelpsFound}
use Rattle.module_reports.specs.descriptions.Views.{help_view, loaded_names}
use Rattle.module_reports.proofs.descriptions.HelpLemmas.{context_with, helps_found, helps_missed, helps_unread}
use Rattle.module_reports.proofs.descriptions.helping.help.Goals as goal

pub returns-in_err-names-clause-answered : goal.returns-in_err-names-clause-answered
returns-in_err-names-clause-answered g c =
    let p = err_from_is_err_and c.from_residual.result c.from_residual.ensures.1 in
    let agrees = g.T.Tree.agrees c.args.tree.now in
    let e = c.args.env.now in
    let typed = c.args.typed.now in
    rw (p.1, p.2) (stands_as (cause_of c.in_err-names.field-0.0) ⊥ (g.T.Tree.failures c.args.tree.now < g.T.Tree.failures c.args.tree.now)
    (λ r. Err r ≡ loaded_names e)
    (λ r. InEachPair agrees (λ files listings. Helps (request_context_in c.args.limits c.args.shell files listings) e typed (Err r)))
    (λ q. absurd q) (λ r k files listings a. helps_unread (request_context_in c.args.limits c.args.shell files listings) e typed r k) c.in_err-names.ensures)

pub returns-in_err-found-clause-answered : goal.returns-in_err-found-clause-answered
returns-in_err-found-clause-answered g c =
    let p = err_from_is_err_and c.from_residual-in_err-found.result c.from_residual-in_err-found.ensures.1 in
    let agrees = g.T.Tree.agrees c.find_module.new.tree in
    let e = c.args.env.now in
    let typed = c.args.typed.now in
    let names : List Text = map (λ (s : String Global). string_bytes s) c.in_ok-names.names.items in
    rw (p.1, p.2) (stands_as (cause_of c.in_err-found.field-0.0) _ (g.T.Tree.failures c.args.tree.now < g.T.Tree.failures c.find_module.new.tree) _
    (λ r. InEachPair agrees (λ files listings. Helps (request_context_in c.args.limits c.args.shell files listings) e typed (Err r)))
    (λ q. q) (λ r k files listings a. helps_missed (request_context_in c.args.limits c.args.shell files listings) e typed names r c.in_ok-names.ensures (k files listings a))
    c.in_err-found.ensures.over_tree)

pub returns-clause-answered : goal.returns-clause-answered
returns-clause-answered g c =
    let agrees = g.T.Tree.agrees c.find_module.new.tree in
    let e = c.args.env.now in
    let limits = c.args.limits in
    let shell = c.args.shell in
    let typed = c.args.typed.now in
    let m = found_view c.in_ok-found.found in
    let names : List Text = map (λ (s : String Global). string_bytes s) c.as_slice.result.now in
    let read : Ok names ≡ loaded_names e =
    ap (λ (l : List (String Global)). let r : Result (List Text) RequestReason = Ok (map (λ (s : String Global). string_bytes s) l) in r) c.as_slice.ensures.value ∙ c.in_ok-names.ensures in
    over_tree_given agrees (g.T.Tree.failures c.args.tree.now < g.T.Tree.failures c.find_module.new.tree) help_view c.help_of.result
    (λ files listings. HelpsFound limits (context_with shell typed m names e) m)
    (λ files listings. Helps (request_context_in limits shell files listings) e typed)
    (λ files listings o a k. helps_found (request_context_in limits shell files listings) e typed names m o read (c.in_ok-found.ensures.over_tree files listings a) k)
    (λ files listings. c.help_of.ensures)
