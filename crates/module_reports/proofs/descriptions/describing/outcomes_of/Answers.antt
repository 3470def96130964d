use Rattle.std.proofs.Common.{List, map, string_bytes, String, ap, ◌∙◌}
use Rattle.std.specs.declared.alloc.Global.{Global}
use Rattle.envvars.specs.Texts.{Text}
use Rattle.filetree.proofs.FailedPaths.{only_wider_in_each}
use Rattle.shelltext.specs.declared.shell.Shell.{Shell}
use Rattle.requests.specs.Looked.{SessionLooksAt}
use Rattle.requests.specs.RequestViews.{request_view}
use Rattle.requests.specs.Steps.{request_context_in}
use Rattle.module_reports.specs.descriptions.Descriptions.{OneLooksAt}
use Rattle.module_reports.proofs.descriptions.DescriptionLemmas.{described_of, looks_of}
use Rattle.module_reports.proofs.descriptions.describing.outcomes_of.Goals as goal

pub returns-in_err-outcomes-clause-failed : goal.returns-in_err-outcomes-clause-failed
returns-in_err-outcomes-clause-failed g c =
    let e = c.args.env.now in
    let limits = c.args.limits in
    let shell = c.args.shell in
    let names : List Text = map (λ (s : String Global). string_bytes s) c.args.names.now in
    let asked = ap (map request_view) c.as_slice.ensures.value ∙ c.in_ok-requests.ensures in
    only_wider_in_each (g.T.Tree.agrees c.session.new.tree) _ _
    (λ files listings at. (other : Shell) → SessionLooksAt (request_context_in limits other files listings) c.in_ok-copy.field-0 (map request_view c.as_slice.result.now) at)
    (λ files listings at. OneLooksAt (request_context_in limits shell files listings) e names at)
    (λ files listings agreed at h. looks_of c.reports.ensures.unchanged limits shell e _ names _ c.in_ok-copy.ensures.ok asked files listings at (h shell))
    c.in_err-outcomes.ensures.failed

pub returns-clause-described : goal.returns-clause-described
returns-clause-described g c =
    let names : List Text = map (λ (s : String Global). string_bytes s) c.args.names.now in
    let asked = ap (map request_view) c.as_slice.ensures.value ∙ c.in_ok-requests.ensures in
    λ files listings a.
    described_of c.reports.ensures.unchanged c.args.limits c.args.shell c.args.env.now _ names _ c.in_ok-copy.ensures.ok asked files listings c.in_ok-outcomes.outcomes.items
    (c.in_ok-outcomes.ensures.ran files listings a c.args.shell)

pub returns-clause-failed : goal.returns-clause-failed
returns-clause-failed g c =
    let e = c.args.env.now in
    let limits = c.args.limits in
    let shell = c.args.shell in
    let names : List Text = map (λ (s : String Global). string_bytes s) c.args.names.now in
    let asked = ap (map request_view) c.as_slice.ensures.value ∙ c.in_ok-requests.ensures in
    only_wider_in_each (g.T.Tree.agrees c.session.new.tree) _ _
    (λ files listings at. (other : Shell) → SessionLooksAt (request_context_in limits other files listings) c.in_ok-copy.field-0 (map request_view c.as_slice.result.now) at)
    (λ files listings at. OneLooksAt (request_context_in limits shell files listings) e names at)
    (λ files listings agreed at h. looks_of c.reports.ensures.unchanged limits shell e _ names _ c.in_ok-copy.ensures.ok asked files listings at (h shell))
    c.in_ok-outcomes.ensures.failed
