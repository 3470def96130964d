use Rattle.std.proofs.Common.{List, map, string_bytes, String, sym, subst}
use Rattle.std.specs.declared.alloc.Global.{Global}
use Rattle.std.specs.Option.{option_map}
use Rattle.envvars.specs.Texts.{Text, texts_in}
use Rattle.requests.specs.Steps.{request_context_in}
use Rattle.module_reports.specs.descriptions.Descriptions.{AreAllNames, AreDescribed}
use Rattle.module_reports.proofs.descriptions.DescriptionLemmas.{described_by, looks_both}
use Rattle.module_reports.proofs.descriptions.describing.describe.Goals as goal

pub returns-in_err-outcomes-clause-failed : goal.returns-in_err-outcomes-clause-failed
returns-in_err-outcomes-clause-failed g c =
    let e = c.args.env.now in
    let limits = c.args.limits in
    let shell = c.args.shell in
    let names : List Text = map (λ (s : String Global). string_bytes s) c.as_slice.result.now in
    looks_both (g.T.Tree.agrees c.all_names.new.tree) (g.T.Tree.agrees c.outcomes_of.new.tree) limits shell e names c.in_err-outcomes.ensures.narrows
    (λ files listings a. subst (λ (l : List (String Global)). AreAllNames (request_context_in limits shell files listings) e (map (λ (s : String Global). string_bytes s) l))
    (sym c.as_slice.ensures.value) (c.in_ok-names.ensures.listed files listings a shell))
    _ _ _ c.in_ok-names.ensures.failed c.in_err-outcomes.ensures.failed

pub returns-clause-described : goal.returns-clause-described
returns-clause-described g c =
    let e = c.args.env.now in
    let limits = c.args.limits in
    let shell = c.args.shell in
    described_by (g.T.Tree.agrees c.all_names.new.tree) (g.T.Tree.agrees c.outcomes_of.new.tree) limits shell e (texts_in c.in_ok-names.names) c.in_ok-outcomes.ensures.narrows
    (λ files listings a. c.in_ok-names.ensures.listed files listings a shell)
    (option_map (λ t. t.now) c.args.sought) c.in_ok-outcomes.outcomes.items c.description_of.result
    (λ files listings a. subst (λ (l : List (String Global)). AreDescribed (request_context_in limits shell files listings) e (map (λ (s : String Global). string_bytes s) l)
    c.in_ok-outcomes.outcomes.items) c.as_slice.ensures.value (c.in_ok-outcomes.ensures.described files listings a))
    (rw c.as_slice-3.ensures.value at c.description_of.ensures.remembered)
    (rw c.as_slice-3.ensures.value at c.description_of.ensures.shows)
    (rw (c.as_slice-2.ensures.value, c.as_slice-3.ensures.value) at c.description_of.ensures.leaves_out)

pub returns-clause-failed : goal.returns-clause-failed
returns-clause-failed g c =
    let e = c.args.env.now in
    let limits = c.args.limits in
    let shell = c.args.shell in
    let names : List Text = map (λ (s : String Global). string_bytes s) c.as_slice.result.now in
    looks_both (g.T.Tree.agrees c.all_names.new.tree) (g.T.Tree.agrees c.outcomes_of.new.tree) limits shell e names c.in_ok-outcomes.ensures.narrows
    (λ files listings a. subst (λ (l : List (String Global)). AreAllNames (request_context_in limits shell files listings) e (map (λ (s : String Global). string_bytes s) l))
    (sym c.as_slice.ensures.value) (c.in_ok-names.ensures.listed files listings a shell))
    _ _ _ c.in_ok-names.ensures.failed c.in_ok-outcomes.ensures.failed
