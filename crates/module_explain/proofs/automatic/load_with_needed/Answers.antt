use Rattle.std.proofs.Common.{map, String, string_bytes, List, subst}
use Rattle.std.specs.Option.{option_map}
use Rattle.std.specs.declared.alloc.Global.{Global}
use Rattle.envvars.specs.Texts.{Text, texts_in}
use Rattle.requests.specs.declared.action.Action.TheVariants as actions
use Rattle.requests.specs.Steps.{request_context_in}
use Rattle.module_auto.specs.Loads.{FoundAmong}
use Rattle.module_explain.specs.Advised.{LoadComes}
use Rattle.module_explain.proofs.AutomaticLemmas.{accepted_load, completed_load, done_of, fits_known, fits_need, none_among, one_among, sound_automated, undone, undone_of}
use Rattle.module_explain.proofs.automatic.load_with_needed.Goals as goal

pub returns-in-Some-clause-advised : goal.returns-in-Some-clause-advised
returns-in-Some-clause-advised g c =
    let agrees = g.T.Tree.agrees c.load_automatically-answer.new.tree in
    sound_automated agrees c.args.refused.limits c.args.refused.request.now.shell c.args.refused.env.now _ (actions.Load c.in-Some.names) c.in_ok-automated.field-0
    c.in_ok-automated.ensures
    (accepted_load agrees c.args.refused.limits c.args.refused.request.now.shell c.args.refused.env.now c.load_automatically-answer.result c.in-Some.names
    (done_of c.load_automatically-answer.result c.in_ok-names.field-0 c.in-Some.names c.in_ok-names.ensures.done c.in-Some.is) c.load_automatically-answer.ensures.loaded)

pub returns-in-Some-clause-fits : goal.returns-in-Some-clause-fits
returns-in-Some-clause-fits g c =
    let agrees = g.T.Tree.agrees c.load_automatically-answer.new.tree in
    fits_need agrees c.args.refused.limits c.args.refused.request.now.shell c.args.refused.env.now (texts_in c.args.missing.now.names) _ (actions.Load c.in-Some.names) c.in_ok-automated.field-0
    c.in_ok-automated.ensures
    (completed_load agrees c.args.refused.limits c.args.refused.request.now.shell c.args.refused.env.now _ c.load_automatically-answer.result c.in-Some.names
    (done_of c.load_automatically-answer.result c.in_ok-names.field-0 c.in-Some.names c.in_ok-names.ensures.done c.in-Some.is) c.load_automatically-answer.ensures.named)

pub returns-then-is_some-clause-fits : goal.returns-then-is_some-clause-fits
returns-then-is_some-clause-fits g c =
    let before = g.T.Tree.agrees c.load_automatically-answer.new.tree in
    let now = g.T.Tree.agrees c.first_found.new.tree in
    let limits = c.args.refused.limits in
    let shell = c.args.refused.request.now.shell in
    let e = c.args.refused.env.now in
    let asked : List Text = map (λ (s : String Global). string_bytes s) c.args.asked.now in
    let found = one_among now limits shell e (texts_in c.args.missing.now.names) c.in_ok-found.found c.is_some.result c.is_some.ensures c.if-is_some.true
    (λ files listings a. subst (λ (l : List (String Global)). FoundAmong (request_context_in limits shell files listings) e (map (λ (s : String Global). string_bytes s) l) (option_map string_bytes c.in_ok-found.found))
    c.as_slice-alternatives.ensures.value (c.in_ok-found.ensures.found files listings a shell)) in (
      undone before now _ shell e (LoadComes now limits shell e asked) c.load_automatically-answer.result c.first_found.ensures.reads.narrows
          (undone_of c.load_automatically-answer.result c.in_ok-names.field-0 c.in_ok-names.ensures.undone c.in_default.not-Some) c.load_automatically-answer.ensures.refused,
      found.0,
      found.1,
    )

pub returns-clause-fits : goal.returns-clause-fits
returns-clause-fits g c =
    let before = g.T.Tree.agrees c.load_automatically-answer.new.tree in
    let now = g.T.Tree.agrees c.first_found.new.tree in
    let limits = c.args.refused.limits in
    let shell = c.args.refused.request.now.shell in
    let e = c.args.refused.env.now in
    let asked : List Text = map (λ (s : String Global). string_bytes s) c.args.asked.now in
    fits_known now limits shell e (texts_in c.args.missing.now.names) asked c.in_ok-not_found.field-0
    (undone before now _ shell e (LoadComes now limits shell e asked) c.load_automatically-answer.result c.first_found.ensures.reads.narrows
    (undone_of c.load_automatically-answer.result c.in_ok-names.field-0 c.in_ok-names.ensures.undone c.in_default.not-Some) c.load_automatically-answer.ensures.refused)
    (none_among now limits shell e (texts_in c.args.missing.now.names) c.in_ok-found.found c.is_some.result c.is_some.ensures c.if-is_some.false
    (λ files listings a. subst (λ (l : List (String Global)). FoundAmong (request_context_in limits shell files listings) e (map (λ (s : String Global). string_bytes s) l) (option_map string_bytes c.in_ok-found.found))
    c.as_slice-alternatives.ensures.value (c.in_ok-found.ensures.found files listings a shell)))
    c.in_ok-not_found.ensures
