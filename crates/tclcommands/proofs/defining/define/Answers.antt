use Rattle.std.specs.Prelude.{◌≡◌, List, Ok, Err}
use Rattle.std.specs.Option.{IfSome}
use Rattle.std.proofs.Common.{subst}
use Rattle.std.proofs.lemmas.Result.{err_from_is_err_and}
use Rattle.tcltext.specs.chars.Runs.{Text}
use Rattle.tclvalue.specs.operators.Faults.{reason_of}
use Rattle.tclvalue.specs.declared.operators.fault.ValueFault.{ValueFault}
use Rattle.tclrules.specs.Variables.{Parameter}
use Rattle.tclrules.proofs.Leading.{starve}
use Rattle.tclforms.specs.Lists.{defined}
use Rattle.tclforms.proofs.substitution.Leading.{given_stops, given_on}
use Rattle.tclcommands.proofs.defining.define.Goals as goal

-- the parameters are judged by equal lists of reserved names
fails_alike : (e : ValueFault) (names others : List Text) (name list : Text) → names ≡ others
    → IfSome (reason_of e) (λ f. defined names name list ≡ Err f)
    → IfSome (reason_of e) (λ f. defined others name list ≡ Err f)
fails_alike e names others name list same h = subst (λ ns. IfSome (reason_of e) (λ f. defined ns name list ≡ Err f)) same h

gives_alike : {ps : List Parameter} (names others : List Text) (name list : Text) → names ≡ others → defined names name list ≡ Ok ps → defined others name list ≡ Ok ps
gives_alike {ps = ps} names others name list same h = subst (λ ns. defined ns name list ≡ Ok ps) same h

pub returns-in_err-parameters : goal.returns-in_err-parameters
returns-in_err-parameters c =
    let p = err_from_is_err_and c.from_residual.result c.from_residual.ensures.1 in
    rw (p.1, p.2) (λ most b r k x. given_stops _ (defined c.args.variables.now.reserved c.args.name.now c.args.list.now)
    _ _ (fails_alike _ _ c.args.variables.now.reserved c.args.name.now c.args.list.now c.reserved.ensures
    c.in_err-parameters.ensures))

pub returns-in_err-body : goal.returns-in_err-body
returns-in_err-body c =
    let p = err_from_is_err_and c.from_residual-in_err-body.result c.from_residual-in_err-body.ensures.1 in
    rw (p.1, p.2) (λ most b r k x. starve)

pub returns-in_err-define : goal.returns-in_err-define
returns-in_err-define c =
    let p = err_from_is_err_and c.from_residual-in_err-define.result c.from_residual-in_err-define.ensures.1 in
    rw (p.1, p.2) (λ most b r k x. starve)

pub returns : goal.returns
returns c = λ most b r k x. rw (c.in_ok-define.ensures.ok, c.in_ok-body.ensures.ok)
    (given_on (defined c.args.variables.now.reserved c.args.name.now c.args.list.now) _ _ _
    (gives_alike _ c.args.variables.now.reserved c.args.name.now c.args.list.now c.reserved.ensures
    c.in_ok-parameters.ensures))
