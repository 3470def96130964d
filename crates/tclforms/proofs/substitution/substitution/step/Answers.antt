use Rattle.std.proofs.Common.{◌≡◌, [], arith}
use Rattle.tclrules.proofs.Leading.{stay}
use Rattle.tclforms.proofs.substitution.Trees.{on_top, less_more, empty_of}
use Rattle.tclforms.proofs.substitution.substitution.step.Goals as goal

pub returns-in-None : goal.returns-in-None
returns-in-None g c =
    let e : c.in-Parts.parts.now ≡ [] = empty_of _ (omega (arith, c.in-None.ensures.cases)) in
    rw (c.in-Parts.is, e) (λ most used remaining scripts r k. stay, omega arith)

pub returns-in-Some : goal.returns-in-Some
returns-in-Some g c =
    rw (c.in-Parts.is, c.in-Some.ensures.cases.0) (c.part.ensures.0, less_more _ _ _ _ _ c.part.ensures.1 (omega arith))

pub returns-in-Expression : goal.returns-in-Expression
returns-in-Expression g c = rw c.in-Expression.is c.expression.ensures

pub returns-in-None-pop : goal.returns-in-None-pop
returns-in-None-pop g c =
    let e : c.args.stack.now.items ≡ [] = empty_of _ (omega (arith, c.in-None-pop.ensures.cases.0, c.args.stack.now.ok.0)) in
    rw (c.in-Value.is, e) (λ most used remaining scripts r k. stay, tt)

pub returns-in-Some-pop : goal.returns-in-Some-pop
returns-in-Some-pop g c =
    let t = on_top _ _ _ c.in-Some-pop.ensures.items in
    rw (c.in-Value.is, t) (c.resume.ensures.0, less_more _ _ _ _ _ c.resume.ensures.1 (omega arith))
