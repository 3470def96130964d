use Rattle.std.proofs.Common.{◌≡◌, [], arith, rules}
use Rattle.std.proofs.lemmas.List.{nil_from_length}
use Rattle.std.proofs.lemmas.Result.{err_from_is_err_and}
use Rattle.std.specs.Vec.Iter.{into_iter_items}
use Rattle.tclrules.specs.Rules.{assign}
use Rattle.tclrules.proofs.Leading.{stay, continue_with}
use Rattle.tclforms.specs.substitution.Machine.{bounds}
use Rattle.tclcommands.specs.Continuations.{named_values}
use Rattle.tclcommands.proofs.writing.assign.Goals as goal

pub loop-name-init : goal.loop-name-init
loop-name-init c =
    let e : into_iter_items c.into_iter-name-iterator.result ≡ c.args.pairs.items = search rules in
    λ most remaining r k x. rw e stay

pub write-requires-text-name : goal.write-requires-text-name
write-requires-text-name c = search rules

pub loop-name-preserved : goal.loop-name-preserved
loop-name-preserved c =
    let i = rw c.in-Some.ensures.steps.0 at c.loop-name.invariant in
    λ most remaining r k x. continue_with (i most remaining r k x)
    (c.in_ok-write.ensures most remaining r (λ t s. assign (bounds c.args.limit remaining)
    (named_values (into_iter_items c.next.new.self)) s k) x)

pub returns-in_err-write : goal.returns-in_err-write
returns-in_err-write c =
    let p = err_from_is_err_and c.from_residual.result c.from_residual.ensures.1 in
    let i = rw c.in-Some.ensures.steps.0 at c.loop-name.invariant in
    rw (p.1, p.2) (λ most remaining r k x. continue_with (i most remaining r k x)
    (c.in_err-write.ensures most remaining r (λ t s. assign (bounds c.args.limit remaining)
    (named_values (into_iter_items c.next.new.self)) s k) x))

pub returns : goal.returns
returns c =
    let e : into_iter_items c.loop-name.name-iterator ≡ [] = nil_from_length _ (omega (arith, c.loop-name.name-iterator.rest.ok.0, c.in-None.ensures.steps.0)) in
    rw e at c.loop-name.invariant
