use Rattle.std.proofs.Common.{rules}
use Rattle.std.proofs.lemmas.Result.{err_from_is_err_and}
use Rattle.std.proofs.Math.ListN.{drop_of_length-le}
use Rattle.tclrules.proofs.Leading.{stay, continue_with, starve}
use Rattle.tclforms.proofs.substitution.Leading.{given_stops, given_on}
use Rattle.tclcommands.proofs.Insides.{names_from}
use Rattle.tclcommands.proofs.global_names.share.Goals as goal

pub offset_bounds-names-name-index : goal.offset_bounds-names-name-index
offset_bounds-names-name-index c = search rules

pub loop-name-init : goal.loop-name-init
loop-name-init c = λ most r k x. stay

pub returns-in_err-shared : goal.returns-in_err-shared
returns-in_err-shared c =
    let p = err_from_is_err_and c.from_residual.result c.from_residual.ensures.1 in
    let n = names_from c.args.names.now c.loop-name.name-index c.name-item.result c.loop-name-test.true c.name-item.is in
    let i = rw n at c.loop-name.invariant in
    let h = rw c.deref.ensures at c.in_err-shared.ensures in
    rw (p.1, p.2) (λ most r k x. continue_with (i most r k x) (given_stops _ _ _ _ h))

pub share-requires-text-name : goal.share-requires-text-name
share-requires-text-name c = search rules

pub returns-in_err-share : goal.returns-in_err-share
returns-in_err-share c =
    let p = err_from_is_err_and c.from_residual-in_err-share.result c.from_residual-in_err-share.ensures.1 in
    rw (p.1, p.2) (λ most r k x. starve)

pub loop-name-preserved : goal.loop-name-preserved
loop-name-preserved c =
    let n = names_from c.args.names.now c.loop-name.name-index c.name-item.result c.loop-name-test.true c.name-item.is in
    let i = rw n at c.loop-name.invariant in
    let h = rw c.deref.ensures at c.in_ok-shared.ensures in
    λ most r k x. rw c.in_ok-share.ensures.ok (continue_with (i most r k x) (given_on _ _ _ _ h))

pub returns : goal.returns
returns c = rw (drop_of_length-le c.args.names.now c.loop-name-test.false) at c.loop-name.invariant
