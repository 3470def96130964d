use Rattle.std.proofs.Common.{◌+◌, drop, map, string_bytes, rules}
use Rattle.std.proofs.lemmas.Result.{err_from_is_err_and}
use Rattle.std.proofs.Math.ListN.{drop_of_length-le}
use Rattle.tclrules.proofs.Leading.{stay, continue_with}
use Rattle.tclcommands.proofs.Insides.{names_from}
use Rattle.tclrules.specs.Rules.{unset}
use Rattle.tclforms.specs.Views.{is_ignored}
use Rattle.tclcommands.proofs.unsetting.unset_each.Goals as goal

pub offset_bounds-names-name-index : goal.offset_bounds-names-name-index
offset_bounds-names-name-index c = search rules

pub loop-name-init : goal.loop-name-init
loop-name-init c = λ most r k x. stay

pub returns-in_err-unset_one : goal.returns-in_err-unset_one
returns-in_err-unset_one c =
    let p = err_from_is_err_and c.from_residual.result c.from_residual.ensures.1 in
    let n = names_from c.args.names.now c.loop-name.name-index c.name-item.result c.loop-name-test.true c.name-item.is in
    let i = rw n at c.loop-name.invariant in
    let h = rw c.deref.ensures at c.in_err-unset_one.ensures in
    let rest = map string_bytes (drop (c.loop-name.name-index + 1) c.args.names.now) in
    rw (p.1, p.2) (λ most r k x. continue_with (i most r k x) (h most r (λ s. unset (is_ignored c.args.missing) rest s k) x))

pub loop-name-preserved : goal.loop-name-preserved
loop-name-preserved c =
    let n = names_from c.args.names.now c.loop-name.name-index c.name-item.result c.loop-name-test.true c.name-item.is in
    let i = rw n at c.loop-name.invariant in
    let h = rw c.deref.ensures at c.in_ok-unset_one.ensures in
    let rest = map string_bytes (drop (c.loop-name.name-index + 1) c.args.names.now) in
    λ most r k x. continue_with (i most r k x) (h most r (λ s. unset (is_ignored c.args.missing) rest s k) x)

pub returns : goal.returns
returns c = rw (drop_of_length-le c.args.names.now c.loop-name-test.false) at c.loop-name.invariant
