use Rattle.std.proofs.Common.{ap, arith, rules}
use Rattle.std.proofs.lemmas.Result.{err_from_is_err_and}
use Rattle.tcltext.specs.expr.View.{operand_view}
use Rattle.tclrules.proofs.Leading.{stay, starve}
use Rattle.tclforms.specs.substitution.Machine.{range_text}
use Rattle.tclforms.proofs.substitution.Trees.{on_top}
use Rattle.tclforms.proofs.substitution.substitution.operand.Goals as goal

pub source_text-requires-text-source : goal.source_text-requires-text-source
source_text-requires-text-source g c = search rules

pub source_text-requires-in-Indexed-text-source : goal.source_text-requires-in-Indexed-text-source
source_text-requires-in-Indexed-text-source g c = search rules

pub source_text-requires-in-Braced-text-source : goal.source_text-requires-in-Braced-text-source
source_text-requires-in-Braced-text-source g c = search rules

pub source_text-requires-in-Word-text-source : goal.source_text-requires-in-Word-text-source
source_text-requires-in-Word-text-source g c = search rules

pub returns-in_err-value-in-Variable : goal.returns-in_err-value-in-Variable
returns-in_err-value-in-Variable g c =
    let v = ap (operand_view (range_text c.args.context.source.now)) c.in-Variable.is in
    let p = err_from_is_err_and c.from_residual-in_err-value-in-Variable.result c.from_residual-in_err-value-in-Variable.ensures.1 in
    let h = rw c.source_text-in-Variable.ensures at c.in_err-value-in-Variable.ensures in
    rw (p.1, p.2, v) (λ most used remaining scripts r k. h most used scripts r _, tt)

pub returns-in_ok-value-in-Variable : goal.returns-in_ok-value-in-Variable
returns-in_ok-value-in-Variable g c =
    let v = ap (operand_view (range_text c.args.context.source.now)) c.in-Variable.is in
    let h = rw c.source_text-in-Variable.ensures at c.in_ok-value-in-Variable.ensures in
    rw v (λ most used remaining scripts r k. h most used scripts r _, omega arith)

pub returns-in_err-push_frame-in-Indexed : goal.returns-in_err-push_frame-in-Indexed
returns-in_err-push_frame-in-Indexed g c =
    let p = err_from_is_err_and c.from_residual-in_err-push_frame-in-Indexed.result c.from_residual-in_err-push_frame-in-Indexed.ensures.1 in
    rw (p.1, p.2, c.in_err-push_frame-in-Indexed.ensures.err) (λ most used remaining scripts r k. starve, tt)

pub returns-in_ok-push_frame-in-Indexed : goal.returns-in_ok-push_frame-in-Indexed
returns-in_ok-push_frame-in-Indexed g c =
    let v = ap (operand_view (range_text c.args.context.source.now)) c.in-Indexed.is in
    let t = on_top _ _ _ c.in_ok-push_frame-in-Indexed.ensures.ok in
    rw (v, t, c.new.ensures.bytes, c.source_text-in-Indexed.ensures, c.deref.ensures.value) (λ most used remaining scripts r k. stay, omega arith)

pub returns-in-Bracket : goal.returns-in-Bracket
returns-in-Bracket g c =
    let v = ap (operand_view (range_text c.args.context.source.now)) c.in-Bracket.is in
    rw v (λ most used remaining scripts r k. stay, omega arith)

pub returns-in-Quoted : goal.returns-in-Quoted
returns-in-Quoted g c =
    let v = ap (operand_view (range_text c.args.context.source.now)) c.in-Quoted.is in
    rw (v, c.new-in-Quoted.ensures.bytes, c.deref-in-Quoted.ensures.value) (λ most used remaining scripts r k. stay, omega arith)

pub returns-in_err-braced-in-Braced : goal.returns-in_err-braced-in-Braced
returns-in_err-braced-in-Braced g c =
    let p = err_from_is_err_and c.from_residual-in_err-braced-in-Braced.result c.from_residual-in_err-braced-in-Braced.ensures.1 in
    rw (p.1, p.2, c.in_err-braced-in-Braced.ensures.err) (λ most used remaining scripts r k. starve, tt)

pub returns-in_ok-braced-in-Braced : goal.returns-in_ok-braced-in-Braced
returns-in_ok-braced-in-Braced g c =
    let v = ap (operand_view (range_text c.args.context.source.now)) c.in-Braced.is in
    rw (v, c.in_ok-braced-in-Braced.ensures.ok, c.source_text-in-Braced.ensures) (λ most used remaining scripts r k. stay, omega arith)

pub source_text-requires-in-Variable-text-source : goal.source_text-requires-in-Variable-text-source
source_text-requires-in-Variable-text-source g c = search rules

pub returns-in_err-copy-in-Number : goal.returns-in_err-copy-in-Number
returns-in_err-copy-in-Number g c =
    let p = err_from_is_err_and c.from_residual.result c.from_residual.ensures.1 in
    rw (p.1, p.2, c.in_err-copy-in-Number.ensures.err) (λ most used remaining scripts r k. starve, tt)

pub returns-in_ok-copy-in-Number : goal.returns-in_ok-copy-in-Number
returns-in_ok-copy-in-Number g c =
    let v = ap (operand_view (range_text c.args.context.source.now)) c.in-Number.is in
    rw (v, c.in_ok-copy-in-Number.ensures.ok, c.source_text.ensures) (λ most used remaining scripts r k. stay, omega arith)

pub returns-in_err-copy-in-Word : goal.returns-in_err-copy-in-Word
returns-in_err-copy-in-Word g c =
    let p = err_from_is_err_and c.from_residual-in_err-copy-in-Word.result c.from_residual-in_err-copy-in-Word.ensures.1 in
    rw (p.1, p.2, c.in_err-copy-in-Word.ensures.err) (λ most used remaining scripts r k. starve, tt)

pub returns-in_ok-copy-in-Word : goal.returns-in_ok-copy-in-Word
returns-in_ok-copy-in-Word g c =
    let v = ap (operand_view (range_text c.args.context.source.now)) c.in-Word.is in
    rw (v, c.in_ok-copy-in-Word.ensures.ok, c.source_text-in-Word.ensures) (λ most used remaining scripts r k. stay, omega arith)
