use Rattle.std.proofs.Common.{ap, ◌∙◌, arith, rules}
use Rattle.std.proofs.lemmas.Result.{err_from_is_err_and}
use Rattle.tcltext.specs.script.View.{part_view}
use Rattle.tclrules.proofs.Leading.{stay, continue_with, starve}
use Rattle.tclforms.specs.substitution.Machine.{range_text}
use Rattle.tclforms.proofs.substitution.Trees.{view-Literal, view-Backslash, view-Variable, view-Indexed, view-Bracket}
use Rattle.tclforms.proofs.substitution.Trees.{on_top, less_more}
use Rattle.tclforms.proofs.substitution.substitution.part.Goals as goal

pub source_text-requires-text-source : goal.source_text-requires-text-source
source_text-requires-text-source g c = search rules

pub source_text-requires-in-Variable-text-source : goal.source_text-requires-in-Variable-text-source
source_text-requires-in-Variable-text-source g c = search rules

pub source_text-requires-in-Indexed-text-source : goal.source_text-requires-in-Indexed-text-source
source_text-requires-in-Indexed-text-source g c = search rules

pub returns-in-Literal : goal.returns-in-Literal
returns-in-Literal g c =
    let v = ap (part_view (range_text c.args.context.source.now)) c.in-Literal.is ∙ view-Literal (range_text c.args.context.source.now) c.in-Literal.range in
    let h = rw c.source_text.ensures at c.append_piece.ensures in
    rw v (h.0, less_more _ _ _ _ _ h.1 (omega arith))

pub returns-in_err-value-in-Backslash : goal.returns-in_err-value-in-Backslash
returns-in_err-value-in-Backslash g c =
    let p = err_from_is_err_and c.from_residual.result c.from_residual.ensures.1 in
    rw (p.1, p.2, c.in_err-value-in-Backslash.ensures.err) (λ most used remaining scripts r k. starve, tt)

pub returns-in_ok-value-in-Backslash : goal.returns-in_ok-value-in-Backslash
returns-in_ok-value-in-Backslash g c =
    let v = ap (part_view (range_text c.args.context.source.now)) c.in-Backslash.is ∙ view-Backslash (range_text c.args.context.source.now) c.in-Backslash.escaped in
    let h = rw (c.as_str.ensures.value, c.in_ok-value-in-Backslash.ensures.ok) at c.append_piece-in-Backslash.ensures in
    rw v (h.0, less_more _ _ _ _ _ h.1 (omega arith))

pub returns-in_err-value-in-Variable : goal.returns-in_err-value-in-Variable
returns-in_err-value-in-Variable g c =
    let v = ap (part_view (range_text c.args.context.source.now)) c.in-Variable.is ∙ view-Variable (range_text c.args.context.source.now) c.in-Variable.name in
    let p = err_from_is_err_and c.from_residual-in_err-value-in-Variable.result c.from_residual-in_err-value-in-Variable.ensures.1 in
    let h = rw c.source_text-in-Variable.ensures at c.in_err-value-in-Variable.ensures in
    rw (p.1, p.2, v) (λ most used remaining scripts r k. h most used scripts r _, tt)

pub returns-in_ok-value-in-Variable : goal.returns-in_ok-value-in-Variable
returns-in_ok-value-in-Variable g c =
    let v = ap (part_view (range_text c.args.context.source.now)) c.in-Variable.is ∙ view-Variable (range_text c.args.context.source.now) c.in-Variable.name in
    let f = rw c.source_text-in-Variable.ensures at c.in_ok-value-in-Variable.ensures in
    let h = rw c.as_str-in-Variable.ensures.value at c.append_piece-in-Variable.ensures in
    rw v (λ most used remaining scripts r k. continue_with (f most used scripts r _) (h.0 most used remaining scripts r k), less_more _ _ _ _ _ h.1 (omega arith))

pub returns-in_err-push_frame-in-Indexed : goal.returns-in_err-push_frame-in-Indexed
returns-in_err-push_frame-in-Indexed g c =
    let p = err_from_is_err_and c.from_residual-in_err-push_frame-in-Indexed.result c.from_residual-in_err-push_frame-in-Indexed.ensures.1 in
    rw (p.1, p.2, c.in_err-push_frame-in-Indexed.ensures.err) (λ most used remaining scripts r k. starve, tt)

pub returns-in_err-push_frame-in-Indexed-2 : goal.returns-in_err-push_frame-in-Indexed-2
returns-in_err-push_frame-in-Indexed-2 g c =
    let p = err_from_is_err_and c.from_residual-in_err-push_frame-in-Indexed-2.result c.from_residual-in_err-push_frame-in-Indexed-2.ensures.1 in
    rw (p.1, p.2, c.in_err-push_frame-in-Indexed-2.ensures.err) (λ most used remaining scripts r k. starve, tt)

pub returns-in_ok-push_frame-in-Indexed-2 : goal.returns-in_ok-push_frame-in-Indexed-2
returns-in_ok-push_frame-in-Indexed-2 g c =
    let v = ap (part_view (range_text c.args.context.source.now)) c.in-Indexed.is ∙ view-Indexed (range_text c.args.context.source.now) c.in-Indexed.name c.in-Indexed.index in
    let t = on_top _ _ _ c.in_ok-push_frame-in-Indexed-2.ensures.ok in
    let u = on_top _ _ _ c.in_ok-push_frame-in-Indexed.ensures.ok in
    rw (v, t, u, c.new.ensures.bytes, c.source_text-in-Indexed.ensures, c.deref.ensures.value) (λ most used remaining scripts r k. stay, omega arith)

pub returns-in_err-push_frame-in-Bracket : goal.returns-in_err-push_frame-in-Bracket
returns-in_err-push_frame-in-Bracket g c =
    let p = err_from_is_err_and c.from_residual-in_err-push_frame-in-Bracket.result c.from_residual-in_err-push_frame-in-Bracket.ensures.1 in
    rw (p.1, p.2, c.in_err-push_frame-in-Bracket.ensures.err) (λ most used remaining scripts r k. starve, tt)

pub returns-in_ok-push_frame-in-Bracket : goal.returns-in_ok-push_frame-in-Bracket
returns-in_ok-push_frame-in-Bracket g c =
    let v = ap (part_view (range_text c.args.context.source.now)) c.in-Bracket.is ∙ view-Bracket (range_text c.args.context.source.now) c.in-Bracket.script in
    let u = on_top _ _ _ c.in_ok-push_frame-in-Bracket.ensures.ok in
    rw (v, u) (λ most used remaining scripts r k. stay, omega arith)
