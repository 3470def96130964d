use Rattle.std.proofs.Common.{◌≡◌, ◌<◌, ◌≤◌, ◌-◌, Some, None, Ok, true, false, sym, ap, subst, ◌∙◌, arith, rules}
use Rattle.std.proofs.lemmas.Result.{err_from_is_err_and}
use Rattle.message.specs.Answers.{Gives}
use Rattle.tcltext.specs.chars.Reading.{stopped_by}
use Rattle.tcltext.specs.script.Pieces.{IsSuffixOf}
use Rattle.tcltext.proofs.script.Ends.{end_through}
use Rattle.tcltext.specs.declared.expr.operators.Mark.TheVariants as marks
use Rattle.tcltext.specs.expr.Grammar.{level}
use Rattle.tcltext.specs.expr.Marks.{mark_at}
use Rattle.tcltext.specs.expr.Reading.{is_colon, is_open, is_question_mark, chain_at, below_at}
use Rattle.tcltext.specs.expr.Operands.{operand_at}
use Rattle.tcltext.specs.expr.View.{with_height_view}
use Rattle.tcltext.proofs.expr.Results.{found_once, found_none}
use Rattle.tcltext.proofs.expr.Sound.{open_is, question_is, true_false}
use Rattle.tcltext.proofs.expr.Turns.{white_end, mark_end, expect_end, whole_leaves, chain_leaves, right_leaves, chain-first}
use Rattle.tcltext.proofs.expr.Turns.{chain-end, chain-starts, chain-fails, chain-shorter, chain-more}
use Rattle.tcltext.proofs.expr.Steps.{enclosed-deep, enclosed-fails, enclosed-open, enclosed-read, signed-deep, signed-fails}
use Rattle.tcltext.proofs.expr.Steps.{signed-read, right-chain, prefix-leaf, prefix-open, prefix-signed, prefix-other}
use Rattle.tcltext.proofs.expr.Steps.{whole-fails, whole-asks, whole-ends, branches-yes, branches-colon, branches-no}
use Rattle.tcltext.proofs.expr.Steps.{branches-read}
use Rattle.tcltext.proofs.expr.reading.+read.Goals as goal

pub read_branches-returns-in_err-yes : goal.read_branches-returns-in_err-yes
read_branches-returns-in_err-yes g t c =
    let p = err_from_is_err_and c.from_residual.result c.from_residual.ensures.1 in
    rw (p.1, p.2) (branches-yes c.args.depth (with_height_view (g.S.Source.shown c.args.source.now) c.args.condition) c.args.text.now c.in_err-yes.field-0.0 (omega arith) c.in_err-yes.ensures)

pub read_branches-returns-in_err-following : goal.read_branches-returns-in_err-following
read_branches-returns-in_err-following g t c =
    let p = err_from_is_err_and c.from_residual-in_err-following.result c.from_residual-in_err-following.ensures.1 in
    rw (p.1, p.2) (branches-colon c.args.depth (with_height_view (g.S.Source.shown c.args.source.now) c.args.condition)
    (with_height_view (g.S.Source.shown c.args.source.now) c.in_ok-yes.yes) c.args.text.now c.in_ok-yes.rest.now
    c.in_err-following.field-0.0
    (omega arith) c.in_ok-yes.ensures c.in_err-following.ensures)

pub read_branches-read_whole-requires-2 : goal.read_branches-read_whole-requires-2
read_branches-read_whole-requires-2 g t c =
    let shown = g.S.Source.shown c.args.source.now in
    let r : IsSuffixOf (g.S.Source.text c.args.source.now) c.args.text.now = search rules in
    let yes : IsSuffixOf c.args.text.now c.in_ok-yes.rest.now = (whole_leaves (c.args.depth - 1) c.args.text.now (with_height_view shown c.in_ok-yes.yes) c.in_ok-yes.rest.now c.in_ok-yes.ensures).0 in
    let e : IsSuffixOf (g.S.Source.text c.args.source.now) c.in_ok-following.following.now =
    end_through (g.S.Source.text c.args.source.now) c.args.text.now c.in_ok-following.following.now r
    (end_through c.args.text.now c.in_ok-yes.rest.now c.in_ok-following.following.now yes (expect_end is_colon c.in_ok-yes.rest.now c.in_ok-following.following.now c.in_ok-following.ensures))
    in
    search rules

pub read_branches-returns-in_err-no : goal.read_branches-returns-in_err-no
read_branches-returns-in_err-no g t c =
    let p = err_from_is_err_and c.from_residual-in_err-no.result c.from_residual-in_err-no.ensures.1 in
    rw (p.1, p.2) (branches-no c.args.depth (with_height_view (g.S.Source.shown c.args.source.now) c.args.condition)
    (with_height_view (g.S.Source.shown c.args.source.now) c.in_ok-yes.yes) c.args.text.now c.in_ok-yes.rest.now
    c.in_ok-following.following.now c.in_err-no.field-0.0
    (omega arith) c.in_ok-yes.ensures c.in_ok-following.ensures c.in_err-no.ensures)

pub read_branches-choice-requires-clause-positive : goal.read_branches-choice-requires-clause-positive
read_branches-choice-requires-clause-positive g t c =
    let l = whole_leaves (c.args.depth - 1) c.args.text.now (with_height_view (g.S.Source.shown c.args.source.now) c.in_ok-yes.yes) c.in_ok-yes.rest.now c.in_ok-yes.ensures in
    let deep : c.in_ok-yes.yes.height ≤ c.args.depth - 1 = l.1 in
    omega arith

pub read_branches-choice-requires-clause-negative : goal.read_branches-choice-requires-clause-negative
read_branches-choice-requires-clause-negative g t c =
    let l = whole_leaves (c.args.depth - 1) c.in_ok-following.following.now (with_height_view (g.S.Source.shown c.args.source.now) c.in_ok-no.no) c.in_ok-no.end.now c.in_ok-no.ensures in
    let deep : c.in_ok-no.no.height ≤ c.args.depth - 1 = l.1 in
    omega arith

pub read_branches-returns : goal.read_branches-returns
read_branches-returns g t c =
    let shown = g.S.Source.shown c.args.source.now in
    branches-read c.args.depth (with_height_view shown c.args.condition) (with_height_view shown c.in_ok-yes.yes)
    (with_height_view shown c.in_ok-no.no) c.args.text.now c.in_ok-yes.rest.now c.in_ok-following.following.now
    c.in_ok-no.end.now
    (omega arith) c.in_ok-yes.ensures c.in_ok-following.ensures c.in_ok-no.ensures
    ∙ ap (λ x. Ok (x, c.in_ok-no.end.now)) (sym (c.in_ok-choice.ensures shown))

pub read_chain-returns-in_err-left : goal.read_chain-returns-in_err-left
read_chain-returns-in_err-left g t c =
    let p = err_from_is_err_and c.from_residual.result c.from_residual.ensures.1 in
    rw (p.1, p.2) (chain-starts c.args.depth c.args.limit c.args.text.now c.in_err-left.field-0.0 c.in_err-left.ensures)

pub read_chain-loop-between-init : goal.read_chain-loop-between-init
read_chain-loop-between-init g t c = (
  search rules,
  chain-first c.args.depth c.args.limit c.args.text.now (with_height_view (g.S.Source.shown c.args.source.now) c.in_ok-left.left) c.in_ok-left.rest.now c.in_ok-left.ensures,
)

pub read_chain-returns-in_default : goal.read_chain-returns-in_default
read_chain-returns-in_default g t c =
    chain-end c.args.depth c.args.limit c.args.text.now
    (with_height_view (g.S.Source.shown c.args.source.now) c.loop-between.left) c.loop-between.rest.now
    c.loop-between.invariant.1 c.in_default.ensures

pub read_chain-read_right-requires : goal.read_chain-read_right-requires
read_chain-read_right-requires g t c =
    let r : IsSuffixOf (g.S.Source.text c.args.source.now) c.args.text.now = search rules in
    let e : IsSuffixOf (g.S.Source.text c.args.source.now) c.in-Some.following.now =
    end_through (g.S.Source.text c.args.source.now) c.args.text.now c.in-Some.following.now r
    (end_through c.args.text.now c.loop-between.rest.now c.in-Some.following.now c.loop-between.invariant.1.end
    (mark_end c.loop-between.rest.now (marks.Infix c.in-Some.between) c.in-Some.following.now c.in-Some.ensures.0))
    in
    search rules

pub read_chain-returns-in_err-right : goal.read_chain-returns-in_err-right
read_chain-returns-in_err-right g t c =
    let p = err_from_is_err_and c.from_residual-in_err-right.result c.from_residual-in_err-right.ensures.1 in
    rw (p.1, p.2) (chain-fails c.args.depth c.args.limit c.args.text.now
    (with_height_view (g.S.Source.shown c.args.source.now) c.loop-between.left) c.loop-between.rest.now
    c.loop-between.invariant.1 c.in-Some.between c.in-Some.following.now
    c.in-Some.ensures.0 c.in-Some.ensures.1 c.in_err-right.field-0.0 c.in_err-right.ensures)

pub read_chain-join-requires-clause-right : goal.read_chain-join-requires-clause-right
read_chain-join-requires-clause-right g t c =
    let l = right_leaves c.args.depth c.loop-between.left.height (level c.in-Some.between - 1) c.in-Some.following.now
    (with_height_view (g.S.Source.shown c.args.source.now) c.in_ok-right.right) c.in_ok-right.end.now
    c.in_ok-right.ensures in
    let deep : c.in_ok-right.right.height < c.args.depth = l.2 in
    omega arith

pub read_chain-loop-between-smaller : goal.read_chain-loop-between-smaller
read_chain-loop-between-smaller g t c =
    chain-shorter c.args.depth (with_height_view (g.S.Source.shown c.args.source.now) c.loop-between.left) c.loop-between.rest.now c.in-Some.between c.in-Some.following.now c.in-Some.ensures.0
    (with_height_view (g.S.Source.shown c.args.source.now) c.in_ok-right.right) c.in_ok-right.end.now c.in_ok-right.ensures

pub read_chain-loop-between-preserved : goal.read_chain-loop-between-preserved
read_chain-loop-between-preserved g t c = (
  search rules,
  chain-more c.args.depth c.args.limit c.args.text.now
      (with_height_view (g.S.Source.shown c.args.source.now) c.loop-between.left) c.loop-between.rest.now
      c.loop-between.invariant.1 c.in-Some.between c.in-Some.following.now c.in-Some.ensures.0 c.in-Some.ensures.1
      (with_height_view (g.S.Source.shown c.args.source.now) c.in_ok-right.right) c.in_ok-right.end.now
      c.in_ok-right.ensures (with_height_view (g.S.Source.shown c.args.source.now) c.in_ok-left-2.left)
      (c.in_ok-left-2.ensures (g.S.Source.shown c.args.source.now)),
)

pub read_enclosed-returns-then-depth-eq0 : goal.read_enclosed-returns-then-depth-eq0
read_enclosed-returns-then-depth-eq0 g t c = enclosed-deep c.args.depth c.args.text.now (omega arith)

pub read_enclosed-returns-in_err-inner : goal.read_enclosed-returns-in_err-inner
read_enclosed-returns-in_err-inner g t c =
    let p = err_from_is_err_and c.from_residual.result c.from_residual.ensures.1 in
    rw (p.1, p.2) (enclosed-fails c.args.depth c.args.text.now c.in_err-inner.field-0.0 (omega arith) c.in_err-inner.ensures)

pub read_enclosed-returns-in_err-following : goal.read_enclosed-returns-in_err-following
read_enclosed-returns-in_err-following g t c =
    let p = err_from_is_err_and c.from_residual-in_err-following.result c.from_residual-in_err-following.ensures.1 in
    rw (p.1, p.2) (enclosed-open c.args.depth c.args.text.now
    (with_height_view (g.S.Source.shown c.args.source.now) c.in_ok-inner.inner) c.in_ok-inner.rest.now
    c.in_err-following.field-0.0 (omega arith) c.in_ok-inner.ensures c.in_err-following.ensures)

pub read_enclosed-enclosed-requires : goal.read_enclosed-enclosed-requires
read_enclosed-enclosed-requires g t c =
    let l = whole_leaves (c.args.depth - 1) c.args.text.now (with_height_view (g.S.Source.shown c.args.source.now) c.in_ok-inner.inner) c.in_ok-inner.rest.now c.in_ok-inner.ensures in
    let deep : c.in_ok-inner.inner.height ≤ c.args.depth - 1 = l.1 in
    omega arith

pub read_enclosed-returns : goal.read_enclosed-returns
read_enclosed-returns g t c =
    let shown = g.S.Source.shown c.args.source.now in
    enclosed-read c.args.depth c.args.text.now (with_height_view shown c.in_ok-inner.inner) c.in_ok-inner.rest.now
    c.in_ok-following.following.now (omega arith) c.in_ok-inner.ensures c.in_ok-following.ensures
    ∙ ap (λ x. Ok (x, c.in_ok-following.following.now)) (sym (c.enclosed.ensures shown))

pub read_prefix-read_leaf-requires : goal.read_prefix-read_leaf-requires
read_prefix-read_leaf-requires g t c =
    let r : IsSuffixOf (g.S.Source.text c.args.source.now) c.args.text.now = search rules in
    end_through (g.S.Source.text c.args.source.now) c.args.text.now c.skip_white-start.result.now r (subst (IsSuffixOf c.args.text.now) (sym c.skip_white-start.ensures) (white_end c.args.text.now))

pub read_prefix-read_enclosed-requires : goal.read_prefix-read_enclosed-requires
read_prefix-read_enclosed-requires g t c =
    let r : IsSuffixOf (g.S.Source.text c.args.source.now) c.args.text.now = search rules in
    let found : mark_at c.skip_white-start.result.now ≡ Some (c.in-Some.mark, c.in-Some.following.now) = sym c.in-Some.ensures in
    let e : IsSuffixOf (g.S.Source.text c.args.source.now) c.in-Some.following.now =
    end_through (g.S.Source.text c.args.source.now) c.args.text.now c.in-Some.following.now r
    (mark_end c.args.text.now c.in-Some.mark c.in-Some.following.now (ap mark_at (sym c.skip_white-start.ensures) ∙ found))
    in
    search rules

pub read_prefix-read_signed-requires : goal.read_prefix-read_signed-requires
read_prefix-read_signed-requires g t c =
    let r : IsSuffixOf (g.S.Source.text c.args.source.now) c.args.text.now = search rules in
    let found : mark_at c.skip_white-start.result.now ≡ Some (c.in-Some.mark, c.in-Some.following.now) = sym c.in-Some.ensures in
    let e : IsSuffixOf (g.S.Source.text c.args.source.now) c.in-Some.following.now =
    end_through (g.S.Source.text c.args.source.now) c.args.text.now c.in-Some.following.now r
    (mark_end c.args.text.now c.in-Some.mark c.in-Some.following.now (ap mark_at (sym c.skip_white-start.ensures) ∙ found))
    in
    search rules

pub read_right-returns : goal.read_right-returns
read_right-returns g t c =
    let lower : c.args.height < c.args.depth = omega arith in
    subst (λ r. Gives stopped_by (λ x. (with_height_view (g.S.Source.shown c.args.source.now) x.0, x.1.now)) c.read_chain.result r)
    (sym (right-chain c.args.depth c.args.height (level c.args.between - 1) c.args.text.now lower
    ∙ ap (λ k. chain_at operand_at (c.args.depth - 1) (below_at operand_at (c.args.depth - 1)) k c.args.text.now)
    (sym c.right_level.ensures))) c.read_chain.ensures

pub read_signed-returns-then-depth-eq0 : goal.read_signed-returns-then-depth-eq0
read_signed-returns-then-depth-eq0 g t c = signed-deep c.args.depth c.args.operator c.args.text.now (omega arith)

pub read_signed-returns-in_err-operand : goal.read_signed-returns-in_err-operand
read_signed-returns-in_err-operand g t c =
    let p = err_from_is_err_and c.from_residual.result c.from_residual.ensures.1 in
    rw (p.1, p.2) (signed-fails c.args.depth c.args.operator c.args.text.now c.in_err-operand.field-0.0 (omega arith) c.in_err-operand.ensures)

pub read_signed-unary-requires : goal.read_signed-unary-requires
read_signed-unary-requires g t c =
    let l = chain_leaves (c.args.depth - 1) 1 c.args.text.now (with_height_view (g.S.Source.shown c.args.source.now) c.in_ok-operand.operand) c.in_ok-operand.rest.now c.in_ok-operand.ensures in
    let deep : c.in_ok-operand.operand.height ≤ c.args.depth - 1 = l.1 in
    omega arith

pub read_signed-returns : goal.read_signed-returns
read_signed-returns g t c =
    let shown = g.S.Source.shown c.args.source.now in
    signed-read c.args.depth c.args.operator c.args.text.now (with_height_view shown c.in_ok-operand.operand) c.in_ok-operand.rest.now (omega arith) c.in_ok-operand.ensures
    ∙ ap (λ x. Ok (x, c.in_ok-operand.rest.now)) (sym (c.in_ok-unary.ensures shown))

pub read_whole-returns-in_err-condition : goal.read_whole-returns-in_err-condition
read_whole-returns-in_err-condition g t c =
    let p = err_from_is_err_and c.from_residual.result c.from_residual.ensures.1 in
    rw (p.1, p.2) (whole-fails c.args.depth c.args.text.now c.in_err-condition.field-0.0 c.in_err-condition.ensures)

pub read_prefix-returns-in_default : goal.read_prefix-returns-in_default
read_prefix-returns-in_default g t c =
    let none : mark_at c.skip_white-start.result.now ≡ None = sym c.in_default.ensures in
    subst (λ r. Gives stopped_by (λ x. (with_height_view (g.S.Source.shown c.args.source.now) x.0, x.1.now)) c.read_leaf.result r)
    (sym (prefix-leaf c.args.depth c.args.text.now c.skip_white-start.result.now c.skip_white-start.ensures none)) c.read_leaf.ensures

pub read_prefix-returns-then-is_open : goal.read_prefix-returns-then-is_open
read_prefix-returns-then-is_open g t c =
    let found : mark_at c.skip_white-start.result.now ≡ Some (c.in-Some.mark, c.in-Some.following.now) = sym c.in-Some.ensures in
    let opens : is_open c.in-Some.mark ≡ true = sym c.is_open.ensures ∙ c.if-is_open.true in
    subst (λ r. Gives stopped_by (λ x. (with_height_view (g.S.Source.shown c.args.source.now) x.0, x.1.now)) c.read_enclosed.result r)
    (sym (prefix-open c.args.depth c.args.text.now c.skip_white-start.result.now c.in-Some.following.now
    c.skip_white-start.ensures (found ∙ ap (λ m. Some (m, c.in-Some.following.now))
    (open_is c.in-Some.mark opens)))) c.read_enclosed.ensures

pub read_prefix-returns-in-Some-sign_of : goal.read_prefix-returns-in-Some-sign_of
read_prefix-returns-in-Some-sign_of g t c =
    let found : mark_at c.skip_white-start.result.now ≡ Some (c.in-Some.mark, c.in-Some.following.now) = sym c.in-Some.ensures in
    subst (λ r. Gives stopped_by (λ x. (with_height_view (g.S.Source.shown c.args.source.now) x.0, x.1.now)) c.read_signed.result r)
    (sym (prefix-signed c.args.depth c.args.text.now c.skip_white-start.result.now c.in-Some.mark
    c.in-Some-sign_of.operator c.in-Some.following.now c.skip_white-start.ensures found
    (sym c.sign_of.ensures ∙ c.in-Some-sign_of.is))) c.read_signed.ensures

pub read_prefix-returns-in-None : goal.read_prefix-returns-in-None
read_prefix-returns-in-None g t c =
    let found : mark_at c.skip_white-start.result.now ≡ Some (c.in-Some.mark, c.in-Some.following.now) = sym c.in-Some.ensures in
    prefix-other c.args.depth c.args.text.now c.skip_white-start.result.now c.in-Some.mark c.in-Some.following.now
    c.skip_white-start.ensures found (sym c.is_open.ensures ∙ c.if-is_open.false)
    (sym c.sign_of.ensures ∙ c.in-None.is)

pub read_whole-returns-in_default : goal.read_whole-returns-in_default
read_whole-returns-in_default g t c =
    let none : mark_at c.skip_white.result.now ≡ None = sym c.in_default.ensures in
    whole-ends c.args.depth c.args.text.now (with_height_view (g.S.Source.shown c.args.source.now)
    c.in_ok-condition.condition) c.in_ok-condition.rest.now c.skip_white.result.now c.in_ok-condition.ensures
    c.skip_white.ensures
    (λ after is. found_none (mark_at c.skip_white.result.now) marks.QuestionMark after none is)

pub read_whole-read_branches-requires : goal.read_whole-read_branches-requires
read_whole-read_branches-requires g t c =
    let r : IsSuffixOf (g.S.Source.text c.args.source.now) c.args.text.now = search rules in
    let found : mark_at c.skip_white.result.now ≡ Some (c.in-Some.mark, c.in-Some.following.now) = sym c.in-Some.ensures in
    let first : IsSuffixOf c.args.text.now c.in_ok-condition.rest.now =
    (chain_leaves c.args.depth 13 c.args.text.now (with_height_view (g.S.Source.shown c.args.source.now)
    c.in_ok-condition.condition) c.in_ok-condition.rest.now c.in_ok-condition.ensures).0 in
    let e : IsSuffixOf (g.S.Source.text c.args.source.now) c.in-Some.following.now =
    end_through (g.S.Source.text c.args.source.now) c.args.text.now c.in-Some.following.now r
    (end_through c.args.text.now c.in_ok-condition.rest.now c.in-Some.following.now first
    (mark_end c.in_ok-condition.rest.now c.in-Some.mark c.in-Some.following.now (ap mark_at (sym c.skip_white.ensures) ∙ found)))
    in
    search rules

pub read_whole-returns-then-is_question_mark : goal.read_whole-returns-then-is_question_mark
read_whole-returns-then-is_question_mark g t c =
    let found : mark_at c.skip_white.result.now ≡ Some (c.in-Some.mark, c.in-Some.following.now) = sym c.in-Some.ensures in
    let asks : is_question_mark c.in-Some.mark ≡ true = sym c.is_question_mark.ensures ∙ c.if-is_question_mark.true in
    subst (λ r. Gives stopped_by (λ x. (with_height_view (g.S.Source.shown c.args.source.now) x.0, x.1.now)) c.read_branches.result r)
    (sym (whole-asks c.args.depth c.args.text.now (with_height_view (g.S.Source.shown c.args.source.now)
    c.in_ok-condition.condition) c.in_ok-condition.rest.now c.skip_white.result.now c.in-Some.following.now
    c.in_ok-condition.ensures c.skip_white.ensures (found ∙ ap (λ m. Some (m, c.in-Some.following.now)) (question_is c.in-Some.mark asks)))) c.read_branches.ensures

pub read_whole-returns-else-is_question_mark : goal.read_whole-returns-else-is_question_mark
read_whole-returns-else-is_question_mark g t c =
    let found : mark_at c.skip_white.result.now ≡ Some (c.in-Some.mark, c.in-Some.following.now) = sym c.in-Some.ensures in
    let other : is_question_mark c.in-Some.mark ≡ false = sym c.is_question_mark.ensures ∙ c.if-is_question_mark.false in
    whole-ends c.args.depth c.args.text.now (with_height_view (g.S.Source.shown c.args.source.now)
    c.in_ok-condition.condition) c.in_ok-condition.rest.now c.skip_white.result.now c.in_ok-condition.ensures
    c.skip_white.ensures
    (λ after is. true_false (sym (ap is_question_mark (found_once (mark_at c.skip_white.result.now) c.in-Some.mark marks.QuestionMark c.in-Some.following.now after found is).0) ∙ other))
