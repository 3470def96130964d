use Rattle.std.proofs.Common.{sym, subst}
use Rattle.message.specs.Answers.{Gives}
use Rattle.tcltext.specs.chars.Reading.{stopped_by}
use Rattle.tcltext.proofs.script.Ends.{end_through, end_mark}
use Rattle.tcltext.specs.expr.View.{operand_view}
use Rattle.tcltext.proofs.expr.OperandSteps.{at_variable, at_script, at_quote, at_brace, at_numeric}
use Rattle.tcltext.proofs.expr.operand.read_operand.Goals as goal

pub returns-in-Some : goal.returns-in-Some
returns-in-Some g c =
    subst (λ r. Gives stopped_by (λ x. ((operand_view (g.S.Source.shown c.args.source.now) x.0, x.1), x.2.now)) c.read_variable.result r)
    (sym (at_variable c.args.depth c.args.text.now c.in-Some.following.now c.in-Some.ensures)) c.read_variable.ensures

pub returns-in-Some-after_mark : goal.returns-in-Some-after_mark
returns-in-Some-after_mark g c =
    subst (λ r. Gives stopped_by (λ x. ((operand_view (g.S.Source.shown c.args.source.now) x.0, x.1), x.2.now)) c.read_script.result r)
    (sym (at_script c.args.depth c.args.text.now c.in-Some-after_mark.following.now c.in-Some-after_mark.ensures)) c.read_script.ensures

pub returns-in-Some-after_mark-2 : goal.returns-in-Some-after_mark-2
returns-in-Some-after_mark-2 g c =
    subst (λ r. Gives stopped_by (λ x. ((operand_view (g.S.Source.shown c.args.source.now) x.0, x.1), x.2.now)) c.read_quoted.result r)
    (sym (at_quote c.args.depth c.args.text.now c.in-Some-after_mark-2.following.now c.in-Some-after_mark-2.ensures)) c.read_quoted.ensures

pub returns-in-Some-after_mark-3 : goal.returns-in-Some-after_mark-3
returns-in-Some-after_mark-3 g c =
    subst (λ r. Gives stopped_by (λ x. ((operand_view (g.S.Source.shown c.args.source.now) x.0, x.1), x.2.now)) c.read_braced.result r)
    (sym (at_brace c.args.depth c.args.text.now c.in-Some-after_mark-3.following.now c.in-Some-after_mark-3.ensures)) c.read_braced.ensures

pub read_quoted-requires : goal.read_quoted-requires
read_quoted-requires g c = end_through (g.S.Source.text c.args.source.now) c.args.text.now
    c.in-Some-after_mark-2.following.now c.requires (end_mark c.args.text.now 34 c.in-Some-after_mark-2.following.now
    c.in-Some-after_mark-2.ensures)

pub read_braced-requires : goal.read_braced-requires
read_braced-requires g c = end_through (g.S.Source.text c.args.source.now) c.args.text.now
    c.in-Some-after_mark-3.following.now c.requires (end_mark c.args.text.now 123 c.in-Some-after_mark-3.following.now
    c.in-Some-after_mark-3.ensures)

pub returns-in-None : goal.returns-in-None
returns-in-None g c =
    subst (λ r. Gives stopped_by (λ x. ((operand_view (g.S.Source.shown c.args.source.now) x.0, x.1), x.2.now)) c.read_numeric.result r)
    (sym (at_numeric c.args.depth c.args.text.now c.in_default.ensures c.in_default-after_mark.ensures c.in_default-after_mark-2.ensures c.in-None.ensures)) c.read_numeric.ensures
