use Rattle.std.proofs.Common.{◌++◌, ap, sym, ◌∙◌}
use Rattle.tcltext.specs.chars.Runs.{drop_while}
use Rattle.tcltext.specs.chars.Classes.{is_name}
use Rattle.tcltext.specs.expr.Operands.{is_truth}
use Rattle.tcltext.proofs.expr.Runs.{front_back}
use Rattle.tcltext.proofs.expr.OperandSteps.{word-read, word-false, word-called}
use Rattle.tcltext.proofs.expr.operand.read_word.Goals as goal

pub cut-requires-clause-prefix : goal.cut-requires-clause-prefix
cut-requires-clause-prefix g c = (drop_while is_name c.args.text.now, front_back is_name c.args.text.now ∙ ap (λ w. w ++ drop_while is_name c.args.text.now) (sym c.split_run.ensures.run))

pub returns-then-not-is_truth : goal.returns-then-not-is_truth
returns-then-not-is_truth g c =
    word-false c.args.text.now c.split_run.result.0.now c.split_run.ensures.run (ap is_truth (sym c.as_bytes.ensures.value) ∙ sym c.if-not-is_truth.ensures)

pub returns-in-None : goal.returns-in-None
returns-in-None g c =
    word-read c.args.text.now c.split_run.result.0.now c.split_run.result.1.now (g.S.Source.shown c.args.source.now c.cut.result) c.split_run.ensures.run c.split_run.ensures.rest
    (ap is_truth (sym c.as_bytes.ensures.value) ∙ sym c.if-not-is_truth.ensures) c.in-None.ensures c.cut.ensures.text

pub returns-in-Some : goal.returns-in-Some
returns-in-Some g c =
    word-called c.args.text.now c.split_run.result.0.now c.split_run.result.1.now c.in-Some.field-0.now c.split_run.ensures.run c.split_run.ensures.rest
    (ap is_truth (sym c.as_bytes.ensures.value) ∙ sym c.if-not-is_truth.ensures) c.in-Some.ensures
