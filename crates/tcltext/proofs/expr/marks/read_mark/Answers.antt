use Rattle.std.proofs.Common.{Some, ap, sym, ◌∙◌}
use Rattle.tcltext.specs.expr.Marks.{word_mark}
use Rattle.tcltext.proofs.expr.MarkLemmas.{mark_word, mark_symbol}
use Rattle.tcltext.proofs.expr.marks.read_mark.Goals as goal

pub returns-in-Some : goal.returns-in-Some
returns-in-Some c =
    ap (λ r. Some (c.in-Some.mark, r)) c.split_run.ensures.rest
    ∙ sym (mark_word c.args.text.now c.in-Some.mark (ap word_mark (sym c.split_run.ensures.run) ∙ sym c.word_mark.ensures ∙ c.in-Some.is))

pub returns-in-None : goal.returns-in-None
returns-in-None c = c.read_symbol.ensures ∙ sym (mark_symbol c.args.text.now (ap word_mark (sym c.split_run.ensures.run) ∙ sym c.word_mark.ensures ∙ c.in-None.is))
