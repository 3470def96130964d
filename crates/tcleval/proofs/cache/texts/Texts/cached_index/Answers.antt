use Rattle.std.proofs.Common.{sym}
use Rattle.tcleval.proofs.cache.Answering.{there_answers, full_answers, passed_answers, added_answers}
use Rattle.tcleval.proofs.cache.texts.Texts.cached_index.Goals as goal

pub returns-in-Some-clause-answers : goal.returns-in-Some-clause-answers
returns-in-Some-clause-answers g c = there_answers g.T.Parsed.view g.T.Parsed.read c.args.self.now c.args.text.now c.in-Some.entry_index (sym c.in-Some.ensures)

pub returns-then-is_full-clause-answers : goal.returns-then-is_full-clause-answers
returns-then-is_full-clause-answers g c = full_answers g.T.Parsed.view g.T.Parsed.read c.args.self.now c.args.text.now (sym c.in_default.ensures) (sym c.if-is_full.ensures)

pub returns-in_err-add_parsed-clause-answers : goal.returns-in_err-add_parsed-clause-answers
returns-in_err-add_parsed-clause-answers g c = rw c.in_err-add_parsed.ensures.err
    (passed_answers g.T.Parsed.view g.T.Parsed.read c.args.self.now c.args.text.now (sym c.in_default.ensures)
    (sym c.if-is_full.ensures) c.in_err-add_parsed.field-0.0 c.from_residual.result c.from_residual.ensures.1
    c.in_err-add_parsed.ensures.tree)

pub returns-clause-answers : goal.returns-clause-answers
returns-clause-answers g c = added_answers g.T.Parsed.view g.T.Parsed.read c.args.self.now c.args.text.now
    (sym c.in_default.ensures) (sym c.if-is_full.ensures) c.add_parsed.new.self c.in_ok-add_parsed.field-0.value
    c.len-entry_index.result c.in_ok-add_parsed.ensures.tree c.len-entry_index.ensures c.in_ok-add_parsed.ensures.added
