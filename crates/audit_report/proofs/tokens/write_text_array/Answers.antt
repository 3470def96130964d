use Rattle.std.proofs.Common.{Ok, Result}
use Rattle.std.specs.declared.alloc.AllocError.{AllocError}
use Rattle.audit_report.specs.Documents.{text_value}
use Rattle.audit_report.proofs.TokenLemmas.{items_tokens-map, adds_one, adds_array}
use Rattle.audit_report.proofs.tokens.write_text_array.Goals as goal

pub returns : goal.returns
returns c =
    let done : Result (Unit {0}) AllocError = Ok tt in
    adds_array c.end_array.result c.args.writer.now c.key.new.self c.begin_array.new.self c.write_texts.new.writer c.end_array.new.self _ _ _ (items_tokens-map text_value c.args.texts.now)
    (adds_one done c.args.writer.now c.key.new.self _ c.in_ok-key.ensures)
    (adds_one done c.key.new.self c.begin_array.new.self _ c.in_ok-begin_array.ensures) c.in_ok-write_texts.ensures
    (adds_one c.end_array.result c.write_texts.new.writer c.end_array.new.self _ c.end_array.ensures)
