use Rattle.audit_report.specs.Documents.{used_fields}
use Rattle.audit_report.proofs.TokenLemmas.{adds_one, adds_more, adds_object}
use Rattle.std.proofs.Common.{Ok, Result}
use Rattle.std.specs.declared.alloc.AllocError.{AllocError}
use Rattle.audit_report.proofs.tokens.write_used.Goals as goal

pub returns : goal.returns
returns c =
    let done : Result (Unit {0}) AllocError = Ok tt in
    adds_object c.end_object.result c.args.writer.now c.begin_object.new.self c.write_use_fields.new.writer
    c.end_object.new.self (used_fields c.args.used.now)
    (adds_one done c.args.writer.now c.begin_object.new.self _ c.in_ok-begin_object.ensures)
    (adds_more done c.begin_object.new.self c.write_text.new.writer c.write_use_fields.new.writer _ _ (rw c.as_str.ensures.value at c.in_ok-write_text.ensures) c.in_ok-write_use_fields.ensures)
    (adds_one c.end_object.result c.write_use_fields.new.writer c.end_object.new.self _ c.end_object.ensures)
