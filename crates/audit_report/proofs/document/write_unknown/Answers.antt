use Rattle.std.proofs.Common.{Ok, Result, append-nil}
use Rattle.std.specs.declared.alloc.AllocError.{AllocError}
use Rattle.audit_report.specs.Documents.{unknown_fields}
use Rattle.audit_report.proofs.TokenLemmas.{adds_one, adds_more, adds_object}
use Rattle.audit_report.proofs.document.write_unknown.Goals as goal

pub returns : goal.returns
returns c =
    let done : Result (Unit {0}) AllocError = Ok tt in
    adds_object c.end_object.result c.args.writer.now c.begin_object.new.self c.write_text_array.new.writer
    c.end_object.new.self (unknown_fields c.args.unknown.now)
    (adds_one done c.args.writer.now c.begin_object.new.self _ c.in_ok-begin_object.ensures)
    (adds_more done c.begin_object.new.self c.write_text.new.writer c.write_text_array.new.writer _ _ (rw c.as_str.ensures.value at c.in_ok-write_text.ensures)
    (adds_more done c.write_text.new.writer c.write_text-2.new.writer c.write_text_array.new.writer _ _ (rw c.as_str-2.ensures.value at c.in_ok-write_text-2.ensures)
    (adds_more done c.write_text-2.new.writer c.write_text-3.new.writer c.write_text_array.new.writer _ _ (rw c.command_of.ensures at c.in_ok-write_text-3.ensures)
    (rw append-nil (rw c.as_slice.ensures.value at c.in_ok-write_text_array.ensures)))))
    (adds_one c.end_object.result c.write_text_array.new.writer c.end_object.new.self _ c.end_object.ensures)
