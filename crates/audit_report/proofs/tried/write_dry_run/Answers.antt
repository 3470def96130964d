use Rattle.std.proofs.Common.{Ok, Result}
use Rattle.std.specs.declared.alloc.AllocError.{AllocError}
use Rattle.audit_report.specs.Documents.{dry_run_fields}
use Rattle.audit_report.proofs.TokenLemmas.{adds_one, adds_more, adds_object}
use Rattle.audit_report.proofs.tried.write_dry_run.Goals as goal

pub returns : goal.returns
returns c =
    let done : Result (Unit {0}) AllocError = Ok tt in
    let end = c.write_found.new.writer in
    adds_object c.end_object.result c.args.writer.now c.begin_object.new.self end
    c.end_object.new.self (dry_run_fields c.args.dry_run.now)
    (adds_one done c.args.writer.now c.begin_object.new.self _ c.in_ok-begin_object.ensures)
    (adds_more done c.begin_object.new.self c.write_text.new.writer end _ _ (rw c.dry_run_word.ensures at c.in_ok-write_text.ensures) c.in_ok-write_found.ensures)
    (adds_one c.end_object.result end c.end_object.new.self _ c.end_object.ensures)
