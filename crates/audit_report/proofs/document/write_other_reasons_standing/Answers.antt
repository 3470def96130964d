use Rattle.std.proofs.Common.{◌∷◌, [], codes, Ok, Result}
use Rattle.std.specs.declared.alloc.AllocError.{AllocError}
use Rattle.json.specs.Json.{string}
use Rattle.audit_report.specs.Documents.{standing_fields}
use Rattle.audit_report.specs.Words.{standing_word}
use Rattle.audit_report.proofs.TokenLemmas.{adds_one, adds_more, adds_object}
use Rattle.audit_report.proofs.document.write_other_reasons_standing.Goals as goal

pub returns : goal.returns
returns c =
    let done : Result (Unit {0}) AllocError = Ok tt in
    let other_reasons = c.args.other_reasons.now in
    let end = c.write_standing.new.writer in
    adds_object c.end_object.result c.args.writer.now c.begin_object.new.self end
    c.end_object.new.self ((codes "standing", string (standing_word other_reasons)) ∷ standing_fields [] other_reasons)
    (adds_one done c.args.writer.now c.begin_object.new.self _ c.in_ok-begin_object.ensures)
    (adds_more done c.begin_object.new.self c.write_text.new.writer end _ _ (rw c.standing_word.ensures at c.in_ok-write_text.ensures)
    c.in_ok-write_standing.ensures)
    (adds_one c.end_object.result end c.end_object.new.self _ c.end_object.ensures)
