use Rattle.audit_report.proofs.TokenLemmas.{items_tokens-map, adds_one, adds_more, adds_array}
use Rattle.std.proofs.Common.{Ok, Result, append-nil}
use Rattle.std.specs.declared.alloc.AllocError.{AllocError}
use Rattle.audit_report.specs.Documents.{unknown_value, disagreement_value}
use Rattle.audit_report.proofs.document.write_rest.Goals as goal

pub returns : goal.returns
returns c =
    let done : Result (Unit {0}) AllocError = Ok tt in
    let last = c.end_array-2.result in
    adds_more last c.args.writer.now c.end_array.new.self c.end_array-2.new.self _ _
    (adds_array done c.args.writer.now c.key.new.self c.begin_array.new.self c.write_unknowns.new.writer c.end_array.new.self _ _ _ (items_tokens-map unknown_value c.args.unknowns.now)
    (adds_one done c.args.writer.now c.key.new.self _ c.in_ok-key.ensures)
    (adds_one done c.key.new.self c.begin_array.new.self _ c.in_ok-begin_array.ensures)
    c.in_ok-write_unknowns.ensures (adds_one done c.write_unknowns.new.writer c.end_array.new.self _
    c.in_ok-end_array.ensures))
    (rw append-nil (adds_array last c.end_array.new.self c.key-2.new.self c.begin_array-2.new.self
    c.write_disagreements.new.writer c.end_array-2.new.self _ _ _
    (items_tokens-map disagreement_value c.args.reasons.now)
    (adds_one done c.end_array.new.self c.key-2.new.self _ c.in_ok-key-2.ensures)
    (adds_one done c.key-2.new.self c.begin_array-2.new.self _ c.in_ok-begin_array-2.ensures)
    c.in_ok-write_disagreements.ensures (adds_one last c.write_disagreements.new.writer c.end_array-2.new.self _
    c.end_array-2.ensures)))
