use Rattle.audit_report.proofs.TokenLemmas.{adds_one, adds_more}
use Rattle.std.proofs.Common.{Ok, Result}
use Rattle.std.specs.declared.alloc.AllocError.{AllocError}
use Rattle.audit_report.proofs.document.write_counts.Goals as goal

pub returns : goal.returns
returns c =
    let done : Result (Unit {0}) AllocError = Ok tt in
    let last = c.u64-2.result in
    adds_more last c.args.writer.now c.key.new.self c.u64-2.new.self _ _ (adds_one done c.args.writer.now c.key.new.self _ c.in_ok-key.ensures)
    (adds_more last c.key.new.self c.u64.new.self c.u64-2.new.self _ _ (rw c.certified_count-certified.ensures.value at (adds_one done c.key.new.self c.u64.new.self _ c.in_ok-u64.ensures))
    (adds_more last c.u64.new.self c.key-2.new.self c.u64-2.new.self _ _
    (adds_one done c.u64.new.self c.key-2.new.self _ c.in_ok-key-2.ensures)
    (adds_one last c.key-2.new.self c.u64-2.new.self _ c.u64-2.ensures)))
