use Rattle.std.proofs.Common.{append-nil}
use Rattle.audit_report.proofs.tried.write_found.Goals as goal

pub returns-in-Leaves : goal.returns-in-Leaves
returns-in-Leaves c = rw c.in-Leaves.is (rw append-nil (rw c.as_slice.ensures.value at c.write_text_array.ensures))
