use Rattle.std.proofs.Common.{refl}
use Rattle.tcleval.proofs.file.with_line.Goals as goal

pub returns-in-TclError : goal.returns-in-TclError
returns-in-TclError c = rw c.in-TclError.is (λ scripts e s. (s, refl, rw e c.line_at.ensures))
