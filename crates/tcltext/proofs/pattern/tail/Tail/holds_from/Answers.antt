use Rattle.std.proofs.Common.{◌∙◌, sym}
use Rattle.tcltext.proofs.pattern.SetLemmas.{item, set_here, set_past}
use Rattle.tcltext.proofs.pattern.TakeLemmas.{then_iff}
use Rattle.tcltext.proofs.pattern.tail.Tail.holds_from.Goals as goal

pub returns-then-is_between : goal.returns-then-is_between
returns-then-is_between c set rest cs e k = then_iff k.matches_after_close (set_here c.args.c set cs (item c.args.low c.args.high rest) e (sym c.is_between.ensures ∙ c.if-is_between.true))

pub returns-else-is_between : goal.returns-else-is_between
returns-else-is_between c set rest cs e k = then_iff k.holds (set_past c.args.c set cs (item c.args.low c.args.high rest) e (sym c.is_between.ensures ∙ c.if-is_between.false))
