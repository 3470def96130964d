use Rattle.std.specs.Str.{chars}
use Rattle.tcltext.proofs.pattern.TakeLemmas.{then_iff}
use Rattle.tcltext.proofs.pattern.RunLemmas.{one-steps}
use Rattle.tcltext.proofs.pattern.halves.steps_to.Goals as goal

pub returns-in-Some : goal.returns-in-Some
returns-in-Some c = then_iff c.runs_none.ensures (one-steps c.args.first c.args.c (chars c.args.rest.now) (chars c.in-Some.more.now) (chars c.args.to.now) c.requires c.in-Some.ensures.steps)
