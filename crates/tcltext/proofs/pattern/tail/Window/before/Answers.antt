use Rattle.std.proofs.Common.{refl}
use Rattle.tcltext.proofs.pattern.tail.Window.before.Goals as goal

pub returns : goal.returns
returns c xs cs k e = record {
  here = record { first = refl; matches = e; matches_after_close = c.closes.ensures c.args.c xs cs k.here; holds = c.holds.ensures xs cs k };
  next = k.here;
  after_next = k.next;
  takes = c.takes.ensures xs cs k e;
}
