use Rattle.std.proofs.Common.{sym}
use Rattle.shelltext.proofs.laws.difference_makes.Goals as goal

pub returns : goal.returns
returns c shell text old new difference = record {
  changes = difference.changes;
  says = difference.says;
  made = sym (c.changes.ensures old new difference.changes difference.exact);
}
