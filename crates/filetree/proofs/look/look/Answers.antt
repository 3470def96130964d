use Rattle.std.proofs.Common.{inr, rules}
use Rattle.filetree.proofs.look.look.Goals as goal

pub returns : goal.returns
returns g c = inr (search rules, (c.find.result, c.find.ensures, c.found.ensures))
