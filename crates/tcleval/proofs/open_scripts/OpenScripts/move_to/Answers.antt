use Rattle.std.proofs.Common.{reverse}
use Rattle.tcleval.proofs.PlaceLemmas.{moved}
use Rattle.tcleval.proofs.open_scripts.OpenScripts.move_to.Goals as goal

pub returns : goal.returns
returns c = rw (← c.self.view_is) (moved c.args.offset c.self.inside.offset (reverse c.self.inside.entries.items))
