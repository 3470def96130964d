use Rattle.tclforms.proofs.TurnLemmas.{shortened_more}
use Rattle.tclforms.proofs.loops.Loops.shorten.Goals as goal

pub returns : goal.returns
returns c = rw (← c.self.view_is) (shortened_more c.self.inside.lists.items c.self.inside.turns c.saturating_add-self-inside.result c.saturating_add-self-inside.ensures)
