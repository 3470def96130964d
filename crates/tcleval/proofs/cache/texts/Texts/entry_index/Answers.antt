use Rattle.std.proofs.Common.{◌∙◌}
use Rattle.tcleval.proofs.cache.Entries.{place_entries}
use Rattle.tcleval.proofs.cache.texts.Texts.entry_index.Goals as goal

pub returns : goal.returns
returns g c = rw (← c.self.view_is) (c.get_index_of.ensures.index ∙ place_entries c.self.inside.made.entries c.args.text.now)
