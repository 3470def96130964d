use Rattle.std.proofs.Common.{sym, ◌∙◌}
use Rattle.tcleval.proofs.cache.Entries.{place_entries, made_there}
use Rattle.tcleval.proofs.cache.texts.Texts.tree_of.Goals as goal

pub returns-in-None-clause-none : goal.returns-in-None-clause-none
returns-in-None-clause-none g c = λ _. rw (← c.self.view_is) (sym (place_entries c.self.inside.made.entries c.args.text.now) ∙ sym c.in-None.ensures.index)

pub returns-in-Some-clause-found : goal.returns-in-Some-clause-found
returns-in-Some-clause-found g c = rw (← c.self.view_is)
    (made_there c.self.inside.made.entries c.args.text.now c.in-Some.field-0-0 c.in-Some.field-0-1.now
    c.in-Some.made.now (sym c.in-Some.ensures.index) c.in-Some.ensures.entry)

pub returns-in-Some-clause-there : goal.returns-in-Some-clause-there
returns-in-Some-clause-there g c = rw (← c.self.view_is) (c.in-Some.field-0-0, sym (place_entries c.self.inside.made.entries c.args.text.now) ∙ sym c.in-Some.ensures.index)
