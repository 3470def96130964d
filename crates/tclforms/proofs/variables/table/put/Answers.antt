use Rattle.std.proofs.Common.{ap, ◌∙◌}
use Rattle.tclforms.specs.variables.Views.{texts_of}
use Rattle.tclforms.proofs.variables.Frames.{store_named}
use Rattle.tclforms.proofs.variables.Places.{set_at_place}
use Rattle.tclforms.proofs.variables.table.put.Goals as goal

pub returns-in-Some-clause-ok : goal.returns-in-Some-clause-ok
returns-in-Some-clause-ok c = set_at_place (λ t. t) c.args.table.now.entries c.args.name.now c.in-Some.index c.in-Some.ensures.place c.args.content

pub returns-in_ok-insert-in-None-clause-ok : goal.returns-in_ok-insert-in-None-clause-ok
returns-in_ok-insert-in-None-clause-ok c = rw (← c.in_ok-from_str-in-None.ensures.ok)
    (ap texts_of c.in_ok-insert-in-None.ensures.entries
    ∙ store_named (λ t. t) c.args.table.now.entries c.in_ok-from_str-in-None.field-0 c.args.content)
