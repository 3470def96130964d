use Rattle.tclforms.proofs.variables.Places.{lookup_absent, lookup_at_place}
use Rattle.tclforms.proofs.variables.table.content_in.Goals as goal

pub returns-in-None : goal.returns-in-None
returns-in-None c = lookup_absent (λ t. t) c.args.table.now.entries c.args.name.now c.in-None.ensures.place

pub returns-in-Some : goal.returns-in-Some
returns-in-Some c = lookup_at_place (λ t. t) c.args.table.now.entries c.args.name.now c.in-Some.index c.in-Some.ensures.place _ c.index.ensures
