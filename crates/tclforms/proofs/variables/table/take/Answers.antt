use Rattle.tclforms.proofs.variables.Places.{set_at_place, lookup_absent, lookup_at_place}
use Rattle.tclforms.proofs.variables.Stores.{store_again}
use Rattle.tclforms.proofs.variables.table.take.Goals as goal

pub returns-in-None-clause-value : goal.returns-in-None-clause-value
returns-in-None-clause-value c = lookup_absent (λ t. t) c.args.table.now.entries c.args.name.now c.in-None.ensures.place

pub returns-in-Some-clause-value : goal.returns-in-Some-clause-value
returns-in-Some-clause-value c =
    let e = lookup_at_place (λ t. t) c.args.table.now.entries c.args.name.now c.in-Some.index c.in-Some.ensures.place _ c.index_mut.ensures.value in
    rw (c.into_text.ensures, c.replace-content.ensures.value) e

pub returns-in-Some-clause-given_back : goal.returns-in-Some-clause-given_back
returns-in-Some-clause-given_back c t =
    rw (set_at_place (λ t. t) c.args.table.now.entries c.args.name.now c.in-Some.index c.in-Some.ensures.place c.replace-content.new.dest) (store_again _ c.args.name.now c.replace-content.new.dest t)
