use Rattle.std.proofs.Common.{refl, ap, ◌∙◌}
use Rattle.tclvalue.proofs.IndexLemmas.{sliced}
use Rattle.tclvalue.proofs.index.between.Goals as goal

pub returns : goal.returns
returns g c = ap (λ r. r.now) c.unwrap_or.ensures ∙ sliced c.args.items.now _ _ c.items_before-start.result
    c.items_through-end.result c.get.result _ c.items_before-start.ensures c.items_through-end.ensures refl
    c.get.ensures.lookup.0
