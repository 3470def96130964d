use Rattle.std.proofs.Common.{rules, tests}
use Rattle.std.proofs.lemmas.Iterator.Search.{find_from_yields_List}
use Rattle.std.proofs.lemmas.Iterator.{YieldsList-from_slice}
use Rattle.tclvalue.specs.Searches.{fits}
use Rattle.tclvalue.specs.Views.{pair_view}
use Rattle.tclvalue.specs.declared.searches.Replacement.{Replacement}
use Rattle.tclvalue.proofs.SearchLemmas.{find_seen}
use Rattle.tclvalue.proofs.searches.first_fit.Goals as goal

pub returns : goal.returns
returns c =
    find_seen (fits c.args.text.now) pair_view c.args.replacements.now c.find.result
    (find_from_yields_List (λ (x : Replacement). fits c.args.text.now (pair_view x)) _ _ c.find.result
    c.find.ensures.ran (YieldsList-from_slice c.args.replacements.now cc) (λ x b q k. search (rules, tests)))
