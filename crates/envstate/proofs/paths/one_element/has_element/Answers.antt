use Rattle.std.proofs.Common.{◌∙◌}
use Rattle.envstate.proofs.paths.PathOrderLemmas.{element_unparted}
use Rattle.envstate.proofs.paths.ElementSearch.{has-by_search}
use Rattle.envstate.proofs.paths.one_element.has_element.Goals as goal

pub returns : goal.returns
returns c =
    has-by_search c.args.delim c.args.element.now c.args.text.now c.as_str-2.result.now c.as_str.result.now c.contains.result (element_unparted c.args.delim c.args.element.now c.requires.element)
    (c.as_str-2.ensures.value ∙ c.in_ok-element.ensures) (c.as_str.ensures.value ∙ c.in_ok-text.ensures) c.contains.ensures.cases
