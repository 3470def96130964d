use Rattle.std.proofs.Common.{Some, None, ap, refl}
use Rattle.std.specs.Option.{option_map}
use Rattle.envstate.proofs.paths.OneElement.{alone, one_more_written}
use Rattle.envstate.proofs.paths.one_element.with_one_more.Goals as goal

pub returns : goal.returns
returns c =
    let given = c.in-Some-None-len1 in
    one_more_written (record { elements = Some c.in_ok-elements.elements; counters = None }) c.args.delim _ _ _
    given.text.now _ c.args.end c.is_empty.result c.in_ok-has_element.field-0
    (ap (option_map (λ t. t.now)) given.is-0) (ap (option_map (λ t. t.now)) given.is-1)
    (alone c.args.more.now _ given.len_at_least given.len_below) c.is_empty.ensures c.if-is_empty.false c.in_ok-has_element.ensures c.if-branch.false (ap Some c.in_ok-elements.ensures) refl
