use Rattle.std.proofs.Common.{◌∙◌}
use Rattle.std.specs.Option.{option_map}
use Rattle.envstate.proofs.paths.PathEditLemmas.{looked_up}
use Rattle.envstate.proofs.paths.PathOrderLemmas.{order_decided}
use Rattle.envstate.proofs.paths.order.is_path_in_order.Goals as goal

pub returns : goal.returns
returns c =
    order_decided c.args.env.now c.args.variable.now c.as_str-2.result.now c.args.delim _ c.in_ok-written.written c.are_held.result (c.as_str-2.ensures.value ∙ c.in_ok-share.ensures)
    (c.in_ok-path.ensures.state ∙ looked_up c.args.env.now c.args.variable.now c.as_str.result.now c.args.delim
    (option_map (λ t. t.now) c.get.result) (option_map (λ t. t.now) c.get-2.result) c.get.ensures c.get-2.ensures
    (c.as_str.ensures.value ∙ c.in_ok-share.ensures))
    c.in_ok-written.ensures c.are_held.ensures
