use Rattle.std.proofs.Common.{ap, ◌∙◌, map, not, string_bytes, rules}
use Rattle.std.specs.Option.{option_map}
use Rattle.std.proofs.lemmas.Fn.{filter_same}
use Rattle.envstate.specs.stacks.Stacks.{is_owner}
use Rattle.envstate.specs.stacks.StackItems.{item_in}
use Rattle.envstate.proofs.stacks.StackEdits.{out_is}
use Rattle.envstate.proofs.stacks.edits.take_out.Goals as goal

pub returns : goal.returns
returns c =
    ap (map item_in) (filter_same _ (λ item. not (is_owner c.args.owner.now (option_map string_bytes item.owner))) _ (λ x b g k. search rules) _ _ c.retain.ensures.filtered)
    ∙ out_is c.args.owner.now c.args.items.now.items
