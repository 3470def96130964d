use Rattle.std.proofs.Common.{string_bytes}
use Rattle.std.specs.Option.{option_map}
use Rattle.envstate.proofs.stacks.StackReading.{element_made}
use Rattle.envstate.proofs.stacks.texts.element_text.Goals as goal

pub returns : goal.returns
returns c =
    element_made (option_map string_bytes c.args.item.now.owner) (string_bytes c.args.item.now.value)
    (string_bytes c.in_ok-text.text) (string_bytes c.push.new.self) (string_bytes c.push_escaped.new.text)
    c.as_str.result.now
    c.in_ok-text.ensures c.in_ok-push.ensures.bytes c.as_str.ensures.value c.in_ok-push_escaped.ensures
