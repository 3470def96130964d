use Rattle.std.proofs.Common.{string_bytes}
use Rattle.std.specs.Str.Iter.{chars_rest}
use Rattle.envvars.proofs.EscapeLemmas.{part_turn, pushed}
use Rattle.envvars.proofs.escapes.push_escaped.Goals as goal

pub loop-c-preserved : goal.loop-c-preserved
loop-c-preserved c =
    part_turn (string_bytes c.loop-c.text) (string_bytes c.push_char.new.text) (chars_rest c.loop-c.c-iterator)
    (chars_rest c.next.new.self) _ c.in-Some.c c.in-Some.ensures.steps.0 c.in_ok-push_char.ensures
    c.loop-c.invariant

pub returns-then-not-has_special : goal.returns-then-not-has_special
returns-then-not-has_special c =
    pushed c.push_str.result (string_bytes c.push_str.new.self) (string_bytes c.args.text.now) c.args.part.now
    c.has_special.result c.has_special.ensures c.if-not-has_special.true c.push_str.ensures.bytes
