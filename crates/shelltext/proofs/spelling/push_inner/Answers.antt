use Rattle.std.proofs.Common.{◌∙◌, sym, string_bytes}
use Rattle.shelltext.proofs.Values.{pushed}
use Rattle.shelltext.proofs.spelling.push_inner.Goals as goal

pub returns-then-not-has_special : goal.returns-then-not-has_special
returns-then-not-has_special c =
    pushed c.push_str.result c.args.family (string_bytes c.args.out.now) (string_bytes c.push_str.new.self)
    c.args.value.now (sym c.has_special.ensures ∙ c.if-not-has_special.true) c.push_str.ensures.bytes
