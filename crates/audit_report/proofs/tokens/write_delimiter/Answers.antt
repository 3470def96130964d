use Rattle.std.proofs.Common.{◌≡◌, ◌<◌, ◌∷◌, [], string_bytes, arith}
use Rattle.audit_report.proofs.tokens.write_delimiter.Goals as goal

pub returns : goal.returns
returns c =
    let ascii : c.args.delim.character < 128 = omega arith in
    let text : string_bytes c.push.new.self ≡ c.args.delim.character ∷ [] = grind (arith, c.in_ok-push.ensures.bytes, c.in_ok-push.ensures.ascii ascii, c.new-text.ensures.bytes) in
    rw (c.as_str.ensures.value, text) at c.write_text.ensures
