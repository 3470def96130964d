use Rattle.std.proofs.Common.{sym, ◌∙◌, string_bytes}
use Rattle.envvars.proofs.EscapeLemmas.{on_ok, escaped_one, escaped_plain}
use Rattle.envvars.proofs.escapes.push_char.Goals as goal

pub returns-then-not-is_special : goal.returns-then-not-is_special
returns-then-not-is_special c =
    on_ok c.push.result (string_bytes c.push.new.self) (string_bytes c.args.text.now) _ _ c.push.ensures.bytes
    (λ e. escaped_plain (string_bytes c.args.text.now) (string_bytes c.push.new.self) c.args.c (sym c.is_special.ensures ∙ c.if-not-is_special.true) e)

pub returns : goal.returns
returns c =
    on_ok c.push-3.result (string_bytes c.push-3.new.self) (string_bytes c.push-2.new.self) _ _ c.push-3.ensures.bytes
    (λ e. escaped_one (string_bytes c.args.text.now) (string_bytes c.push-2.new.self) (string_bytes c.push-3.new.self)
    c.args.c (sym c.is_special.ensures ∙ c.if-not-is_special.false) c.in_ok-push.ensures.bytes e)
