use Rattle.std.proofs.Common.{sym, ◌∙◌, string_bytes, map}
use Rattle.envvars.proofs.EscapeLemmas.{on_ok, special_after, other_after}
use Rattle.envvars.proofs.escapes.FieldReader.read_escaped.Goals as goal

pub returns-then-is_special : goal.returns-then-is_special
returns-then-is_special c =
    on_ok c.push.result (string_bytes c.push.new.self) (string_bytes c.args.self.now.field) _ _ c.push.ensures.bytes
    (λ e rest. special_after (map string_bytes c.args.self.now.fields.items) (string_bytes c.args.self.now.field)
    (string_bytes c.push.new.self) rest c.args.self.now.escapes c.args.c c.requires
    (sym c.is_special.ensures ∙ c.if-is_special.true) e)

pub returns : goal.returns
returns c =
    on_ok c.push-3.result (string_bytes c.push-3.new.self) (string_bytes c.push-2.new.self) _ _ c.push-3.ensures.bytes
    (λ e rest. other_after (map string_bytes c.args.self.now.fields.items) (string_bytes c.args.self.now.field)
    (string_bytes c.push-2.new.self) (string_bytes c.push-3.new.self) rest c.args.self.now.escapes c.args.c
    c.requires (sym c.is_special.ensures ∙ c.if-is_special.false) c.in_ok-push.ensures.bytes e)
