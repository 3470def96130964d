use Rattle.std.proofs.Common.{string_bytes, map}
use Rattle.envvars.proofs.EscapeLemmas.{on_ok, plain_after}
use Rattle.envvars.proofs.escapes.FieldReader.read.Goals as goal

pub returns : goal.returns
returns c =
    on_ok c.push.result (string_bytes c.push.new.self) (string_bytes c.args.self.now.field) _ _ c.push.ensures.bytes
    (λ e rest. plain_after (map string_bytes c.args.self.now.fields.items) (string_bytes c.args.self.now.field)
    (string_bytes c.push.new.self) rest c.args.self.now.escapes c.args.c c.if-self.false c.if-c-eq92.false
    c.if-c-eq58.false e)
