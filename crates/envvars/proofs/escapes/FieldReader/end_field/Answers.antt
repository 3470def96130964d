use Rattle.std.proofs.Common.{ap, ◌∙◌, string_bytes}
use Rattle.envvars.proofs.EscapeLemmas.{ended_after}
use Rattle.envvars.proofs.escapes.FieldReader.end_field.Goals as goal

pub returns : goal.returns
returns c = λ rest.
    ended_after c.args.self.now.fields.items c.push.new.self.items c.args.self.now.field c.replace-field.result c.replace-field.new.dest c.args.self.now.escapes rest
    c.in_ok-push.ensures.items c.replace-field.ensures.value (ap string_bytes c.replace-field.ensures.after ∙ c.new.ensures.bytes) c.requires
