use Rattle.std.proofs.Common.{◌∙◌}
use Rattle.audit_site.proofs.NameLemmas.{any_named}
use Rattle.audit_site.proofs.names.is_meaning.Goals as goal

pub returns : goal.returns
returns c = c.contains.ensures ∙ any_named c.args.name.now c.args.meaning.now.keys
