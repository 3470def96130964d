use Rattle.std.proofs.Common.{◌∙◌}
use Rattle.audit_site.proofs.NameLemmas.{any_named}
use Rattle.audit_site.proofs.unreachable.has_directory.Goals as goal

pub returns : goal.returns
returns c = c.contains.ensures ∙ any_named c.args.dir.now c.args.dirs.now.keys
