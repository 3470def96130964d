use Rattle.audit_laws.proofs.site.DirectorySetLemmas.{pushed}
use Rattle.audit_laws.proofs.site.directory_set.push_directory.Goals as goal

pub returns : goal.returns
returns c = rw (← c.in_ok-from_str.ensures.ok) (pushed c.args.dirs.now.keys c.insert.new.self.keys c.in_ok-from_str.field-0 c.in_ok-_is_new.ensures.keys)
