use Rattle.std.proofs.Common.{length}
use Rattle.audit_site.proofs.names.+add_meaning.Given as goal

abbrev pub decreases-add_meaning : goal.decreases-add_meaning
decreases-add_meaning l = length l.full_name.now
