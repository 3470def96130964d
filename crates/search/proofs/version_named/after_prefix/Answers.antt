use Rattle.search.proofs.VersionNamedLemmas.{stripped}
use Rattle.search.proofs.version_named.after_prefix.Goals as goal

pub returns : goal.returns
returns c = stripped _ _ _ c.strip_prefix.ensures.cases
