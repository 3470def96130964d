use Rattle.audit_laws.proofs.site.Extended.{deterministic_modules_stay}
use Rattle.audit_laws.proofs.site.laws.extended_sites.Goals as goal

pub returns : goal.returns
returns c = deterministic_modules_stay
