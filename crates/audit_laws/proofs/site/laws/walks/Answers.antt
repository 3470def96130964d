use Rattle.audit_laws.proofs.site.Walked.{names_listed, directories_found, modules_found}
use Rattle.audit_laws.proofs.site.DeterministicOnes.{deterministic_modules_found}
use Rattle.audit_laws.proofs.site.laws.walks.Goals as goal

pub returns-clause-names : goal.returns-clause-names
returns-clause-names c = names_listed

pub returns-clause-directories : goal.returns-clause-directories
returns-clause-directories c = directories_found

pub returns-clause-modules : goal.returns-clause-modules
returns-clause-modules c = modules_found

pub returns-clause-deterministic : goal.returns-clause-deterministic
returns-clause-deterministic c = deterministic_modules_found c.files.ensures.one
