use Rattle.envstate.proofs.RoleLemmas.{name_of_role, have_places, loaded_places, parted, no_reason_against}
use Rattle.envstate.proofs.laws.names.Goals as goal

pub returns-clause-roles : goal.returns-clause-roles
returns-clause-roles c = name_of_role

pub returns-clause-variables : goal.returns-clause-variables
returns-clause-variables c = have_places

pub returns-clause-loaded : goal.returns-clause-loaded
returns-clause-loaded c = loaded_places

pub returns-clause-different : goal.returns-clause-different
returns-clause-different c = parted

pub returns-clause-editable : goal.returns-clause-editable
returns-clause-editable c = no_reason_against
