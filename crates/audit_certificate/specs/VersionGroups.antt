-- Families of users in the code, as the definitions see them (own).
use Rattle.std.specs.Prelude.{List, map, flat_map}
use Rattle.audit_certificate.specs.Users.{ModuleUse}
use Rattle.audit_certificate.specs.UserViews.{user_view}
use Rattle.audit_certificate.specs.declared.version_groups.VersionGroup.{VersionGroup}

-- the members of a family
abbrev pub members : VersionGroup → List ModuleUse
members family = map user_view family.users.items

-- the members of some families
abbrev pub all_members : List VersionGroup → List ModuleUse
all_members families = flat_map members families
