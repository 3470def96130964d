-- The table of variables in the code, as the definitions see it (own).
use Rattle.std.specs.Prelude.{List, [], flat_map, bytes_eq}
use Rattle.std.specs.Option.{option_map_or}
use Rattle.envvars.specs.Texts.{Text}
use Rattle.indexmap.specs.IndexMap.{get_by}
use Rattle.audit_certificate.specs.Users.{ModuleUse}
use Rattle.audit_certificate.specs.VersionGroups.{all_members}
use Rattle.audit_certificate.specs.declared.usage_groups.UsageGroup.{UsageGroup}
use Rattle.audit_certificate.specs.declared.table.VariableTable.{VariableTable}

-- who uses the variable in these ways
abbrev pub users_in : List UsageGroup → List ModuleUse
users_in ways = flat_map (λ way. all_members way.families.items) ways

-- the users of a variable in a table
abbrev pub users_at : VariableTable → Text → List ModuleUse
users_at table variable =
    option_map_or (λ users. users_in users.ways.items) (get_by (λ k. bytes_eq variable k.now) table.variables) []
