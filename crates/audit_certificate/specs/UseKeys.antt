-- The keys of uses in the code, as the definitions see them (own).
use Rattle.std.specs.Prelude.{◌≡◌, List, map, Some, None}
use Rattle.reversal.specs.VariableUses.{VariableUse, Untouched, Fixed, Absent, Pathed, Stacked, UsedVariable}
use Rattle.audit_certificate.specs.UseViews.{used_view}
use Rattle.audit_certificate.specs.declared.keys.UseKey.{UseKey}
use Rattle.audit_certificate.specs.declared.keys.UseKey.TheVariants as keys
use Rattle.audit_certificate.specs.declared.keys.UsedKey.{UsedKey}
use Rattle.audit_certificate.specs.declared.distinct_uses.DistinctUses.{DistinctUses}

-- the use of a key
abbrev pub key_view : UseKey → VariableUse
key_view keys.Set = Fixed None
key_view (keys.Unset value) = Fixed (Some value.now)
key_view keys.Absent = Absent
key_view (keys.Path delim) = Pathed delim
key_view keys.Stack = Stacked
key_view keys.Read = Untouched

-- the variable of a key, and the use of it
abbrev pub used_key_view : UsedKey → UsedVariable
used_key_view key = (key.variable.now, key_view key.used)

-- it has these uses, and the same as keys
abbrev pub HasUses : DistinctUses → List UsedVariable → Type 0
HasUses once ps = (map used_view once.uses.items ≡ ps) × (map used_key_view once.keys.keys ≡ ps)
