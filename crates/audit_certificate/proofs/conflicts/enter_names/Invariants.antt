use Rattle.std.proofs.Common.{◌≡◌, ◌||◌, map, string_bytes, take}
use Rattle.envvars.specs.Texts.{Text, has}
use Rattle.audit_certificate.specs.Conflicts.{has_name}
use Rattle.audit_certificate.proofs.conflicts.enter_names.Given as goal

abbrev pub invariant-loop-name : goal.invariant-loop-name
invariant-loop-name l = (name : Text) → has_name l.entered name ≡ (has_name l.initial.entered name || has name (map string_bytes (take l.name-index l.names)))
