use Rattle.std.proofs.Common.{◌≡◌, map, take, string_bytes}
use Rattle.audit_laws.specs.site.DirectorySets.{with_directories}
use Rattle.audit_site.specs.Mentions.{known_in, unknown_among}
use Rattle.audit_site.proofs.names.add_all_unknown.Given as goal

abbrev pub invariant-loop-name : goal.invariant-loop-name
invariant-loop-name l =
    map string_bytes l.unknown.keys
    ≡ with_directories (map string_bytes l.initial.unknown.keys) (unknown_among (known_in l.meaning.keys) (map string_bytes (take l.name-index l.names)))
