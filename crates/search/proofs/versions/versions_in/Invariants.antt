use Rattle.std.proofs.Common.{◌≡◌, ◌++◌, drop, filter, map, string_bytes}
use Rattle.search.specs.Versions.{is_version}
use Rattle.search.proofs.versions.versions_in.Given as goal

abbrev pub invariant-loop-entry : goal.invariant-loop-entry
invariant-loop-entry l =
    filter (is_version l.name) (map string_bytes l.entries) ≡ map (λ v. v.now) l.versions.items ++ filter (is_version l.name) (map string_bytes (drop l.entry-index l.entries))
