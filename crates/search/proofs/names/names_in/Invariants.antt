use Rattle.std.proofs.Common.{◌≡◌, ◌++◌, drop, map, option_map, string_bytes}
use Rattle.search.specs.BelowFolder.{names_in}
use Rattle.search.proofs.names.names_in.Given as goal

abbrev pub invariant-loop-entry : goal.invariant-loop-entry
invariant-loop-entry l =
    names_in (map string_bytes l.texts) (option_map (λ f. f.now) l.prefix) (map string_bytes l.entries)
    ≡ map string_bytes l.names.items ++ names_in (map string_bytes l.texts) (option_map (λ f. f.now) l.prefix) (map string_bytes (drop l.entry-index l.entries))
