use Rattle.std.proofs.Common.{◌≡◌, drop, map, option_map, string_bytes, vec_items}
use Rattle.std.specs.Option.{option_or}
use Rattle.search.specs.DefaultVersions.{last_default}
use Rattle.search.proofs.version_named.last_default.Given as goal

abbrev pub invariant-loop-words : goal.invariant-loop-words
invariant-loop-words l =
    last_default l.name (map (λ words. map string_bytes (vec_items words)) l.commands)
    ≡ option_or (last_default l.name (map (λ words. map string_bytes (vec_items words)) (drop l.words-index l.commands))) (option_map (λ v. v.now) l.last)
