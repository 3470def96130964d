-- For the contracts of private functions: how often names stand in a list, as the code counts them (own).
use Rattle.std.specs.Prelude.{◌≡◌, ℕ, ◌+◌, List, bytes_eq, if◌then◌else◌}
use Rattle.std.specs.List.{count_by}
use Rattle.std.specs.Option.{option_map_or}
use Rattle.envvars.specs.Texts.{Text}
use Rattle.indexmap.specs.IndexMap.{get_by}
use Rattle.audit_report.specs.declared.conflicts.NameCounts.{NameCounts}

-- how often the name stands there, by the counts
abbrev pub counted_at : NameCounts → Text → ℕ
counted_at counts name = option_map_or (λ n. n) (get_by (λ k. bytes_eq name k.now) counts.counts) 0

-- the counts are those of these names
abbrev pub HasCounts : NameCounts → List Text → Type 0
HasCounts counts names = (name : Text) → counted_at counts name ≡ count_by (bytes_eq name) names

-- the name stands there once more
abbrev pub CountsOne : NameCounts → NameCounts → Text → Type 0
CountsOne old new added =
    (name : Text) → counted_at new name ≡ counted_at old name + (if bytes_eq name added then 1 else 0)
