-- Families of modules (modulefile(5) of Environment Modules 5.2, `family`): of the members of a family one at most is loaded,
-- so each is in conflict with each other.
use Rattle.std.specs.Prelude.{◌≡◌, ◌≢◌, List, Bool, true, bytes_eq, string_bytes, String}
use Rattle.std.specs.declared.alloc.Global.{Global}
use Rattle.std.specs.List.{list_any}
use Rattle.tcltext.specs.chars.Runs.{Text}
use Rattle.modulename.specs.ModuleName.{means}

abbrev pub is_among : Text → List Text → Bool
is_among own modules = list_any (λ it. bytes_eq it own) modules

-- one of the names of a conflict means the module
abbrev pub is_excluded : List (String Global) → Text → Bool
is_excluded names own = list_any (λ (name : String Global). means (string_bytes name) own) names

-- the names of a member's conflict exclude each other member of its family among some modules
abbrev pub ExcludesOthers : (Text → Bool) → List Text → Text → List (String Global) → Type 0
ExcludesOthers is_member modules own names =
    (other : Text) → is_among other modules ≡ true → other ≢ own → is_member other ≡ true → is_excluded names other ≡ true
