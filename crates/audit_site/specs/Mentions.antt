-- The names that evaluated modules mention, and which of them are unknown: for this crate's own contracts alone.
use Rattle.std.specs.Prelude.{Bool, not, ◌&&◌, List, [], map, filter, Result, Ok, Err, is_ok, string_bytes}
use Rattle.std.specs.List.{list_any}
use Rattle.std.specs.declared.alloc.Global.{Global}
use Rattle.std.specs.declared.string.String.{String}
use Rattle.modulename.specs.ModuleName.{means}
use Rattle.envvars.specs.Texts.{Text, has}
use Rattle.modulefile.specs.RecordViews.{record_view}
use Rattle.modules.specs.declared.refusal.Refusal.{Refusal}
use Rattle.audit_laws.specs.site.Sites.{SiteModule}
use Rattle.audit_site.specs.declared.walk.EvaluatedFile.{EvaluatedFile}
use Rattle.audit_site.specs.declared.walk.Evaluation.{Evaluation}
use Rattle.audit_site.specs.Audits.{Mention, unknown_in}
use Rattle.audit_site.specs.DeterministicRuns.{evaluated_file}

-- the name means one of the evaluated modules
abbrev pub is_known : List Evaluation → Text → Bool
is_known evaluations name = list_any (λ e. means name (string_bytes e.name)) evaluations

-- the name means one of the evaluated modules that isn't refused
abbrev pub is_accepted : List Evaluation → Text → Bool
is_accepted evaluations name = list_any (λ e. is_ok e.outcome && means name (string_bytes e.name)) evaluations

-- the name is one of these
abbrev pub known_in : List (String Global) → Text → Bool
known_in names name = has name (map string_bytes names)

-- those of the names that aren't known
abbrev pub unknown_among : (Text → Bool) → List Text → List Text
unknown_among known names = filter (λ name. not (known name)) names

-- those of the lists of which no name is known
abbrev pub unknown_groups : (Text → Bool) → List (List Text) → List (List Text)
unknown_groups known groups = filter (λ names. not (list_any known names)) groups

-- what an evaluation mentions that is unknown
abbrev pub unknown_by : (Text → Bool) → (Text → Bool) → SiteModule → Result EvaluatedFile Refusal → List Mention
unknown_by known accepted m (Ok file) = unknown_in known accepted m (map record_view file.records.items)
unknown_by known accepted m (Err refusal) = []

-- what an evaluated module mentions
abbrev pub unknown_after : (Text → Bool) → (Text → Bool) → Evaluation → List Mention
unknown_after known accepted e = unknown_by known accepted (evaluated_file e) e.outcome
