-- The evaluations of deterministic modules, by what the code has of them: for this crate's own contracts alone.
use Rattle.std.specs.Prelude.{◌≡◌, Bool, true, false, ◌&&◌, List, [], map, if◌then◌else◌, is_none, Option, Some}
use Rattle.std.specs.Prelude.{None, Result, Ok, Err, string_bytes}
use Rattle.std.specs.List.{list_all}
use Rattle.std.specs.Borrow.{Bor}
use Rattle.envvars.specs.Texts.{Text, texts_in}
use Rattle.modulefile.specs.Records.{Record}
use Rattle.modulefile.specs.RecordViews.{record_view}
use Rattle.modules.specs.declared.refusal.Refusal.{Refusal}
use Rattle.reversal.specs.VariableUses.{can_return}
use Rattle.audit_laws.specs.site.Sites.{SiteModule, added_directories}
use Rattle.audit_site.specs.declared.walk.EvaluatedFile.{EvaluatedFile}
use Rattle.audit_site.specs.declared.walk.Evaluation.{Evaluation}

-- the file is that of a deterministic module
abbrev pub is_deterministic_file : EvaluatedFile → Bool
is_deterministic_file file = is_none file.unkept && list_all can_return (map record_view file.records.items)

-- what its evaluations show, where it is one
abbrev pub is_deterministic_outcome : Result EvaluatedFile Refusal → Option (Bor EvaluatedFile) → Type 0
is_deterministic_outcome (Ok file) (Some found) = (is_deterministic_file file ≡ true) × (found.now ≡ file)
is_deterministic_outcome (Ok file) None = is_deterministic_file file ≡ false
is_deterministic_outcome (Err refusal) found = found ≡ None

-- the records of a module whose evaluations show this, where it is deterministic
abbrev pub deterministic_records : Result EvaluatedFile Refusal → List Record
deterministic_records (Ok file) = if is_deterministic_file file then map record_view file.records.items else []
deterministic_records (Err refusal) = []

-- the directories that it adds, by its first records
abbrev pub directories_after : Result EvaluatedFile Refusal → List Text
directories_after (Ok file) = added_directories (map record_view file.records.items)
directories_after (Err refusal) = []

-- the module of an evaluation
abbrev pub evaluated_file : Evaluation → SiteModule
evaluated_file e = record { name = string_bytes e.name; path = string_bytes e.path }

-- the variables that its evaluations read
abbrev pub reads_seen : Evaluation → List Text
reads_seen e = texts_in e.reads
