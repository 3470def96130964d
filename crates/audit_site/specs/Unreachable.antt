-- Directories that can be reached only through modules that aren't deterministic, by what the code has of evaluations:
-- for this crate's own contracts alone.
use Rattle.std.specs.Prelude.{Bool, if◌then◌else◌, List, [], ◌∷◌, ◌++◌, flat_map}
use Rattle.envvars.specs.Texts.{Text, has}
use Rattle.envvars.specs.Fields.{without_repeats}
use Rattle.filetree.specs.Modulefiles.{directories}
use Rattle.audit_laws.specs.site.Sites.{SiteModule, added_directories}
use Rattle.audit_site.specs.Audits.{Addition}
use Rattle.audit_site.specs.DeterministicRuns.{directories_after, evaluated_file, deterministic_records}
use Rattle.audit_site.specs.declared.walk.Evaluation.{Evaluation}

-- the directories that an evaluated module adds, where it is deterministic
abbrev pub stable_additions : Evaluation → List Text
stable_additions e = added_directories (deterministic_records e.outcome)

-- the MODULEPATH has the directory, or a deterministic one of the evaluated modules adds it
abbrev pub is_stable_directory : Text → List Evaluation → Text → Bool
is_stable_directory modulepath evaluations dir =
    has dir (directories modulepath ++ flat_map stable_additions evaluations)

-- the module adds the directory, unless it is deterministic
abbrev pub addition_unless : Bool → SiteModule → Text → List Addition
addition_unless deterministic m dir = if deterministic then [] else record { by = m; directory = dir } ∷ []

-- what of these directories a module adds that isn't deterministic
abbrev pub additions_among : (Text → Bool) → SiteModule → List Text → List Addition
additions_among deterministic m dirs = flat_map (λ dir. addition_unless (deterministic dir) m dir) dirs

-- the same of an evaluated module
abbrev pub additions_after : (Text → Bool) → Evaluation → List Addition
additions_after deterministic e = additions_among deterministic (evaluated_file e) (without_repeats (directories_after e.outcome))
