-- A whole site (own): its directories, its modules, and the records of those that are deterministic.
use Rattle.std.specs.Prelude.{◌≡◌, ◌↔◌, Bool, true, List, [], ◌∷◌, ◌++◌, map, filter_map}
use Rattle.std.specs.Prelude.{flat_map, bytes_eq, if◌then◌else◌, Option, Some, None, Result, Ok, Err}
use Rattle.std.specs.List.{list_any}
use Rattle.std.specs.List.Sorted.{IsStrictlySortedBy}
use Rattle.modulename.specs.ModuleName.{means}
use Rattle.modulename.specs.Versions.{version_order}
use Rattle.envvars.specs.Texts.{Text, has}
use Rattle.envvars.specs.Environment.{Environment, lookup}
use Rattle.envvars.specs.Fields.{without_repeats}
use Rattle.tclrules.specs.declared.limits.Limits.{Limits}
use Rattle.shelltext.specs.declared.shell.Shell.TheVariants.{Sh}
use Rattle.filetree.specs.Agreement.{Files, Listings}
use Rattle.filetree.specs.Modulefiles.{modulefile, directories, path_of}
use Rattle.filetree.specs.Relations.{Is, ◌>>◌}
use Rattle.modulefile.specs.Records.{Record, added_elements}
use Rattle.modulefile.specs.Moves.{Module}
use Rattle.modulefile.specs.Answers.{FileContext}
use Rattle.modulefile.specs.Files.{Ran, RunsFile}
use Rattle.audit_laws.specs.determinism.Contexts.{EvaluationContext, first_context, other_contexts, FileRuns, is_deterministic, reads_in}
use Rattle.search.specs.Listed.{IsBelow}
use Rattle.requests.specs.Refusals.{RefusedAs}
use Rattle.requests.specs.Reasons.{RequestReason, file_refused}
use Rattle.requests.specs.Steps as requests
use Rattle.requests.specs.Steps.{RequestContext, request_context_in, entries_of, script_at}
use Rattle.audit_certificate.specs.RecordUses.{IsAmong, modulepath}
use Rattle.audit_certificate.specs.Candidates.{Candidate}

-- A site: the files and directories of a tree, the limits on the evaluation of each file, and the environment at hand.
-- Its MODULEPATH is where the site begins, and each file is evaluated in it.
pub record Site : Type 0 where
  pub files : Files
  pub listings : Listings
  pub limits : Limits
  pub env : Environment

-- the site of an environment over these maps
abbrev pub site_of : Limits → Environment → Files → Listings → Site
site_of limits env files listings = record { files = files; listings = listings; limits = limits; env = env }

-- what a request is run over, in sh
abbrev pub over_site : Site → RequestContext
over_site site = request_context_in site.limits Sh site.files site.listings

-- ---- modules and their files

-- A module of a site is a name with its file: two files of one name are two modules.
pub record SiteModule : Type 0 where
  pub name : Text
  pub path : Text

-- the module of this name below a directory
abbrev pub module_below : Text → Text → SiteModule
module_below dir name = record { name = name; path = path_of dir name }

-- the module, as it stands below the directory, is one of those that `avail` lists
pub record IsIn (site : Site) (dir : Text) (m : SiteModule) : Type 0 where
  pub below : IsBelow site.files site.listings dir m.name
  pub path : m.path ≡ path_of dir m.name

-- ---- evaluations

-- the context of an evaluation of a module's file: in the environment at hand, with the modules loaded that the context
-- has, and the typed name is the module's
abbrev pub context_in : Site → EvaluationContext → SiteModule → FileContext
context_in site way m =
    record {
      mode = way.mode;
      in_switch = way.in_switch;
      name = m.name;
      path = m.path;
      shell = way.shell;
      typed = m.name;
      loaded = way.loaded;
      before = site.env;
    }

-- What the evaluation of a module's file leaves in a context, or why it is refused: as every load, where the loaded
-- lists at hand don't fit together. Conflicts and prereqs aren't judged.
abbrev pub EvaluatesBy : Site → EvaluationContext → SiteModule → Result Ran RequestReason → Type 0
EvaluatesBy site way m =
    Is (entries_of site.env) >> (λ xs.
    Is (script_at m.path (modulefile (site.files m.path))) >> (λ text.
    RefusedAs file_refused (RunsFile site.limits (context_in site way m) text)))

-- the same in each of these contexts, in their order
abbrev pub EvaluateBy : Site → SiteModule → List EvaluationContext → List (Result Ran RequestReason) → Type 0
EvaluateBy site m [] [] = Unit {0}
EvaluateBy site m [] (outcome ∷ outcomes) = ⊥
EvaluateBy site m (way ∷ ways) [] = ⊥
EvaluateBy site m (way ∷ ways) (outcome ∷ outcomes) =
    EvaluatesBy site way m outcome × EvaluateBy site m ways outcomes

-- What the evaluations of a module's file leave: for loading, in sh, with nothing loaded, and in the other contexts
-- that this one asks for; or why that one is refused.
abbrev pub EvaluatesTo : Site → SiteModule → Result (FileRuns RequestReason) RequestReason → Type 0
EvaluatesTo site m (Ok runs) =
    EvaluatesBy site first_context m (Ok runs.first) × EvaluateBy site m (other_contexts runs.first.asked) runs.others
EvaluatesTo site m (Err reason) = EvaluatesBy site first_context m (Err reason)

-- The evaluation of the module's file for loading, in sh with nothing loaded, leaves these records.
pub record HasFirstRecords (site : Site) (m : SiteModule) (rs : List Record) : Type 0 where
  pub runs : FileRuns RequestReason
  pub evaluated : EvaluatesTo site m (Ok runs)
  pub records : rs ≡ runs.first.records

-- The module is deterministic, and these are its records, those for loading in sh with nothing loaded: each question of
-- its evaluation has a stable answer, and after each record the start can be back. So is a plain module, which asks
-- nothing.
pub record HasDeterministicRecords (site : Site) (m : SiteModule) (rs : List Record) : Type 0 where
  pub runs : FileRuns RequestReason
  pub evaluated : EvaluatesTo site m (Ok runs)
  pub deterministic : is_deterministic runs ≡ true
  pub records : rs ≡ runs.first.records

-- The evaluations of the module's file read the variable.
pub record Reads (site : Site) (m : SiteModule) (v : Text) : Type 0 where
  pub runs : FileRuns RequestReason
  pub evaluated : EvaluatesTo site m (Ok runs)
  pub read : has v (reads_in runs) ≡ true

-- What the evaluations of the module's file read has the values of the environment at hand.
abbrev pub ReadsEquivalently : Site → Environment → SiteModule → Type 0
ReadsEquivalently site e m = (v : Text) → Reads site m v → lookup e v ≡ lookup site.env v

-- ---- directories

-- the directories in the elements that are added to a variable, if any are and it is MODULEPATH
abbrev pub directories_in : Option (Text × List Text) → List Text
directories_in None = []
directories_in (Some added) = if bytes_eq added.0 modulepath then flat_map directories added.1 else []

-- the directories that a record adds to MODULEPATH
abbrev pub directories_by : Record → List Text
directories_by r = directories_in (added_elements r)

-- the directories that records add to it
abbrev pub added_directories : List Record → List Text
added_directories rs = flat_map directories_by rs

-- the directories of the MODULEPATH at hand
abbrev pub first_directories : Site → List Text
first_directories site = directories (requests.modulepath site.env)

-- The directories of a site: those of MODULEPATH, and those that a module in one of them adds to it, deterministic or
-- not, by its first records. No others are: it is the least such set.
pub data IsDirectory (site : Site) : Text → Type 0 where
  first : {dir : Text} → IsAmong dir (first_directories site) → IsDirectory site dir
  added : {dir from : Text} (m : SiteModule) (rs : List Record) → IsDirectory site from → IsIn site from m
      → HasFirstRecords site m rs → IsAmong dir (added_directories rs) → IsDirectory site dir

-- The modules of a site: those in its directories.
pub record IsOfSite (site : Site) (m : SiteModule) : Type 0 where
  pub dir : Text
  pub directory : IsDirectory site dir
  pub there : IsIn site dir m

-- ---- lists of them

-- the module without its records
abbrev pub file_of : Module → SiteModule
file_of m = record { name = m.name; path = m.path }

-- a candidate without its records and its reads
abbrev pub candidate_file : Candidate → SiteModule
candidate_file m = record { name = m.name; path = m.path }

-- the module as a candidate, with the records of its first evaluation, and with what all of them read, each variable once
abbrev pub candidate_of : SiteModule → FileRuns RequestReason → Candidate
candidate_of m runs =
    record {
      name = m.name;
      path = m.path;
      records = runs.first.records;
      reads = without_repeats (reads_in runs);
    }

-- A deterministic module of the site, with its records and its reads.
pub record IsDeterministicModule (site : Site) (m : Candidate) : Type 0 where
  pub of_site : IsOfSite site (candidate_file m)
  pub records : HasDeterministicRecords site (candidate_file m) m.records
  pub reads : m.reads ≡ without_repeats (reads_in records.runs)

-- the list has all deterministic modules of the site, and no others
abbrev pub AreDeterministicModules : Site → List Candidate → Type 0
AreDeterministicModules site ms = (m : Candidate) → IsAmong m ms ↔ IsDeterministicModule site m

-- a module of this name is excluded by hand: one of the names that are given means it
abbrev pub is_excluded : List Text → Text → Bool
is_excluded without name = list_any (λ given. means given name) without

-- ---- directories in lists, and modules in these

-- The list of directories is closed: it has those of MODULEPATH, and each that a module adds which is in one of the
-- list.
pub record IsClosed (site : Site) (dirs : List Text) : Type 0 where
  pub begins : (dir : Text) → IsAmong dir (first_directories site) → IsAmong dir dirs
  pub adds : (from dir : Text) (m : SiteModule) (rs : List Record) → IsAmong from dirs → IsIn site from m
      → HasFirstRecords site m rs → IsAmong dir (added_directories rs) → IsAmong dir dirs

-- the list has all directories of the site, and no others
abbrev pub AreDirectories : Site → List Text → Type 0
AreDirectories site dirs = (dir : Text) → IsAmong dir dirs ↔ IsDirectory site dir

-- the names of the modules below a directory, each once, in version order, as `avail` has them
pub record AreNamesBelow (site : Site) (dir : Text) (names : List Text) : Type 0 where
  pub order : IsStrictlySortedBy version_order names
  pub exact : (name : Text) → IsAmong name names ↔ IsBelow site.files site.listings dir name

-- the modules of some directories in turn
abbrev pub AreModulesIn : Site → List Text → List SiteModule → Type 0
AreModulesIn site [] ms = ms ≡ []
AreModulesIn site (dir ∷ dirs) ms =
    (names : List Text) × (rest : List SiteModule) × AreNamesBelow site dir names × AreModulesIn site dirs rest
    × (ms ≡ map (module_below dir) names ++ rest)

-- ---- evaluated modules

-- a module, and what the evaluations of its file leave, or why the first is refused
abbrev pub Evaluated : Type 0
Evaluated = SiteModule × Result (FileRuns RequestReason) RequestReason

-- the module as a candidate, where it is deterministic
abbrev pub deterministic_of : Evaluated → Option Candidate
deterministic_of (m, Ok runs) = if is_deterministic runs then Some (candidate_of m runs) else None
deterministic_of (m, Err reason) = None

-- the deterministic ones of some evaluated modules, in their order
abbrev pub deterministic_among : List Evaluated → List Candidate
deterministic_among outcomes = filter_map deterministic_of outcomes

-- the variables that the evaluations of a module's file read
abbrev pub reads_of : Evaluated → List Text
reads_of (m, Ok runs) = reads_in runs
reads_of (m, Err reason) = []

-- The list has each module of the site with the outcome of its evaluations, and no others.
pub record AreEvaluated (site : Site) (outcomes : List Evaluated) : Type 0 where
  pub modules : (m : SiteModule) → IsAmong m (map (λ outcome. outcome.0) outcomes) ↔ IsOfSite site m
  pub evaluated : (outcome : Evaluated) → IsAmong outcome outcomes → EvaluatesTo site outcome.0 outcome.1
