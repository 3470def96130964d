-- The parts of a walk over a site, for the contracts of this crate's private functions (own).
use Rattle.std.specs.Prelude.{◌≡◌, Bool, List, [], ◌∷◌, ◌++◌, map, flat_map, Some, None, Result, Ok, Err, string_bytes}
use Rattle.envvars.specs.Texts.{Text, texts_in}
use Rattle.envvars.specs.Fields.{without_repeats}
use Rattle.envvars.specs.Environment.{Environment}
use Rattle.envvars.specs.Reasons as edits
use Rattle.envstate.specs.loaded_list.Loaded.{Entry, loaded_in}
use Rattle.tclrules.specs.declared.limits.Limits.{Limits}
use Rattle.filetree.specs.Agreement.{Files, Listings, InEachPair}
use Rattle.filetree.specs.Causes.{Applies}
use Rattle.modulefile.specs.Answers.{FileContext}
use Rattle.modulefile.specs.Files as files
use Rattle.modulefile.specs.Files.{RunsFile}
use Rattle.modulefile_run.specs.declared.run.FileRun.{FileRun}
use Rattle.modulefile_run.specs.Running.{ran_view}
use Rattle.modulefile.specs.Judgments.{bad_edit}
use Rattle.requests.specs.Reasons.{RequestReason, refused_edit, file_refused}
use Rattle.requests.specs.Refusals.{RefusedAs}
use Rattle.audit_laws.specs.determinism.Contexts.{EvaluationContext, first_context, other_contexts, FileRuns, is_equivalent, are_equivalent, read_in, reads_in}
use Rattle.modules.specs.Answers.{cause_of}
use Rattle.modules.specs.declared.refusal.Refusal.{Refusal}
use Rattle.audit_certificate.specs.RecordUses.{IsAmong}
use Rattle.audit_laws.specs.site.DirectorySets.{with_directories}
use Rattle.audit_laws.specs.site.Sites.{Site, SiteModule, Evaluated, EvaluatesTo, AreNamesBelow, module_below}
use Rattle.audit_site.specs.Walks.{IsOfRuns, IsEvaluation, AreEvaluations}
use Rattle.audit_site.specs.DeterministicRuns.{directories_after}
use Rattle.audit_site.specs.declared.scripts.FileEvaluation.{FileEvaluation}
use Rattle.audit_site.specs.declared.walk.Evaluation.{Evaluation}

-- ---- the file of a module

-- the loaded lists of the environment fit together: these modules are loaded
abbrev pub HasLoaded : Environment → Type 0
HasLoaded e = (entries : List Entry) × (loaded_in e ≡ Some entries)

-- the context in which the file of this name and path is evaluated in a way
abbrev pub site_context : EvaluationContext → Text → Text → Environment → FileContext
site_context way name path e =
    record {
      mode = way.mode;
      in_switch = way.in_switch;
      name = name;
      path = path;
      shell = way.shell;
      typed = name;
      loaded = way.loaded;
      before = e;
    }

-- What the code has of an evaluation comes to one of these outcomes, with some environment after it; or its refusal is
-- one, or has another cause.
abbrev pub ComesTo : Result FileRun Refusal → (Result files.Ran RequestReason → Type 0) → Type 0
ComesTo (Ok ran) Outcomes = (e : Environment) × Outcomes (Ok (ran_view ran e))
ComesTo (Err refusal) Outcomes = Applies (cause_of refusal) ⊥ (λ reason. Outcomes (Err reason))

-- an outcome of a script in this context, in the words of requests
abbrev pub ScriptRuns : Limits → FileContext → Text → Result files.Ran RequestReason → Type 0
ScriptRuns limits c text = RefusedAs file_refused (RunsFile limits c text)

-- The outcomes of a script in these ways, in their order.
abbrev pub ScriptRunsIn : Limits → (EvaluationContext → FileContext) → Text → List EvaluationContext → List (Result files.Ran RequestReason)
    → Type 0
ScriptRunsIn limits context text [] [] = Unit {0}
ScriptRunsIn limits context text [] (outcome ∷ outcomes) = ⊥
ScriptRunsIn limits context text (way ∷ ways) [] = ⊥
ScriptRunsIn limits context text (way ∷ ways) (outcome ∷ outcomes) =
    ScriptRuns limits (context way) text outcome × ScriptRunsIn limits context text ways outcomes

-- what the evaluation of a script in one way more shows: whether it is like the first, and what it reads
pub record ShowsOne (limits : Limits) (context : EvaluationContext → FileContext) (text : Text) (first : FileRun) (way : EvaluationContext)
    (before after : List Text) (answer : Bool) : Type 0 where
  pub outcome : Result files.Ran RequestReason
  pub runs : ScriptRuns limits (context way) text outcome
  pub alike : (e : Environment) → answer ≡ is_equivalent (ran_view first e) way outcome
  pub reads : after ≡ before ++ read_in outcome

-- the same in each of these ways
pub record ShowsAll (limits : Limits) (context : EvaluationContext → FileContext) (text : Text) (first : FileRun) (ways : List EvaluationContext)
    (before after : List Text) (answer : Bool) : Type 0 where
  pub outcomes : List (Result files.Ran RequestReason)
  pub runs : ScriptRunsIn limits context text ways outcomes
  pub alike : (e : Environment) → answer ≡ are_equivalent (ran_view first e) ways outcomes
  pub reads : after ≡ before ++ flat_map read_in outcomes

-- What the evaluations of a script show: the first, and those in the other contexts that it asks for. Or that one is
-- refused, or given up.
abbrev pub ShowsScript : Limits → (EvaluationContext → FileContext) → Text → Result FileEvaluation Refusal → Type 0
ShowsScript limits context text (Ok shown) =
    (runs : FileRuns RequestReason) × IsOfRuns shown.file runs × (texts_in shown.reads ≡ without_repeats (reads_in runs))
    × ScriptRuns limits (context first_context) text (Ok runs.first)
    × ScriptRunsIn limits context text (other_contexts runs.first.asked) runs.others
ShowsScript limits context text (Err refusal) =
    Applies (cause_of refusal) ⊥ (λ reason. ScriptRuns limits (context first_context) text (Err reason))

-- What the evaluations of a file show comes to one of these outcomes over a tree; or its refusal is one, or has another
-- cause.
abbrev pub ComesToOverTree : (Files → Listings → Type 0) → Type 0 → Result FileEvaluation Refusal
    → (Files → Listings → Result (FileRuns RequestReason) RequestReason → Type 0) → Type 0
ComesToOverTree agrees failed (Ok shown) Outcomes =
    (runs : FileRuns RequestReason) × IsOfRuns shown.file runs × (texts_in shown.reads ≡ without_repeats (reads_in runs))
    × InEachPair agrees (λ files listings. Outcomes files listings (Ok runs))
ComesToOverTree agrees failed (Err refusal) Outcomes =
    Applies (cause_of refusal) failed (λ reason. InEachPair agrees
    (λ files listings. Outcomes files listings (Err reason)))

-- The walk is given up: memory ran out, or the device failed.
abbrev pub GivesUp : Type 0 → Refusal → Type 0
GivesUp failed refusal = Applies (cause_of refusal) failed (λ reason. ⊥)

-- The loaded lists can't be read: memory ran out, or they don't fit together.
abbrev pub HasListCause : Environment → Refusal → Type 0
HasListCause e refusal =
    Applies (cause_of refusal) ⊥ (λ reason. (reason ≡ refused_edit (bad_edit edits.inconsistent))
    × (loaded_in e ≡ None))

-- the module of this name and file has this outcome, and what it reads
abbrev pub IsEvaluationWith : Text → Text → Result FileEvaluation Refusal → Evaluation → Type 0
IsEvaluationWith name path (Ok shown) evaluation =
    (string_bytes evaluation.name ≡ name) × (string_bytes evaluation.path ≡ path) × (evaluation.outcome ≡ Ok shown.file)
    × (evaluation.reads ≡ shown.reads)
IsEvaluationWith name path (Err refusal) evaluation =
    (string_bytes evaluation.name ≡ name) × (string_bytes evaluation.path ≡ path) × (evaluation.outcome ≡ Err refusal)
    × (texts_in evaluation.reads ≡ [])

-- ---- evaluated modules

-- what the code has of the module's evaluation stands for its outcome
abbrev pub IsEvaluationOf : Site → SiteModule → Evaluation → Type 0
IsEvaluationOf site m evaluation =
    (outcome : Result (FileRuns RequestReason) RequestReason) × EvaluatesTo site m outcome
    × IsEvaluation evaluation (m, outcome)

-- the same of each of these modules
pub record AreEvaluationsOf (site : Site) (ms : List SiteModule) (found : List Evaluation) : Type 0 where
  pub outcomes : List Evaluated
  pub modules : map (λ outcome. outcome.0) outcomes ≡ ms
  pub evaluated : (outcome : Evaluated) → IsAmong outcome outcomes → EvaluatesTo site outcome.0 outcome.1
  pub evaluations : AreEvaluations found outcomes

-- the evaluations are those of the modules below the directory
abbrev pub AreEvaluationsBelow : Site → Text → List Evaluation → Type 0
AreEvaluationsBelow site dir evaluations =
    (names : List Text) × AreNamesBelow site dir names
    × AreEvaluationsOf site (map (module_below dir) names) evaluations

-- ---- directories

-- the directories that the evaluated modules add
abbrev pub directories_found : List Evaluation → List Text
directories_found evaluations = flat_map (λ evaluation. directories_after evaluation.outcome) evaluations

-- A walk goes through a directory: these are the directories before and after it, and the evaluations.
pub record GoesThrough (site : Site) (dir : Text) (dirs last : List Text) (evaluations now : List Evaluation) : Type 0
  where
    pub below : List Evaluation
    pub evaluated : AreEvaluationsBelow site dir below
    pub found : last ≡ with_directories dirs (directories_found below)
    pub kept : now ≡ evaluations ++ below
