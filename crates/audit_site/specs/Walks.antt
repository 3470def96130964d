-- What a walk over a site answers (own).
use Rattle.std.specs.Prelude.{◌≡◌, ℕ, ◌<◌, ◌≤◌, Bool, true, not, if◌then◌else◌, List, [], ◌∷◌, ◌++◌, length, map}
use Rattle.std.specs.Prelude.{flat_map, find, None, Result, Ok, Err, MatchOption, string_bytes}
use Rattle.std.specs.Option.{option_map}
use Rattle.envvars.specs.Texts.{Text, texts_in}
use Rattle.envvars.specs.Fields.{without_repeats, are_distinct}
use Rattle.envvars.specs.Environment.{Environment}
use Rattle.envvars.specs.Reasons as edits
use Rattle.envstate.specs.loaded_list.Loaded.{loaded_in}
use Rattle.tclrules.specs.declared.limits.Limits.{Limits}
use Rattle.filetree.specs.Agreement.{Files, Listings, InEachPair}
use Rattle.filetree.specs.Causes.{Applies, because}
use Rattle.modulefile.specs.Records.{Record}
use Rattle.modulefile.specs.RecordViews.{record_view}
use Rattle.modulefile_run.specs.Questions.{question_view}
use Rattle.audit_laws.specs.determinism.Contexts.{FileRuns, are_runs_equivalent, has_stable_answer, have_stable_answers, reads_in}
use Rattle.modulefile.specs.Judgments.{bad_edit}
use Rattle.requests.specs.Reasons.{RequestReason, refused_edit}
use Rattle.modules.specs.Answers.{cause_of}
use Rattle.modules.specs.declared.refusal.Refusal.{Refusal}
use Rattle.reversal.specs.VariableUses.{UsedVariable}
use Rattle.audit_certificate.specs.RecordUses.{IsAmong}
use Rattle.audit_certificate.specs.Candidates.{uses_with}
use Rattle.audit_certificate.specs.Steps.{are_consistent}
use Rattle.audit_certificate.specs.UseViews.{use_view}
use Rattle.audit_laws.specs.site.Sites.{Site, Evaluated, EvaluatesTo, first_directories, added_directories}
use Rattle.audit_laws.specs.site.Sites.{reads_of}
use Rattle.audit_laws.specs.site.Sites.{site_of}
use Rattle.audit_laws.specs.site.Sites.{IsDirectory, AreDirectories, AreModulesIn}
use Rattle.audit_laws.specs.site.Standings.{IsUsedTwice}
use Rattle.audit_site.specs.declared.fault.WalkFault.{WalkFault}
use Rattle.audit_site.specs.declared.fault.WalkFault.TheVariants.{Refused, TooManyDirectories}
use Rattle.audit_site.specs.declared.unlike.UnlikeUses.{UnlikeUses}
use Rattle.audit_site.specs.declared.walk.EvaluatedFile.{EvaluatedFile}
use Rattle.audit_site.specs.declared.walk.Evaluation.{Evaluation}
use Rattle.audit_site.specs.declared.walk.SiteWalk.{SiteWalk}

-- the most directories that a walk goes through
abbrev pub most_directories : ℕ
most_directories = 65536

-- the directories that an evaluated module adds, by its first records
abbrev pub directories_of : Evaluated → List Text
directories_of (m, Ok runs) = added_directories runs.first.records
directories_of (m, Err reason) = []

-- These directories are those of the site, each once: those of MODULEPATH, and then those that the modules in them add,
-- as they come; and they are no more than a walk goes through. These are the modules in them in turn, each with the
-- outcome of its evaluation.
pub record IsWalk (site : Site) (dirs : List Text) (outcomes : List Evaluated) : Type 0 where
  pub directories : AreDirectories site dirs
  pub order : dirs ≡ without_repeats (first_directories site ++ flat_map directories_of outcomes)
  pub within : length dirs ≤ most_directories
  pub modules : AreModulesIn site dirs (map (λ outcome. outcome.0) outcomes)
  pub evaluated : (outcome : Evaluated) → IsAmong outcome outcomes → EvaluatesTo site outcome.0 outcome.1

-- ---- what the code has for them

-- What a module with these records and these reads uses, without the reads where a question doesn't have a stable
-- answer: what a file reads and uses is such a question.
abbrev pub uses_told : List Record → Bool → List Text → List UsedVariable
uses_told rs kept reads = uses_with rs (if kept then reads else [])

-- so for these evaluations
abbrev pub uses_in : FileRuns RequestReason → List UsedVariable
uses_in runs = uses_told runs.first.records (have_stable_answers runs) (without_repeats (reads_in runs))

-- these uses are of the variable in these two ways
abbrev pub AreUsedTwice : List UsedVariable → UnlikeUses → Type 0
AreUsedTwice ps unlike = IsUsedTwice ps (string_bytes unlike.variable) (use_view unlike.one) (use_view unlike.other)

-- What the code has of the evaluations of a file is of these: the records of the first, the first of its questions that
-- doesn't have a stable answer, and two ways in which the file uses one variable, unless it is consistent.
pub record IsOfRuns (file : EvaluatedFile) (runs : FileRuns RequestReason) : Type 0 where
  pub records : map record_view file.records.items ≡ runs.first.records
  pub unkept : option_map question_view file.unkept
      ≡ find (λ q. not (has_stable_answer (are_runs_equivalent runs) runs.first.records q)) runs.first.asked
  pub unlike : MatchOption file.unlike (are_consistent (uses_in runs) ≡ true) (AreUsedTwice (uses_in runs))

-- It stands for their outcome: for what they leave, or the reason of the refusal.
abbrev pub IsOutcome : Result EvaluatedFile Refusal → Result (FileRuns RequestReason) RequestReason → Type 0
IsOutcome (Ok file) outcome = (runs : FileRuns RequestReason) × (outcome ≡ Ok runs) × IsOfRuns file runs
IsOutcome (Err refusal) outcome = (reason : RequestReason) × (cause_of refusal ≡ because reason)
    × (outcome ≡ Err reason)

-- the same of a module
pub record IsEvaluation (evaluation : Evaluation) (evaluated : Evaluated) : Type 0 where
  pub name : evaluated.0.name ≡ string_bytes evaluation.name
  pub path : evaluated.0.path ≡ string_bytes evaluation.path
  pub outcome : IsOutcome evaluation.outcome evaluated.1
  pub reads : texts_in evaluation.reads ≡ without_repeats (reads_of evaluated)

-- the same of each module, in their order
abbrev pub AreEvaluations : List Evaluation → List Evaluated → Type 0
AreEvaluations [] [] = Unit {0}
AreEvaluations [] (outcome ∷ outcomes) = ⊥
AreEvaluations (evaluation ∷ evaluations) [] = ⊥
AreEvaluations (evaluation ∷ evaluations) (outcome ∷ outcomes) =
    IsEvaluation evaluation outcome × AreEvaluations evaluations outcomes

-- What is answered is a walk over the site.
abbrev pub IsWalkAnswer : Site → SiteWalk → Type 0
IsWalkAnswer site found =
    (outcomes : List Evaluated) × IsWalk site (texts_in found.directories) outcomes
    × AreEvaluations found.evaluations.items outcomes

-- more directories of the site than a walk goes through, each of them once
pub record HasTooMany (site : Site) : Type 0 where
  pub some : List Text
  pub distinct : are_distinct some ≡ true
  pub many : most_directories < length some
  pub directories : (dir : Text) → IsAmong dir some → IsDirectory site dir

-- Why there is no answer, each fault with its cause: memory ran out, which can always be; the device failed in the
-- call; the loaded lists don't fit together; or the site has too many directories.
abbrev pub HasCause : (Files → Listings → Type 0) → Type 0 → Limits → Environment → WalkFault → Type 0
HasCause agrees failed limits env (Refused refusal) =
    Applies (cause_of refusal) failed (λ reason. (reason ≡ refused_edit (bad_edit edits.inconsistent)) ×
    (loaded_in env ≡ None))
HasCause agrees failed limits env TooManyDirectories =
    InEachPair agrees (λ files listings. HasTooMany (site_of limits env files listings))
