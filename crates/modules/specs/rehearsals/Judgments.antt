-- The verdicts on the modules that a session loaded, in its first environment (own).
use Rattle.std.specs.Prelude.{◌≡◌, ℕ, ◌+◌, List, [], ◌∷◌, Result, Ok, Err, string_bytes}
use Rattle.std.specs.List.{Any}
use Rattle.envvars.specs.Texts.{Text}
use Rattle.envvars.specs.Environment.{Environment}
use Rattle.envvars.specs.Fields.{without_repeats}
use Rattle.filetree.specs.Agreement.{Files, Listings}
use Rattle.requests.specs.Looked.{SearchLooksAt}
use Rattle.modulefile.specs.Moves.{loaded_names}
use Rattle.tclrules.specs.declared.limits.Limits.{Limits}
use Rattle.requests.specs.Sessions.{Response, session_moves}
use Rattle.requests.specs.Steps.{RequestContext}
use Rattle.requests.specs.Verdicts.{HasVerdict}
use Rattle.modules.specs.Answers.{StepAnswersOverTree, cause_of}
use Rattle.modules.specs.Verdicts.{verdict_view, in_sh}
use Rattle.modules.specs.declared.judged.Verdict.{Verdict}
use Rattle.modules.specs.declared.refusal.Refusal.{Refusal}
use Rattle.modules.specs.Responses.{count_cause}
use Rattle.modules.specs.declared.rehearsals.judging.ModuleVerdict.{ModuleVerdict}

-- the full names of the modules that were loaded, each once, in the order of the first load
abbrev pub names_loaded : List Response → List Text
names_loaded os = without_repeats (loaded_names (session_moves os))

-- the verdict on the module of this name, or the refusal that it has in place of one
abbrev pub IsJudgment : (Files → Listings → Type 0) → Type 0 → Limits → Environment → Text → ModuleVerdict → Type 0
IsJudgment agrees failed limits e name judgment =
    (string_bytes judgment.name ≡ name)
    × StepAnswersOverTree agrees failed verdict_view judgment.verdict
    (λ files listings. HasVerdict (in_sh limits files listings) e name)

-- the verdicts on the modules of these names, one for each, in order
abbrev pub AreJudgments : (Files → Listings → Type 0) → Type 0 → Limits → Environment → List Text → List ModuleVerdict
    → Type 0
AreJudgments agrees failed limits e [] [] = Unit {0}
AreJudgments agrees failed limits e [] (j ∷ js) = ⊥
AreJudgments agrees failed limits e (name ∷ names) [] = ⊥
AreJudgments agrees failed limits e (name ∷ names) (j ∷ js) =
    IsJudgment agrees failed limits e name j × AreJudgments agrees failed limits e names js

-- one for a module that has no verdict because the device failed
abbrev pub count_unjudged : Result Verdict Refusal → ℕ
count_unjudged (Ok verdict) = 0
count_unjudged (Err refusal) = count_cause (cause_of refusal)

-- how many modules have no verdict because the device failed
abbrev pub count_failed_judgments : List ModuleVerdict → ℕ
count_failed_judgments [] = 0
count_failed_judgments (j ∷ js) = count_unjudged j.verdict + count_failed_judgments js

-- The search for one of these names looks at this path.
abbrev pub NamesLookAt : RequestContext → Environment → List Text → Text → Type 0
NamesLookAt s e names at = Any (λ name. SearchLooksAt s e name at) names
