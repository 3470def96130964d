-- Verdicts (own): whether a modulefile makes the same records wherever it is evaluated, and can be undone.
use Rattle.std.specs.Prelude.{◌≡◌, List, true, false, if◌then◌else◌, Result, Ok}
use Rattle.std.specs.List.{list_all}
use Rattle.envvars.specs.Texts.{Text}
use Rattle.envvars.specs.Environment.{Environment}
use Rattle.envstate.specs.loaded_list.Loaded.{Entry}
use Rattle.shelltext.specs.declared.shell.Shell.TheVariants.{Sh}
use Rattle.filetree.specs.Relations.{Is, ◌>>◌}
use Rattle.modulefile.specs.Effects as modes
use Rattle.modulefile.specs.Answers.{FileContext}
use Rattle.modulefile.specs.Files.{Ran, any_question, FileReason, RunsFile, IsSameOrRefused}
use Rattle.search.specs.Found as search
use Rattle.reversal.specs.VariableUses.{is_reversible}
use Rattle.requests.specs.Refusals.{RefusedAs}
use Rattle.requests.specs.Reasons.{RequestReason, file_refused}
use Rattle.requests.specs.Steps.{RequestContext, entries_of, Finds, context_of}
use Rattle.requests.specs.Sessions.{in_shell}

-- what one evaluation of a modulefile shows about all others
pub data Verdict : Type 0 where
  -- it asked nothing, and unloading undoes its records
  plain : Verdict
  -- it asked about the environment, the mode, the shell, the typed name or the loaded modules
  asked : Verdict
  -- it asked nothing, and has a record that unloading doesn't undo
  one_way : Verdict

-- the verdict by the result of the evaluation
abbrev pub verdict_of : Ran → Verdict
verdict_of ran = if any_question ran.asked then asked else if list_all is_reversible ran.records then plain else one_way

-- the context of a verdict: for loading, in sh
abbrev pub verdict_context : RequestContext → Text → search.FoundModule → List Entry → Environment → FileContext
verdict_context s name m xs e = context_of (in_shell s Sh) modes.load false name m.name m.path xs e

-- The verdict on the module that a name means. Its file is evaluated for loading in sh, and the typed name is this
-- name. Conflicts and prereqs aren't judged.
abbrev pub HasVerdict : RequestContext → Environment → Text → Result Verdict RequestReason → Type 0
HasVerdict s e name =
    Is (entries_of e) >> (λ xs.
    Finds s e name >> (λ m.
    RefusedAs file_refused (RunsFile s.limits (verdict_context s name m xs e) m.text) >> (λ ran.
    Is (Ok (verdict_of ran)))))

-- In every context of this module, whatever the mode, the environment, the shell, the typed name and the loaded
-- modules, its file makes these records or is refused.
abbrev pub AlwaysRecords : RequestContext → search.FoundModule → Ran → Type 0
AlwaysRecords s m ran =
    (c : FileContext) (o : Result Ran FileReason) → c.name ≡ m.name → c.path ≡ m.path → RunsFile s.limits c m.text o
    → IsSameOrRefused ran o

-- A module has one verdict at most.
abbrev pub OneVerdict : Type 0
OneVerdict =
    (s : RequestContext) (e : Environment) (name : Text) (o p : Result Verdict RequestReason)
    → HasVerdict s e name o → HasVerdict s e name p → o ≡ p

-- A module that is judged plain makes the same records always, and unloading undoes each of them.
abbrev pub PlainHolds : Type 0
PlainHolds =
    (s : RequestContext) (e : Environment) (name : Text) → HasVerdict s e name (Ok plain)
    → (m : search.FoundModule) × (ran : Ran) × Finds s e name (Ok m)
    × (list_all is_reversible ran.records ≡ true) × AlwaysRecords s m ran
