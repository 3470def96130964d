-- Runs of modules whose files are plain (own): that an unload undoes what its load did is then no premise.
use Rattle.std.specs.Prelude.{◌≡◌, List, [], ◌∷◌, Ok}
use Rattle.envvars.specs.Texts.{Text}
use Rattle.envvars.specs.Environment.{Environment}
use Rattle.filetree.specs.Modulefiles.{script, modulefile}
use Rattle.modulefile.specs.Moves.{Module, Move, Loads, Unloads}
use Rattle.modulefile.specs.Answers.{FileContext}
use Rattle.modulefile.specs.Files.{Ran, RunsFile}
use Rattle.reversal.specs.VariableUses.{VariableUse}
use Rattle.reversal.specs.Runs.{without_live, IsReversibleAndApart}
use Rattle.search.specs.Found as search
use Rattle.requests.specs.Steps.{RequestContext, Finds}
use Rattle.requests.specs.Verdicts.{plain, HasVerdict}

-- an evaluation of the file at this path, as the module of this name, had this result
pub record HasEvaluatedTo (s : RequestContext) (name path : Text) (ran : Ran) : Type 0 where
  pub text : Text
  pub file : modulefile (s.files path) ≡ script text
  pub context : FileContext
  pub named : context.name ≡ name
  pub at_path : context.path ≡ path
  pub runs : RunsFile s.limits context text (Ok ran)

-- The module is plain: one such evaluation asked nothing of its environment.
abbrev pub IsPlain : RequestContext → Text → Text → Type 0
IsPlain s name path = (ran : Ran) × HasEvaluatedTo s name path ran × (ran.asked ≡ [])

-- Each load is of a module that is reversible and apart from the live ones, and whose file is plain.
abbrev pub ArePlain : RequestContext → (Text → VariableUse) → List Module → List Move → Type 0
ArePlain s uses live [] = Unit {0}
ArePlain s uses live (Loads m ∷ ms) = (IsReversibleAndApart uses live m × IsPlain s m.name m.path) × ArePlain s uses
    (m ∷ live) ms
ArePlain s uses live (Unloads m ∷ ms) = ArePlain s uses (without_live m.name live) ms

-- A module that is judged plain is plain.
abbrev pub JudgedIsPlain : Type 0
JudgedIsPlain =
    (s : RequestContext) (e : Environment) (name : Text) → HasVerdict s e name (Ok plain)
    → (m : search.FoundModule) × Finds s e name (Ok m) × IsPlain s m.name m.path
