-- Runs of modules that were judged plain (own): that they are reversible is then no premise.
use Rattle.std.specs.Prelude.{◌≡◌, true, List, [], ◌∷◌, ◌++◌, None, Result, Ok}
use Rattle.std.specs.List.{list_all}
use Rattle.std.specs.Option.{is_some}
use Rattle.envvars.specs.Texts.{Text}
use Rattle.envvars.specs.Environment.{Environment}
use Rattle.modulefile.specs.Moves.{Module, Move, Loads, Unloads}
use Rattle.modulefile.specs.Files.{Ran}
use Rattle.reversal.specs.VariableUses.{VariableUse, is_reversible, AllFollowUses}
use Rattle.reversal.specs.Live.{last_set, live_set}
use Rattle.reversal.specs.Starts.{IsStart}
use Rattle.reversal.specs.Runs.{live_after, without_live}
use Rattle.reversal.specs.Laws.{Holds}
use Rattle.search.specs.Found as search
use Rattle.requests.specs.Reasons.{RequestReason}
use Rattle.requests.specs.Requests.{Request}
use Rattle.requests.specs.Steps.{RequestContext, Finds}
use Rattle.requests.specs.Sessions.{Response, Session, end_environment, session_moves}
use Rattle.requests.specs.Returning.{AreNew}
use Rattle.requests.specs.Verdicts.{Verdict, plain, HasVerdict}
use Rattle.requests.specs.PlainRuns.{HasEvaluatedTo}

-- In some environment a name meant the module of this name and path, and the verdict on it was plain.
pub record IsJudgedPlain (s : RequestContext) (name path : Text) : Type 0 where
  pub env : Environment
  pub typed : Text
  pub judged : HasVerdict s env typed (Ok plain)
  pub means : (m : search.FoundModule) → Finds s env typed (Ok m) → (m.name ≡ name) × (m.path ≡ path)

-- The module is apart from the live ones: it uses each variable as all modules do, and sets or unsets none that a live
-- module sets or unsets.
pub record IsApart (uses : Text → VariableUse) (live : List Module) (m : Module) : Type 0 where
  pub follow_uses : AllFollowUses uses m.records
  pub sets_apart : (v : Text) → is_some (last_set v m.records) ≡ true → live_set v live ≡ None

-- Each load is of a module that is apart from the live ones, and that was judged plain.
abbrev pub AreJudged : RequestContext → (Text → VariableUse) → List Module → List Move → Type 0
AreJudged s uses live [] = Unit {0}
AreJudged s uses live (Loads m ∷ ms) =
    (IsApart uses live m × IsJudgedPlain s m.name m.path) × AreJudged s uses (m ∷ live) ms
AreJudged s uses live (Unloads m ∷ ms) = AreJudged s uses (without_live m.name live) ms

-- A name has a verdict, or a reason why there is none.
abbrev pub SomeVerdict : Type 0
SomeVerdict =
    (s : RequestContext) (e : Environment) (name : Text) → (o : Result Verdict RequestReason) × HasVerdict s e name o

-- Whatever records an evaluation of the file of such a module makes, unloading undoes them.
abbrev pub JudgedIsReversible : Type 0
JudgedIsReversible =
    (s : RequestContext) (name path : Text) (ran : Ran) → IsJudgedPlain s name path → HasEvaluatedTo s name path ran
    → list_all is_reversible ran.records ≡ true

-- A session of new modules that were judged plain and are apart, from a start in order: each environment of the session
-- is in order and is the start with the live modules layered on it. With none it is the start.
abbrev pub JudgedSessionsReturn : Type 0
JudgedSessionsReturn =
    (uses : Text → VariableUse) (s : RequestContext) (start : Environment) (rs : List Request)
    (before after : List Response)
    → IsStart uses start → Session s start rs (before ++ after)
    → AreNew start (session_moves (before ++ after)) → AreJudged s uses [] (session_moves (before ++ after))
    → Holds uses start (live_after [] (session_moves before)) (end_environment start before)
