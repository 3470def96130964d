-- The laws of rehearsals (own).
use Rattle.std.specs.Prelude.{List, Option}
use Rattle.envvars.specs.Texts.{Text}
use Rattle.envvars.specs.Environment.{Environment}
use Rattle.requests.specs.Requests.{Request}
use Rattle.requests.specs.Steps.{RequestContext}
use Rattle.modules.specs.rehearsals.Rehearsals.{MakesSession, TextsReturnToStart}

-- In each rehearsal, shells that run its texts hold what its session has.
abbrev pub RehearsalsMakeSessions : Type 0
RehearsalsMakeSessions =
    (s : RequestContext) (e : Environment) (rs : List Request) (ps : List (Option Text)) (end : Environment)
    → MakesSession s e rs ps end

-- In each rehearsal that ends with no live module, shells that run its texts hold the start.
abbrev pub RehearsalsReturn : Type 0
RehearsalsReturn =
    (s : RequestContext) (start : Environment) (rs : List Request) (ps : List (Option Text)) (end : Environment)
    → TextsReturnToStart s start rs ps end
