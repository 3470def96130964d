use Rattle.std.proofs.Common.{◌≡◌, List, [], ◌++◌, sym, subst, append-nil}
use Rattle.envvars.specs.Environment.{Environment}
use Rattle.requests.specs.Returning.{AreNew, AreReversibleBeside}
use Rattle.requests.specs.Sessions.{Response, Session, session_moves}
use Rattle.shelltext.specs.Sequences.{TextsMake}
use Rattle.modules.specs.rehearsals.Rehearsals.{runs_of}
use Rattle.modules.proofs.rehearsals.Chain.{whole}
use Rattle.modules.proofs.rehearsals.laws.texts_return_to_start.Goals as goal

pub returns : goal.returns
returns c s start rs ps end uses h begins new fitting none =
    let os = h.responses in
    let same : os ≡ os ++ [] = sym (append-nil os) in
    let IsSession : List Response → Type 0 = λ all. Session s start rs all in
    let IsNewHere : List Response → Type 0 = λ all. AreNew start (session_moves all) in
    let IsFittingHere : List Response → Type 0 = λ all. AreReversibleBeside uses [] (session_moves all) in
    let holds = c.session_returns.ensures uses s start rs os [] begins (subst IsSession same h.session) (subst IsNewHere same new) (subst IsFittingHere same fitting) in
    let Made : Environment → Type 0 = λ e. TextsMake (runs_of rs ps) start e in
    subst Made (holds.returned none) (whole c.difference_makes.ensures s start rs os ps h.prints)
