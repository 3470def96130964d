-- Sessions and commands of new modules that are reversible and apart, by the laws of runs.
use Rattle.std.proofs.Common.{◌≡◌, List, [], ◌∷◌, ◌++◌, refl, ap, sym, ◌∙◌, subst}
use Rattle.envvars.specs.Texts.{Text}
use Rattle.envvars.specs.Environment.{Environment}
use Rattle.modulefile.specs.Moves.{Module, Move, Loads, Unloads, MovesReach}
use Rattle.reversal.specs.VariableUses.{VariableUse}
use Rattle.reversal.specs.Runs.{without_live}
use Rattle.reversal.specs.Requests as moves
use Rattle.reversal.specs.Laws.{RunsReturn, MovesPreserve}
use Rattle.requests.specs.Requests.{Request}
use Rattle.requests.specs.Steps.{RequestContext}
use Rattle.requests.specs.Sessions.{Response, env_after, end_environment, Session, outcome_of, session_moves}
use Rattle.requests.specs.Returning.{AreNew, AreReversibleBeside}
use Rattle.requests.specs.Laws.{StepsReach, SessionsReach, SessionsReturn, CommandsReturn}
use Rattle.requests.proofs.Undone.{reversible}

front_session : (s : RequestContext) (e : Environment) (rs : List Request) (before after : List Response) → Session s e rs (before ++ after) → (qs : List Request) × Session s e qs before
front_session s e rs [] after h = ([], tt)
front_session s e [] (o ∷ before) after h = absurd h
front_session s e (r ∷ rs) (o ∷ before) after h =
    let p = front_session s (env_after e o) rs before after h.1 in (r ∷ p.0, (h.0, p.1))

joined : (a b c : List Move) → (a ++ b) ++ c ≡ a ++ (b ++ c)
joined [] b c = refl
joined (m ∷ a) b c = ap (λ (l : List Move). m ∷ l) (joined a b c)

moves_parts : (before after : List Response) → session_moves (before ++ after) ≡ session_moves before ++ session_moves after
moves_parts [] after = refl
moves_parts (o ∷ before) after =
    ap (λ (l : List Move). moves.moves_of (outcome_of o) ++ l) (moves_parts before after)
    ∙ sym (joined (moves.moves_of (outcome_of o)) (session_moves before) (session_moves after))

front_new : (start : Environment) (ms ns : List Move) → AreNew start (ms ++ ns) → AreNew start ms
front_new start [] ns h = tt
front_new start (m ∷ ms) ns h = (h.0, front_new start ms ns h.1)

front_fitting : (uses : Text → VariableUse) (live : List Module) (ms ns : List Move) → AreReversibleBeside uses live (ms ++ ns) → AreReversibleBeside uses live ms
front_fitting uses live [] ns h = tt
front_fitting uses live (Loads m ∷ ms) ns h = (h.0, front_fitting uses (m ∷ live) ms ns h.1)
front_fitting uses live (Unloads m ∷ ms) ns h = (h.0, front_fitting uses (without_live m.name live) ms ns h.1)

pub commands_return : StepsReach → MovesPreserve → CommandsReturn
commands_return leads step_law uses s start e live asked d begin order start_with_live fit step news fitting =
    let reach = leads s e asked d step in
    step_law uses start e d.env live d.moves begin order start_with_live fit
    (reversible step_law uses start begin d.moves live e d.env order start_with_live fit news fitting reach) reach

pub sessions_return : SessionsReach → RunsReturn → MovesPreserve → SessionsReturn
sessions_return leads runs step_law uses s start rs before after begin session news fitting =
    let f = front_session s start rs before after session in
    let ms = session_moves before in
    let reach : MovesReach ms start (end_environment start before) = leads s start f.0 before f.1 in
    let new : AreNew start ms = front_new start ms (session_moves after) (subst (λ (l : List Move). AreNew start l) (moves_parts before after) news) in
    let fits : AreReversibleBeside uses [] ms = front_fitting uses [] ms (session_moves after) (subst (λ (l : List Move). AreReversibleBeside uses [] l) (moves_parts before after) fitting) in
    let none = runs uses start start [] begin tt refl in
    runs uses start (end_environment start before) ms begin
    (reversible step_law uses start begin ms [] start (end_environment start before) none.order none.start_with_live tt new fits reach) reach
