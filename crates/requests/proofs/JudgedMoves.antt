-- A session of modules that were judged plain is one of plain files, whose records unloading undoes.
use Rattle.std.proofs.Common.{◌≡◌, true, List, [], ◌∷◌, ◌++◌, sym, subst}
use Rattle.std.specs.List.{list_all}
use Rattle.envvars.specs.Texts.{Text}
use Rattle.modulefile.specs.Moves.{Module, Move, Loads, Unloads}
use Rattle.modulefile.specs.Files.{Ran}
use Rattle.modulefile.specs.Laws.{PlainFilesAgree}
use Rattle.reversal.specs.VariableUses.{VariableUse, is_reversible}
use Rattle.reversal.specs.Runs.{without_live, IsReversibleAndApart}
use Rattle.reversal.proofs.Parts.{all_suit, all_return}
use Rattle.requests.specs.Steps.{RequestContext}
use Rattle.requests.specs.Sessions.{session_moves}
use Rattle.requests.specs.PlainRuns.{HasEvaluatedTo, IsPlain, ArePlain}
use Rattle.requests.specs.JudgedRuns.{IsJudgedPlain, IsApart, AreJudged, JudgedIsReversible, JudgedSessionsReturn}
use Rattle.requests.specs.Laws.{PlainSessionsReturn}
use Rattle.requests.proofs.Judging.{judged_left}
use Rattle.requests.proofs.Origins.{IsFrom, AllFrom}
use Rattle.requests.proofs.PlainMoves.{same_records, moved_left, session_from}

-- the result of the evaluation of the verdict, at the module's own name and path
judged_of : (s : RequestContext) (name path : Text) → IsJudgedPlain s name path → (ran : Ran) × HasEvaluatedTo s name path ran × (ran.asked ≡ []) × (list_all is_reversible ran.records ≡ true)
judged_of s name path j =
    let (m, found, ran, left, unasked, undone) = judged_left s j.env j.typed j.judged in
    let at = j.means m found in
    (ran, moved_left s m.name name m.path path ran at.0 at.1 left, unasked, undone)

pub judged_is_reversible : PlainFilesAgree → JudgedIsReversible
judged_is_reversible agree s name path other j left =
    let (ran, judged, unasked, undone) = judged_of s name path j in
    subst (λ rs. list_all is_reversible rs ≡ true) (sym (same_records agree s name path ran other judged unasked left)) undone

plain_load : PlainFilesAgree → (s : RequestContext) (uses : Text → VariableUse) (live : List Module) (m : Module)
    → IsFrom s m → IsApart uses live m → IsJudgedPlain s m.name m.path → IsReversibleAndApart uses live m
    × IsPlain s m.name m.path
plain_load agree s uses live m (other, left, is) apart j =
    let (ran, judged, unasked, undone) = judged_of s m.name m.path j in
    let again : list_all is_reversible m.records ≡ true = subst (λ rs. list_all is_reversible rs ≡ true) (sym is) (judged_is_reversible agree s m.name m.path other j left) in
    (record { suits = all_suit uses m.records (all_return m.records again) apart.follow_uses; sets_apart = apart.sets_apart }, (ran, judged, unasked))

are_plain : PlainFilesAgree → (s : RequestContext) (uses : Text → VariableUse) (ms : List Move) (live : List Module) → AllFrom s ms → AreJudged s uses live ms → ArePlain s uses live ms
are_plain agree s uses [] live from judged = tt
are_plain agree s uses (Loads m ∷ ms) live from judged = (plain_load agree s uses live m from.0 judged.0.0 judged.0.1, are_plain agree s uses ms (m ∷ live) from.1 judged.1)
are_plain agree s uses (Unloads m ∷ ms) live from judged = are_plain agree s uses ms (without_live m.name live) from.1 judged

pub judged_sessions_return : PlainFilesAgree → PlainSessionsReturn → JudgedSessionsReturn
judged_sessions_return agree returns uses s start rs before after begin session news judged =
    let os = before ++ after in
    returns uses s start rs before after begin session news (are_plain agree s uses (session_moves os) [] (session_from s start rs os session) judged)
