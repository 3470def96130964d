-- Runs of requests are runs of their moves.
use Rattle.std.proofs.Common.{◌≡◌, List, [], ◌∷◌, ◌++◌, refl, sym, ap, ◌∙◌, subst}
use Rattle.envvars.specs.Environment.{Environment}
use Rattle.modulefile.specs.Moves.{Move, MovesReach}
use Rattle.modulefile.proofs.Moved.{reach_composes}
use Rattle.reversal.specs.Runs.{AreReversible}
use Rattle.reversal.specs.Requests.{RequestOutcome, accepted, refused, moves_of, all_moves, RequestReaches}
use Rattle.reversal.specs.Requests.{RequestsReach}
use Rattle.reversal.specs.Laws.{RequestsReturn}
use Rattle.reversal.proofs.WholeRuns.{runs_return, front_reversible}

comes_by : (o : RequestOutcome) (old new : Environment) → RequestReaches o old new → MovesReach (moves_of o) old new
comes_by (accepted moves) old new h = h
comes_by refused old new h = h

moves_by_requests : (os : List RequestOutcome) (old new : Environment) → RequestsReach os old new → MovesReach (all_moves os) old new
moves_by_requests [] old new h = h
moves_by_requests (o ∷ os) old new h = reach_composes (moves_of o) (all_moves os) old h.0 new (comes_by o old h.0 h.1) (moves_by_requests os h.0 new h.2)

run_parts : (done rest : List RequestOutcome) (old new : Environment) → RequestsReach (done ++ rest) old new → (mid : Environment) × RequestsReach done old mid × RequestsReach rest mid new
run_parts [] rest old new h = (old, refl, h)
run_parts (o ∷ done) rest old new h = let p = run_parts done rest h.0 new h.2 in (p.0, (h.0, h.1, p.1), p.2)

joined : (a b c : List Move) → (a ++ b) ++ c ≡ a ++ (b ++ c)
joined [] b c = refl
joined (m ∷ a) b c = ap (λ (l : List Move). m ∷ l) (joined a b c)

moves_parts : (done rest : List RequestOutcome) → all_moves (done ++ rest) ≡ all_moves done ++ all_moves rest
moves_parts [] rest = refl
moves_parts (o ∷ done) rest = ap (λ (l : List Move). moves_of o ++ l) (moves_parts done rest) ∙ sym (joined (moves_of o) (all_moves done) (all_moves rest))

pub requests_return : RequestsReturn
requests_return uses b e done rest s r h =
    let p = run_parts done rest b e h in
    let f = front_reversible uses [] (all_moves done) (all_moves rest) (subst (AreReversible uses []) (moves_parts done rest) r) in
    (p.0, p.1, p.2, runs_return uses b p.0 (all_moves done) s f (moves_by_requests done b p.0 p.1))
