-- Moves that were accepted.
use Rattle.std.proofs.Common.{◌≡◌, List, [], ◌∷◌, ◌++◌, Ok, ap, sym}
use Rattle.envvars.specs.Environment.{Environment}
use Rattle.modulefile.specs.Effects.{effects}
use Rattle.modulefile.specs.Moves.{Move, module_of_move, mode_of, entry_moved, moved, all_moved, IsAllowed, AreAllowed}
use Rattle.modulefile.specs.Moves.{MovesReach}
use Rattle.modulefile.proofs.Effected.{parts, whole, all_allowed}

pub moved_allowed : (m : Move) (old new : Environment) → moved m old ≡ Ok new → IsAllowed m
moved_allowed m old new h =
    let p = parts (effects (mode_of m) (module_of_move m).name (module_of_move m).records old) (entry_moved m) new h in
    all_allowed (mode_of m) (module_of_move m).name (module_of_move m).records old p.0 p.1

pub reach_allowed : (ms : List Move) (old new : Environment) → MovesReach ms old new → AreAllowed ms
reach_allowed [] old new h = tt
reach_allowed (m ∷ ms) old new h = (moved_allowed m old h.1.0 h.1.1, reach_allowed ms h.1.0 new h.1.2)

pub reach_made : (ms : List Move) (old new : Environment) → MovesReach ms old new → all_moved ms old ≡ Ok new
reach_made [] old new h = ap (λ x. Ok x) (sym h)
reach_made (m ∷ ms) old new h = whole (moved m old) (all_moved ms) h.1.0 new h.1.1 (reach_made ms h.1.0 new h.1.2)

pub reach_composes : (ms more : List Move) (old mid new : Environment) → MovesReach ms old mid → MovesReach more mid new → MovesReach (ms ++ more) old new
reach_composes [] more old mid new h k = rw (sym h) k
reach_composes (m ∷ ms) more old mid new h k = (h.0, (h.1.0, h.1.1, reach_composes ms more h.1.0 mid new h.1.2 k))
