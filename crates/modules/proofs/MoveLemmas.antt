-- The names that moves load, one move after the other.
use Rattle.std.proofs.Common.{◌≡◌, List, [], ◌∷◌, ◌++◌, refl, sym, ap, ◌∙◌}
use Rattle.std.specs.declared.snapshot.Snapshot.{Snapshot}
use Rattle.envvars.specs.Texts.{Text}
use Rattle.modulefile.specs.Moves as moves
use Rattle.modulefile.specs.Moves.{loaded_names}
use Rattle.modules.specs.declared.done.Move.{Move}
use Rattle.modules.specs.declared.done.RememberedMoves.{RememberedMoves, WithLast}
use Rattle.modules.specs.MoveViews.{move_view, moves_of}

names-append : (ms ns : List moves.Move) → loaded_names (ms ++ ns) ≡ loaded_names ms ++ loaded_names ns
names-append [] ns = refl
names-append (moves.Loads m ∷ ms) ns = ap (λ (l : List Text). m.name ∷ l) (names-append ms ns)
names-append (moves.Unloads m ∷ ms) ns = names-append ms ns

-- what was moved, where one move more was
pub moves_more : (before : Snapshot RememberedMoves) (last : Snapshot Move) (old : RememberedMoves) (m : Move)
    → before.value ≡ old → last.value ≡ m → moves_of (WithLast before last) ≡ moves_of old ++ move_view m ∷ []
moves_more before last old m was is =
    ap (λ (x : RememberedMoves). moves_of x ++ move_view last.value ∷ []) was
    ∙ ap (λ (x : Move). moves_of old ++ move_view x ∷ []) is

-- its names
pub named_on : (before after : List moves.Move) (names names' : List Text) (m : moves.Move)
    → names ≡ loaded_names before → after ≡ before ++ m ∷ [] → names' ≡ names ++ loaded_names (m ∷ [])
    → names' ≡ loaded_names after
named_on before after names names' m was more grown =
    grown ∙ (ap (λ (l : List Text). l ++ loaded_names (m ∷ [])) was ∙ (sym (names-append before (m ∷ [])) ∙ ap loaded_names (sym more)))
