-- Moves of the program, as the definitions see them.
use Rattle.std.specs.Prelude.{List, [], ◌∷◌, ◌++◌, map, string_bytes}
use Rattle.modulefile.specs.Moves as moves
use Rattle.modulefile.specs.RecordViews.{record_view}
use Rattle.modules.specs.declared.done.Module.{Module}
use Rattle.modules.specs.declared.done.Move.{Move}
use Rattle.modules.specs.declared.done.Move.TheVariants as code
use Rattle.modules.specs.declared.done.RememberedMoves.{RememberedMoves}
use Rattle.modules.specs.declared.done.RememberedMoves.TheVariants as remembered

-- the module: its name, path and records
abbrev pub module_view : Module → moves.Module
module_view m =
    record { name = string_bytes m.name; path = string_bytes m.path; records = map record_view m.records.items }

-- the move: the module that it loads or unloads
abbrev pub move_view : Move → moves.Move
move_view (code.Loads m) = moves.Loads (module_view m)
move_view (code.Unloads m) = moves.Unloads (module_view m)

-- the moves in order
abbrev pub moves_of : RememberedMoves → List moves.Move
moves_of remembered.Empty = []
moves_of (remembered.WithLast' shape before last) = moves_of before ++ move_view last.value ∷ []
