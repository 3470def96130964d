-- Pieces of the code as the definitions have them.
use Rattle.std.specs.Prelude.{List, [], ◌∷◌, Bool, true, false, map, string_bytes}
use Rattle.port_rewriting.specs.Accounts as accounts
use Rattle.port_rewriting.specs.declared.class.Note.{Note}
use Rattle.port_rewriting.specs.declared.pieces.TranslatedPiece.{TranslatedPiece}

abbrev pub has_notes : List Note → Bool
has_notes [] = false
has_notes (n ∷ notes) = true

abbrev pub piece_view : TranslatedPiece → accounts.Piece
piece_view p = record { text = string_bytes p.text; is_said = has_notes p.notes.items }

abbrev pub pieces_view : List TranslatedPiece → List accounts.Piece
pieces_view ps = map piece_view ps
