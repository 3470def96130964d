-- Runs of digits and pieces of versions, as the code has them: for this crate's own contracts.
use Rattle.std.specs.Prelude.{◌≡◌, ℕ, Bool, true, false, ◌==◌, List, [], ◌∷◌}
use Rattle.std.specs.List.{list_all}
use Rattle.modulename.specs.Versions.{zero_digit, is_digit, with_digit, Piece, run, other}
use Rattle.modulename.specs.declared.piece.Piece as rust_piece
use Rattle.modulename.specs.declared.piece.Piece.TheVariants.{Run, Other}

-- the number whose digits are those of n and then these
abbrev pub number_after : ℕ → List ℕ → ℕ
number_after n [] = n
number_after n (d ∷ ds) = number_after (with_digit n d) ds

-- the number of a run of digits
abbrev pub number_of : List ℕ → ℕ
number_of ds = number_after 0 ds

abbrev pub are_digits : List ℕ → Bool
are_digits ds = list_all is_digit ds

abbrev pub begins_digit : List ℕ → Bool
begins_digit [] = false
begins_digit (b ∷ bs) = is_digit b

abbrev pub begins_zero : List ℕ → Bool
begins_zero [] = false
begins_zero (b ∷ bs) = b == zero_digit

-- the piece of the definitions that a piece of the code stands for
abbrev pub piece_view : rust_piece.Piece → Piece
piece_view (Run digits) = run (number_of digits.now)
piece_view (Other byte) = other byte

-- a run has digits alone, and another byte is no digit
abbrev pub IsPiece : rust_piece.Piece → Type 0
IsPiece (Run digits) = are_digits digits.now ≡ true
IsPiece (Other byte) = is_digit byte ≡ false
