-- Sets of the rests of a pattern, as bits in words of 64.
use Rattle.std.specs.Prelude.{◌≡◌, ℕ, ◌/◌, ◌%◌, List, ◌++◌, length, slice_index, ◌↔◌}
use Rattle.std.specs.Int.{bit_at}
use Rattle.tcltext.specs.pattern.Patterns.{IsMatch}

-- the bit at that index is set
abbrev pub Has : List ℕ → ℕ → Type 0
Has states at = bit_at (slice_index states (at / 64)) (at % 64) ≡ 1

-- for each rest of the pattern, the bit at its number of characters says whether it matches the text
abbrev pub StatesOf : List ℕ → List ℕ → List ℕ → Type 0
StatesOf ps cs states = (prefix xs : List ℕ) → ps ≡ prefix ++ xs → Has states (length xs) ↔ IsMatch xs cs
