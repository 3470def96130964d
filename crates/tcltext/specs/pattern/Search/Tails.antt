-- Rests of a pattern, and the sets in it.
use Rattle.std.specs.Prelude.{◌≡◌, ℕ, List, ◌++◌}
use Rattle.tcltext.specs.pattern.Patterns.{HoldsIn, IsMatch}

-- the first list ends with the second
abbrev pub IsTail : List ℕ → List ℕ → Type 0
IsTail xs ys = (prefix : List ℕ) × (xs ≡ prefix ++ ys)

-- the set does not hold the character
abbrev pub HoldsNowhere : ℕ → List ℕ → Type 0
HoldsNowhere c set = (rest : List ℕ) → HoldsIn c set rest → ⊥

-- the set holds the character, and the pattern continues with this alone
abbrev pub HoldsOnly : ℕ → List ℕ → List ℕ → Type 0
HoldsOnly c set rest = HoldsIn c set rest × ((other : List ℕ) → HoldsIn c set other → other ≡ rest)

-- the set holds the character, and the pattern continues with what matches the text
abbrev pub SetMatches : ℕ → List ℕ → List ℕ → Type 0
SetMatches c set cs = (rest : List ℕ) × HoldsIn c set rest × IsMatch rest cs
