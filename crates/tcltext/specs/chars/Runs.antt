-- Texts, and the runs of bytes that they begin with.
use Rattle.std.specs.Prelude.{ℕ, List, [], ◌∷◌, Bool, false, ◌==◌, if◌then◌else◌}

-- a text is its bytes
abbrev pub Text : Type 0
Text = List ℕ

-- the longest run that passes the test and that the text begins with
abbrev pub take_while : (ℕ → Bool) → Text → Text
take_while p [] = []
take_while p (b ∷ bs) = if p b then b ∷ take_while p bs else []

-- the rest after that run
abbrev pub drop_while : (ℕ → Bool) → Text → Text
drop_while p [] = []
drop_while p (b ∷ bs) = if p b then drop_while p bs else b ∷ bs

-- the text begins with this byte
abbrev pub begins : ℕ → Text → Bool
begins mark [] = false
begins mark (b ∷ bs) = b == mark
