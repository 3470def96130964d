-- What is written accounts for each command of a file (own): the file is cut into parts, a piece is written for each, and a
-- part of which nothing is said is written as it is.
use Rattle.std.specs.Prelude.{◌≡◌, List, [], ◌∷◌, ◌++◌, Bool, false, flat_map}
use Rattle.tcltext.specs.chars.Runs.{Text}

-- what is written for a part of a file, and whether something is said of it
pub record Piece : Type 0 where
  pub text : Text
  pub is_said : Bool

-- a part of which nothing is said stays
abbrev pub Stays : Text → Piece → Type 0
Stays part p = p.is_said ≡ false → p.text ≡ part

-- the pieces are written for these parts, one for one
abbrev pub AreFor : List Text → List Piece → Type 0
AreFor [] [] = Unit {0}
AreFor [] (p ∷ pieces) = ⊥
AreFor (part ∷ parts) [] = ⊥
AreFor (part ∷ parts) (p ∷ pieces) = Stays part p × AreFor parts pieces

abbrev pub joined : List Text → Text
joined parts = flat_map (λ part. part) parts

-- the pieces are written for parts of a text, which are all of it but for a rest
abbrev pub Accounts : Text → List Piece → Text → Type 0
Accounts text pieces rest = (parts : List Text) × AreFor parts pieces × (joined parts ++ rest ≡ text)

-- nothing is said of any part
abbrev pub AreUnsaid : List Piece → Type 0
AreUnsaid [] = Unit {0}
AreUnsaid (p ∷ pieces) = (p.is_said ≡ false) × AreUnsaid pieces

-- what is written
abbrev pub written : List Piece → Text
written pieces = flat_map (λ p. p.text) pieces
