-- Stars that are reached in a pattern, with what remains of the text.
use Rattle.std.specs.Prelude.{ℕ, ◌+◌, ◌<◌, List, ◌∷◌, length, true, false, IsTrue}
use Rattle.std.specs.Str.{chars, IsUtf8}
use Rattle.tcltext.specs.pattern.Patterns.{star, IsMatch}
use Rattle.tcltext.specs.pattern.Search.Steps.{StepsToStar}
use Rattle.tcltext.specs.declared.pattern.position.Position.{Position}
use Rattle.tcltext.specs.declared.pattern.position.UpToStar.{UpToStar}
use Rattle.tcltext.specs.declared.pattern.position.UpToStar.TheVariants.{Matches, Differs, Star}

-- the pattern from the star on matches what remains of the text
abbrev pub StarMatches : Position → Type 0
StarMatches p = IsMatch (star ∷ chars p.pattern.now) (chars p.text.now)

-- what remains of the pattern and of the text is in UTF-8
abbrev pub IsUtf8Position : Position → Type 0
IsUtf8Position p = IsUtf8 p.pattern.now × IsUtf8 p.text.now

-- the text matches, by how the reading ends
abbrev pub UpToStarMatches : UpToStar → Type 0
UpToStarMatches Matches = IsTrue true
UpToStarMatches Differs = IsTrue false
UpToStarMatches (Star p) = StarMatches p

-- what remains where a star is reached is in UTF-8
abbrev pub UpToStarIsUtf8 : UpToStar → Type 0
UpToStarIsUtf8 Matches = Unit {0}
UpToStarIsUtf8 Differs = Unit {0}
UpToStarIsUtf8 (Star p) = IsUtf8Position p

-- where a star is reached, the pattern and the text are read up to it
abbrev pub StepsAs : List ℕ → List ℕ → UpToStar → Type 0
StepsAs ps cs Matches = Unit {0}
StepsAs ps cs Differs = Unit {0}
StepsAs ps cs (Star p) = StepsToStar ps cs (chars p.pattern.now) (chars p.text.now)

-- where a star is reached, fewer bytes than that remain
abbrev pub UpToStarIsShorter : ℕ → UpToStar → Type 0
UpToStarIsShorter n Matches = Unit {0}
UpToStarIsShorter n Differs = Unit {0}
UpToStarIsShorter n (Star p) = length p.pattern.now + length p.text.now < n
