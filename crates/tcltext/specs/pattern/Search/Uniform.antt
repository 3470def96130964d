-- Patterns in which what follows a set is the same for each character that the set holds: no range ends at a closing
-- bracket.
use Rattle.std.specs.Prelude.{ℕ, List, [], ◌∷◌, Bool, true, false, ◌==◌, if◌then◌else◌}
use Rattle.tcltext.specs.pattern.Patterns.{open_bracket, close_bracket, backslash, dash}
use Rattle.tcltext.specs.declared.pattern.star.ReadingState.{ReadingState}
use Rattle.tcltext.specs.declared.pattern.star.ReadingState.TheVariants.{Outside, Escaped, AtItem, AfterLow, AfterDash}
use Rattle.tcltext.specs.declared.pattern.star.ReadingState.TheVariants.{RangeToClose}

-- the state of the reading after the character
abbrev pub reading_after : ReadingState → ℕ → ReadingState
reading_after Outside c = if c == backslash then Escaped else if c == open_bracket then AtItem else Outside
reading_after Escaped c = Outside
reading_after AtItem c = if c == close_bracket then Outside else AfterLow
reading_after AfterLow c = if c == close_bracket then Outside else if c == dash then AfterDash else AfterLow
reading_after AfterDash c = if c == close_bracket then RangeToClose else AtItem
reading_after RangeToClose c = RangeToClose

-- the state after several characters
abbrev pub reading_of : ReadingState → List ℕ → ReadingState
reading_of r [] = r
reading_of r (c ∷ cs) = reading_of (reading_after r c) cs

-- no such range was read
abbrev pub is_closed : ReadingState → Bool
is_closed Outside = true
is_closed Escaped = true
is_closed AtItem = true
is_closed AfterLow = true
is_closed AfterDash = true
is_closed RangeToClose = false

-- no range of a set ends at a closing bracket
abbrev pub is_uniform : List ℕ → Bool
is_uniform ps = is_closed (reading_of Outside ps)
