-- The classes of commands in their order, and the worst of what is said (own).
use Rattle.std.specs.Prelude.{List, [], ◌∷◌}
use Rattle.port_rewriting.specs.declared.class.Class.{Class}
use Rattle.port_rewriting.specs.declared.class.Class.TheVariants as classes
use Rattle.port_rewriting.specs.declared.class.Outcome.{Outcome}
use Rattle.port_rewriting.specs.declared.class.Outcome.TheVariants as outcomes
use Rattle.port_rewriting.specs.declared.class.Note.{Note}
use Rattle.port_rewriting.specs.declared.pieces.TranslatedPiece.{TranslatedPiece}

-- the worse of two: same, exact, changed, left
abbrev pub worse : Class → Class → Class
worse classes.Same other = other
worse classes.Exact classes.Same = classes.Exact
worse classes.Exact other = other
worse classes.Changed classes.Left = classes.Left
worse classes.Changed other = classes.Changed
worse classes.Left other = classes.Left

-- the class that what is said of a command tells
abbrev pub told : Outcome → Class
told (outcomes.Changed case) = classes.Changed
told outcomes.Left = classes.Left
told outcome = classes.Exact

-- the worst of a class and of what notes tell
abbrev pub worst : Class → List Note → Class
worst class [] = class
worst class (n ∷ notes) = worst (worse class (told n.outcome)) notes

abbrev pub worst_of_pieces : Class → List TranslatedPiece → Class
worst_of_pieces class [] = class
worst_of_pieces class (p ∷ pieces) = worst_of_pieces (worst class p.notes.items) pieces
