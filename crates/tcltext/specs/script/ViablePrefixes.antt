-- The beginnings of scripts, and the texts that no script begins with: what the law `correct_prefix` needs to say that
-- a fault is found at the first byte that shows it.
use Rattle.std.specs.Prelude.{◌≡◌, ◌≢◌, [], ◌∷◌, ◌++◌, None}
use Rattle.tcltext.specs.chars.Runs.{Text}
use Rattle.tcltext.specs.chars.Bytes.{backslash}
use Rattle.tcltext.specs.chars.Backslash.{after_backslash}
use Rattle.tcltext.specs.declared.chars.fault.Fault.{Fault}
use Rattle.tcltext.specs.declared.chars.fault.Fault.TheVariants.{OpenBrace, OpenQuote, OpenBracket, JoinedToClose, TooDeep}
use Rattle.tcltext.specs.declared.chars.fault.Fault.TheVariants.{BadCharacter, BadExpression}
use Rattle.tcltext.specs.script.Tree.{Commands}
use Rattle.tcltext.specs.script.Grammar.{IsScript}

-- the text is the beginning of some script
abbrev pub IsViablePrefix : Text → Type 0
IsViablePrefix bs = (more : Text) × (s : Commands) × IsScript (bs ++ more) s

-- A beginning of what follows a closing brace or quote, long enough to show that it may not: one byte, or a backslash
-- and the next byte, since a backslash before a newline may follow.
abbrev pub ShowsFault : Text → Type 0
ShowsFault [] = ⊥
ShowsFault (b ∷ []) = b ≢ backslash
ShowsFault (b ∷ (c ∷ bs)) = Unit {0}

-- what a backslash begins with this stands for nothing, whatever follows
abbrev pub IsBadEscape : Text → Type 0
IsBadEscape bs = (bs ≢ []) × ((more : Text) → after_backslash (bs ++ more) ≡ None)

-- a mark that nothing closes, except the parenthesis of an index, which has another fault
abbrev pub IsOpenMark : Fault → Type 0
IsOpenMark (OpenBrace remaining) = Unit {0}
IsOpenMark (OpenQuote remaining) = Unit {0}
IsOpenMark (OpenBracket remaining) = Unit {0}
IsOpenMark (JoinedToClose remaining) = ⊥
IsOpenMark (BadCharacter remaining) = ⊥
IsOpenMark (BadExpression remaining) = ⊥
IsOpenMark TooDeep = ⊥
