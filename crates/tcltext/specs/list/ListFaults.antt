-- What is wrong with a text that is no list (own): the first element that is wrong.
use Rattle.std.specs.Prelude.{◌≡◌, suc, [], ◌∷◌, ◌++◌, ◌⊎◌, length, not, None}
use Rattle.tcltext.specs.chars.Bytes.{backslash, is_space, AllPass, MayBegin, DoesBegin, quote, left_brace, right_brace}
use Rattle.tcltext.specs.chars.Runs.{Text}
use Rattle.tcltext.specs.chars.Backslash.{after_backslash}
use Rattle.tcltext.specs.chars.Braces.{Balanced}
use Rattle.tcltext.specs.chars.Whole.{IsFaultOf}
use Rattle.tcltext.specs.declared.chars.fault.Fault.{Fault}
use Rattle.tcltext.specs.declared.chars.fault.Fault.TheVariants as marks
use Rattle.tcltext.specs.declared.chars.fault.TextFault.{TextFault}
use Rattle.tcltext.specs.list.ListGrammar.{ElementPiece, is_quote, begins_element, IsElement}

-- the first byte is no white space
abbrev pub IsJoined : Text → Type 0
IsJoined bs = DoesBegin (λ b. not (is_space b)) bs

-- nothing, or a backslash alone
abbrev pub IsLast : Text → Type 0
IsLast bs = (bs ≡ []) ⊎ (bs ≡ backslash ∷ [])

-- after a backslash: there is more, and together they stand for nothing
abbrev pub StandsForNothing : Text → Type 0
StandsForNothing [] = ⊥
StandsForNothing (b ∷ bs) = after_backslash (b ∷ bs) ≡ None

-- The text begins with an element that is wrong. The fault has the number of bytes that remain from its mark on: the
-- mark that nothing closes, the character that is joined to what closes, or the backslash that stands for nothing.
pub data ElementFault : Text → Fault → Type 0 where
  open_brace : {bs : Text} → ((inside rest : Text) → bs ≡ inside ++ right_brace ∷ rest → Balanced inside → ⊥)
      → ElementFault (left_brace ∷ bs) (marks.OpenBrace (suc (length bs)))
  joined_to_brace : {bs : Text} (inside rest : Text) → bs ≡ inside ++ right_brace ∷ rest → Balanced inside
      → IsJoined rest → ElementFault (left_brace ∷ bs) (marks.JoinedToClose (length rest))
  open_quote : {bs e rest : Text} → ElementPiece is_quote bs e rest → IsLast rest
      → ElementFault (quote ∷ bs) (marks.OpenQuote (suc (length bs)))
  joined_to_quote : {bs e rest : Text} → ElementPiece is_quote bs e (quote ∷ rest) → IsJoined rest
      → ElementFault (quote ∷ bs) (marks.JoinedToClose (length rest))
  bad_in_quotes : {bs e rest : Text} → ElementPiece is_quote bs e (backslash ∷ rest) → StandsForNothing rest
      → ElementFault (quote ∷ bs) (marks.BadCharacter (suc (length rest)))
  bad_in_bare : {bs e rest : Text} → DoesBegin begins_element bs → ElementPiece is_space bs e (backslash ∷ rest)
      → StandsForNothing rest → ElementFault bs (marks.BadCharacter (suc (length rest)))

-- white space and elements, as in a list, and then an element that is wrong
pub data IsFault : Text → Fault → Type 0 where
  here : (spaces body : Text) {f : Fault} → AllPass is_space spaces → ElementFault body f → IsFault (spaces ++ body) f
  following : (spaces body : Text) {e rest : Text} {f : Fault} → AllPass is_space spaces → IsElement body e rest
      → MayBegin is_space rest → IsFault rest f → IsFault (spaces ++ body) f

-- what is wrong with a text: it is too long, or its fault with the offset
abbrev pub IsListFault : Text → TextFault → Type 0
IsListFault bs f = IsFaultOf IsFault bs f
