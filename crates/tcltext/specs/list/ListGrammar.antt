-- The grammar of lists: which texts are lists, with their elements (Tcl(n), and lists as lindex(n) reads them). The
-- definitions go by cases on the elements.
use Rattle.std.specs.Prelude.{◌≡◌, ℕ, List, [], ◌∷◌, ◌++◌, Bool, false, not, ◌||◌, ◌==◌, Some}
use Rattle.tcltext.specs.chars.Bytes.{backslash, is_space, AllPass, MayBegin, DoesBegin, quote, left_brace, right_brace}
use Rattle.tcltext.specs.chars.Runs.{Text}
use Rattle.tcltext.specs.chars.Backslash.{after_backslash}
use Rattle.tcltext.specs.chars.Braces.{Balanced}

-- The beginning of an element without braces, with its value and the rest. A byte that neither ends the element nor is
-- a backslash is literal; a backslash and what it takes with it stand for what Tcl(n) says.
pub data ElementPiece (ends : ℕ → Bool) : Text → Text → Text → Type 0 where
  nothing : {rest : Text} → ElementPiece ends rest [] rest
  literal : {b : ℕ} {bs ts rest : Text} → ends b ≡ false → (b == backslash) ≡ false → ElementPiece ends bs ts rest
      → ElementPiece ends (b ∷ bs) (b ∷ ts) rest
  substituted : {bs ts rest : Text} (v r : Text) → after_backslash bs ≡ Some (v, r) → ElementPiece ends r ts rest
      → ElementPiece ends (backslash ∷ bs) (v ++ ts) rest

abbrev pub is_quote : ℕ → Bool
is_quote b = b == quote

-- The text begins with an element without braces and quotes, up to white space or the end. A backslash at the end of
-- the text is literal.
pub data Bare : Text → Text → Text → Type 0 where
  separated : {bs e rest : Text} → ElementPiece is_space bs e rest → MayBegin is_space rest → Bare bs e rest
  backslash_last : {bs e : Text} → ElementPiece is_space bs e (backslash ∷ []) → Bare bs (e ++ backslash ∷ []) []

-- what an element without braces and quotes begins with
abbrev pub begins_element : ℕ → Bool
begins_element b = not (is_space b || b == quote || b == left_brace)

-- The text begins with an element of this value, and then comes the rest; in braces the element is taken as it is.
pub data IsElement : Text → Text → Text → Type 0 where
  in_braces : {bs e : Text} (rest : Text) → bs ≡ e ++ right_brace ∷ rest → Balanced e
      → IsElement (left_brace ∷ bs) e rest
  in_quotes : {bs e rest : Text} → ElementPiece is_quote bs e (quote ∷ rest) → IsElement (quote ∷ bs) e rest
  bare : {bs e rest : Text} → DoesBegin begins_element bs → Bare bs e rest → IsElement bs e rest

-- white space, an element, and then white space or the end
pub record Elements (bs e : Text) (More : Text → Type 0) : Type 0 where
  pub spaces : Text
  pub body : Text
  pub rest : Text
  pub whole : bs ≡ spaces ++ body
  pub are_spaces : AllPass is_space spaces
  pub is_element : IsElement body e rest
  pub is_separated : MayBegin is_space rest
  pub more : More rest

-- the text is a list with these elements
abbrev pub IsList : Text → List Text → Type 0
IsList bs [] = AllPass is_space bs
IsList bs (e ∷ es) = Elements bs e (λ rest. IsList rest es)

-- the text is the beginning of some list
abbrev pub IsListPrefix : Text → Type 0
IsListPrefix bs = (more : Text) × (es : List Text) × IsList (bs ++ more) es
