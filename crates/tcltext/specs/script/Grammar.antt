-- The grammar of scripts (Tcl(n)): which texts are scripts, with their trees. The definitions go by cases on the tree.
-- Each part of a text is given with the text after it, which decides where the part ends.
use Rattle.std.specs.Prelude.{◌≡◌, ◌≢◌, ◌⊎◌, ℕ, ◌+◌, [], ◌∷◌, ◌++◌, length, Bool, true, false, not, ◌||◌, ◌==◌, Some}
use Rattle.tcltext.specs.chars.Runs.{Text}
use Rattle.tcltext.specs.chars.Bytes.{newline, hash, backslash, is_blank, is_gap, AllPass, MayBegin, DoesBegin, colon}
use Rattle.tcltext.specs.chars.Bytes.{dollar, left_brace, left_bracket, left_parenthesis, quote, right_brace, right_bracket}
use Rattle.tcltext.specs.chars.Bytes.{right_parenthesis, star}
use Rattle.tcltext.specs.chars.Classes.{in_class, is_name}
use Rattle.tcltext.specs.chars.Backslash.{after_backslash}
use Rattle.tcltext.specs.chars.Braces.{Balanced}
use Rattle.tcltext.specs.declared.chars.runs.Class.TheVariants.{InBracedName}
use Rattle.tcltext.specs.declared.script.context.Context.{Context}
use Rattle.tcltext.specs.declared.script.context.Context.TheVariants.{InIndex, InQuotes}
use Rattle.tcltext.specs.script.Tree as tree
use Rattle.tcltext.specs.script.Tree.{Commands, no_commands, command, Words, no_words, word, Word, word_of, Parts, no_parts}
use Rattle.tcltext.specs.script.Tree.{part, Part, literal, braced, variable, indexed, bracket}
use Rattle.tcltext.specs.script.Ends.{script_ends, command_ends, word_ends, parts_end, class_of, bare}

-- between words: blanks, and newlines after backslashes
pub data IsBlanks : Text → Type 0 where
  nothing : IsBlanks []
  blank : {b : ℕ} {bs : Text} → is_blank b ≡ true → IsBlanks bs → IsBlanks (b ∷ bs)
  line : {bs : Text} → IsBlanks bs → IsBlanks (backslash ∷ (newline ∷ bs))

-- inside a comment: no newline but after a backslash, which takes the next byte with it
pub data IsComment : Text → Type 0 where
  nothing : IsComment []
  other : {b : ℕ} {bs : Text} → b ≢ backslash → b ≢ newline → IsComment bs → IsComment (b ∷ bs)
  escaped : {b : ℕ} {bs : Text} → IsComment bs → IsComment (backslash ∷ (b ∷ bs))

-- Between commands, with the text after it: white space, ends of commands, newlines after backslashes, and comments up
-- to a newline or to the end of the source, where a backslash may be the last byte.
pub data IsGap : Text → Text → Type 0 where
  nothing : {after : Text} → IsGap [] after
  space : {b : ℕ} {bs after : Text} → is_gap b ≡ true → IsGap bs after → IsGap (b ∷ bs) after
  line : {bs after : Text} → IsGap bs after → IsGap (backslash ∷ (newline ∷ bs)) after
  comment : {inside bs after : Text} → IsComment inside → IsGap bs after → IsGap (hash ∷ (inside ++ newline ∷ bs)) after
  open_comment : {inside : Text} → IsComment inside → IsGap (hash ∷ inside) []
  open_escape : {inside : Text} → IsComment inside → IsGap (hash ∷ (inside ++ backslash ∷ [])) []

abbrev pub is_colon : ℕ → Bool
is_colon b = b == colon

-- a name of a variable: letters, digits, underscores, and runs of two or more colons
pub data IsName : Text → Type 0 where
  nothing : IsName []
  letter : {b : ℕ} {bs : Text} → is_name b ≡ true → IsName bs → IsName (b ∷ bs)
  colons : (run : Text) {bs : Text} → AllPass is_colon run → IsName bs → IsName (colon ∷ (colon ∷ (run ++ bs)))

-- the longest name that the text begins with
abbrev pub IsLongestName : Text → Text → Type 0
IsLongestName name after = IsName name × ((more rest : Text) → after ≡ more ++ rest → IsName (name ++ more) → more ≡ [])

-- Literal text, with the text after it: a longest run of literal bytes; a dollar sign that begins no variable; or a
-- backslash at the end.
abbrev pub IsRun : Context → Text → Text → Type 0
IsRun c t after =
    DoesBegin (in_class (class_of c)) t × AllPass (in_class (class_of c)) t
    × MayBegin (λ b. not (in_class (class_of c) b)) after

abbrev pub IsLiteralDollar : Text → Text → Type 0
IsLiteralDollar t after =
    (t ≡ dollar ∷ []) × IsLongestName [] after × MayBegin (λ b. not (b == left_parenthesis || b == left_brace)) after

abbrev pub IsLastBackslash : Text → Text → Type 0
IsLastBackslash t after = (t ≡ backslash ∷ []) × (after ≡ [])

abbrev pub IsLiteral : Context → Text → Text → Type 0
IsLiteral c t after = IsRun c t after ⊎ (IsLiteralDollar t after ⊎ IsLastBackslash t after)

-- $name, with no parenthesis after it
abbrev pub IsScalarVariable : Text → Text → Text → Type 0
IsScalarVariable name bs after =
    (bs ≡ dollar ∷ name) × (name ≢ []) × IsLongestName name after × MayBegin (λ b. not (b == left_parenthesis)) after

-- ${name}
abbrev pub IsBracedVariable : Text → Text → Type 0
IsBracedVariable name bs =
    (bs ≡ dollar ∷ (left_brace ∷ (name ++ right_brace ∷ []))) × AllPass (in_class InBracedName) name

-- the text is a first part and a second one
pub record Split (bs : Text) (First : Text → Text → Type 0) (Second : Text → Type 0) : Type 0 where
  pub first : Text
  pub second : Text
  pub whole : bs ≡ first ++ second
  pub is_first : First first second
  pub is_second : Second second

-- A word in braces, in quotes or in neither, of these parts; ArePartsOf says of which texts they are the parts. The
-- word ends before the text after it.
abbrev pub IsBracedWord : Parts → Text → Type 0
IsBracedWord ps bs =
    (inside : Text) × (ps ≡ part (braced inside) no_parts) × (bs ≡ left_brace ∷ (inside ++ right_brace ∷ []))
    × Balanced inside

abbrev pub IsQuotedWord : (Context → Text → Text → Type 0) → Text → Text → Type 0
IsQuotedWord ArePartsOf bs after =
    (inside : Text) × (bs ≡ quote ∷ (inside ++ quote ∷ [])) × ArePartsOf InQuotes inside (quote ∷ after)

abbrev pub IsBareWord : Bool → (Context → Text → Text → Type 0) → Text → Text → Type 0
IsBareWord nested ArePartsOf bs after =
    DoesBegin (λ b. not (b == left_brace || b == quote)) bs × ArePartsOf (bare nested) bs after

abbrev pub IsUnexpandedWord : Bool → Parts → (Context → Text → Text → Type 0) → Text → Text → Type 0
IsUnexpandedWord nested ps ArePartsOf bs after =
    (word_ends nested after ≡ true) × (IsBracedWord ps bs
    ⊎ (IsQuotedWord ArePartsOf bs after ⊎ IsBareWord nested ArePartsOf bs after))

-- the mark {*} and a text, where the word does not end between them
abbrev pub IsExpanding : Bool → (Text → Type 0) → Text → Text → Type 0
IsExpanding nested Is bs after =
    (body : Text) × (bs ≡ left_brace ∷ (star ∷ (right_brace ∷ body))) × (word_ends nested (body ++ after) ≡ false)
    × Is body

-- The flag nested is true in brackets.
abbrev mutual
  -- Commands, with gaps before them and after the last; a command doesn't begin as a comment does. The number is the
  -- length of the whole script: the bytes before the offset of a command, and those from there on.
  pub IsCommands : ℕ → Bool → Commands → Text → Text → Type 0
  IsCommands size nested no_commands bs after = IsGap bs after × (script_ends nested after ≡ true)
  IsCommands size nested (command offset source ws cs) bs after =
      Split bs (λ gap more. IsGap gap (more ++ after) × (offset + length more ≡ size))
      (λ more. Split more (λ body rest. DoesBegin (λ b. not (b == hash)) body
      × IsCommand nested source ws body (rest ++ after)) (λ rest. IsCommands size nested cs rest after))

  -- the words of a command, and the source of the first
  pub IsCommand : Bool → Text → Words → Text → Text → Type 0
  IsCommand nested source no_words bs after = ⊥
  IsCommand nested source (word w ws) bs after =
      (rest : Text) × (bs ≡ source ++ rest) × IsWord nested w source (rest ++ after) × IsWords nested ws rest after

  -- more words of a command, each after blanks, up to its end
  pub IsWords : Bool → Words → Text → Text → Type 0
  IsWords nested no_words bs after = IsBlanks bs × (command_ends nested after ≡ true)
  IsWords nested (word w ws) bs after =
      Split bs (λ blanks more. IsBlanks blanks)
      (λ more. Split more (λ body rest. IsWord nested w body (rest ++ after)) (λ rest. IsWords nested ws rest after))

  pub IsWord : Bool → Word → Text → Text → Type 0
  IsWord nested (word_of false ps) bs after =
      IsUnexpandedWord nested ps (λ c inside more. IsParts c ps inside more) bs after
  IsWord nested (word_of true ps) bs after =
      IsExpanding nested
      (λ body. IsUnexpandedWord nested ps (λ c inside more. IsParts c ps inside more) body after) bs after

  -- parts, up to where no more can follow
  pub IsParts : Context → Parts → Text → Text → Type 0
  IsParts c no_parts bs after = (bs ≡ []) × (parts_end c after ≡ true)
  IsParts c (part p ps) bs after =
      Split bs (λ body rest. (parts_end c (body ++ (rest ++ after)) ≡ false)
      × IsPart c p body (rest ++ after)) (λ rest. IsParts c ps rest after)

  pub IsPart : Context → Part → Text → Text → Type 0
  IsPart c (literal t) bs after = (bs ≡ t) × IsLiteral c t after
  IsPart c (braced t) bs after = ⊥
  IsPart c (tree.backslash value) bs after =
      (escape : Text) × (bs ≡ backslash ∷ escape) × (after_backslash (escape ++ after) ≡ Some (value, after))
  IsPart c (variable name) bs after = IsScalarVariable name bs after ⊎ IsBracedVariable name bs
  IsPart c (indexed name ps) bs after =
      (inside : Text) × (bs ≡ dollar ∷ (name ++ left_parenthesis ∷ (inside ++ right_parenthesis ∷ []))) × IsName name
      × IsParts InIndex ps inside (right_parenthesis ∷ after)
  IsPart c (bracket s) bs after =
      (inside : Text) × (bs ≡ left_bracket ∷ (inside ++ right_bracket ∷ []))
      × IsCommands (length inside) true s inside (right_bracket ∷ after)

-- the text is a script with this tree
abbrev pub IsScript : Text → Commands → Type 0
IsScript bs s = IsCommands (length bs) false s bs []
