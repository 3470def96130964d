-- What is wrong with a text that is no script (own): the first mark or character that a reader from left to right can't
-- go past. The definitions go by cases over a whole text, from somewhere in the source to its end. A fault has the
-- number of bytes that remain from its mark on.
use Rattle.std.specs.Prelude.{◌≡◌, ◌≢◌, ℕ, zero, suc, ◌≤◌, [], ◌∷◌, ◌++◌, length, Bool, true, false, not, ◌||◌, ◌==◌}
use Rattle.std.specs.Prelude.{None}
use Rattle.tcltext.specs.chars.Runs.{Text}
use Rattle.tcltext.specs.chars.Bytes.{hash, backslash, AllPass, DoesBegin, dollar, left_brace, left_bracket}
use Rattle.tcltext.specs.chars.Bytes.{left_parenthesis, quote, right_brace, star}
use Rattle.tcltext.specs.chars.Classes.{in_class}
use Rattle.tcltext.specs.chars.Backslash.{after_backslash}
use Rattle.tcltext.specs.chars.Braces.{Balanced}
use Rattle.tcltext.specs.chars.Faults.{max_nesting}
use Rattle.tcltext.specs.chars.Whole.{IsFaultOf}
use Rattle.tcltext.specs.declared.chars.runs.Class.TheVariants.{InBracedName}
use Rattle.tcltext.specs.declared.chars.fault.Fault.{Fault}
use Rattle.tcltext.specs.declared.chars.fault.Fault.TheVariants.{OpenBrace, OpenQuote, OpenBracket, JoinedToClose, TooDeep}
use Rattle.tcltext.specs.declared.chars.fault.Fault.TheVariants.{BadCharacter}
use Rattle.tcltext.specs.declared.chars.fault.TextFault.{TextFault}
use Rattle.tcltext.specs.declared.script.context.Context.{Context}
use Rattle.tcltext.specs.declared.script.context.Context.TheVariants.{InIndex, InQuotes}
use Rattle.tcltext.specs.script.Tree.{Commands, Words, Word, Parts, Part, nesting, words_nesting, word_nesting}
use Rattle.tcltext.specs.script.Tree.{parts_nesting, part_nesting}
use Rattle.tcltext.specs.script.Ends.{word_ends, parts_end, bare}
use Rattle.tcltext.specs.script.Grammar.{IsBlanks, IsGap, IsName, IsCommands, IsCommand, IsWord, IsParts, IsPart}

-- no brace closes the one before this text
abbrev pub NeverCloses : Text → Type 0
NeverCloses bs = (inside rest : Text) → bs ≡ inside ++ right_brace ∷ rest → Balanced inside → ⊥

-- the mark {*}, after which the word does not end
abbrev pub Expands : Bool → Text → Type 0
Expands nested bs = (rest : Text) × (bs ≡ left_brace ∷ (star ∷ (right_brace ∷ rest))) × (word_ends nested rest ≡ false)

-- The number is how many more brackets and indexes may nest; the flag nested is true in brackets.
mutual
  -- in the first of several commands or a later one
  pub data CommandsFault : ℕ → Bool → Text → Fault → Type 0 where
    first_command : {d : ℕ} {nested : Bool} (gap : Text) {body : Text} {f : Fault} → IsGap gap body
        → DoesBegin (λ b. not (b == hash)) body
        → CommandFault d nested body f → CommandsFault d nested (gap ++ body) f
    later_command : {d : ℕ} {nested : Bool} (gap source body : Text) (ws : Words) {rest : Text} {f : Fault}
        → IsGap gap (body ++ rest) → DoesBegin (λ b. not (b == hash)) body
        → IsCommand nested source ws body rest → words_nesting ws ≤ d → CommandsFault d nested rest f
        → CommandsFault d nested (gap ++ (body ++ rest)) f

  -- in the first word of a command or a later one
  pub data CommandFault : ℕ → Bool → Text → Fault → Type 0 where
    first_word : {d : ℕ} {nested : Bool} {bs : Text} {f : Fault} → WordFault d nested bs f → CommandFault d nested bs f
    later_word : {d : ℕ} {nested : Bool} (body : Text) (w : Word) {rest : Text} {f : Fault} → IsWord nested w body rest
        → word_nesting w ≤ d
        → WordsFault d nested rest f → CommandFault d nested (body ++ rest) f

  -- in the next of the words after the first, or one after that
  pub data WordsFault : ℕ → Bool → Text → Fault → Type 0 where
    next_word : {d : ℕ} {nested : Bool} (blanks : Text) {body : Text} {f : Fault} → IsBlanks blanks
        → WordFault d nested body f → WordsFault d nested (blanks ++ body) f
    word_after : {d : ℕ} {nested : Bool} (blanks body : Text) (w : Word) {rest : Text} {f : Fault} → IsBlanks blanks
        → IsWord nested w body rest → word_nesting w ≤ d
        → WordsFault d nested rest f → WordsFault d nested (blanks ++ (body ++ rest)) f

  -- in a word, with the mark {*} before it or without
  pub data WordFault : ℕ → Bool → Text → Fault → Type 0 where
    not_expanding : {d : ℕ} {nested : Bool} {bs : Text} {f : Fault} → (Expands nested bs → ⊥)
        → UnexpandedWordFault d nested bs f → WordFault d nested bs f
    expanding : {d : ℕ} {nested : Bool} {body : Text} {f : Fault} → word_ends nested body ≡ false
        → UnexpandedWordFault d nested body f
        → WordFault d nested (left_brace ∷ (star ∷ (right_brace ∷ body))) f

  -- in a word in braces, in quotes or in neither
  pub data UnexpandedWordFault : ℕ → Bool → Text → Fault → Type 0 where
    open_brace : {d : ℕ} {nested : Bool} {bs : Text} → NeverCloses bs
        → UnexpandedWordFault d nested (left_brace ∷ bs) (OpenBrace (suc (length bs)))
    joined_brace : {d : ℕ} {nested : Bool} (inside rest : Text) → Balanced inside → word_ends nested rest ≡ false
        → UnexpandedWordFault d nested (left_brace ∷ (inside ++ right_brace ∷ rest)) (JoinedToClose (length rest))
    in_quotes : {d : ℕ} {nested : Bool} {bs : Text} {f : Fault} → PartsFault d InQuotes bs f
        → UnexpandedWordFault d nested (quote ∷ bs) f
    open_quote : {d : ℕ} {nested : Bool} {bs : Text} (ps : Parts) → IsParts InQuotes ps bs [] → parts_nesting ps ≤ d
        → UnexpandedWordFault d nested (quote ∷ bs) (OpenQuote (suc (length bs)))
    joined_quote : {d : ℕ} {nested : Bool} (inside rest : Text) (ps : Parts) → IsParts InQuotes ps inside (quote ∷ rest)
        → parts_nesting ps ≤ d → word_ends nested rest ≡ false
        → UnexpandedWordFault d nested (quote ∷ (inside ++ quote ∷ rest)) (JoinedToClose (length rest))
    in_bare : {d : ℕ} {nested : Bool} {bs : Text} {f : Fault} → DoesBegin (λ b. not (b == left_brace || b == quote)) bs
        → PartsFault d (bare nested) bs f → UnexpandedWordFault d nested bs f

  -- in the first of several parts or a later one
  pub data PartsFault : ℕ → Context → Text → Fault → Type 0 where
    first_part : {d : ℕ} {c : Context} {bs : Text} {f : Fault} → PartFault d bs f → PartsFault d c bs f
    later_part : {d : ℕ} {c : Context} (body : Text) (p : Part) {rest : Text} {f : Fault}
        → parts_end c (body ++ rest) ≡ false → IsPart c p body rest → part_nesting p ≤ d
        → PartsFault d c rest f → PartsFault d c (body ++ rest) f

  -- in a substitution
  pub data PartFault : ℕ → Text → Fault → Type 0 where
    open_name : {d : ℕ} {bs : Text} → AllPass (in_class InBracedName) bs
        → PartFault d (dollar ∷ (left_brace ∷ bs)) (OpenBrace (suc (length bs)))
    bad_character : {d : ℕ} {bs : Text} → bs ≢ [] → after_backslash bs ≡ None
        → PartFault d (backslash ∷ bs) (BadCharacter (suc (length bs)))
    bracket_too_deep : {bs : Text} → PartFault zero (left_bracket ∷ bs) TooDeep
    in_bracket : {d : ℕ} {bs : Text} {f : Fault} → CommandsFault d true bs f → PartFault (suc d) (left_bracket ∷ bs) f
    open_bracket : {d : ℕ} {bs : Text} (s : Commands) → IsCommands (length bs) true s bs [] → nesting s ≤ d
        → PartFault (suc d) (left_bracket ∷ bs) (OpenBracket (suc (length bs)))
    index_too_deep : (name bs : Text) → IsName name → PartFault zero (dollar ∷ (name ++ left_parenthesis ∷ bs)) TooDeep
    in_index : {d : ℕ} (name bs : Text) {f : Fault} → IsName name → PartsFault d InIndex bs f
        → PartFault (suc d) (dollar ∷ (name ++ left_parenthesis ∷ bs)) f
    open_index : {d : ℕ} (name bs : Text) (ps : Parts) → IsName name → IsParts InIndex ps bs [] → parts_nesting ps ≤ d
        → PartFault (suc d) (dollar ∷ (name ++ left_parenthesis ∷ bs)) (BadCharacter (suc (length bs)))

-- the first fault of a text, with the number of bytes that remain from its mark on
abbrev pub IsFault : ℕ → Text → Fault → Type 0
IsFault d bs f = CommandsFault d false bs f

-- what is wrong with a text: it is too long, or its first fault with the offset
abbrev pub IsTextFault : Text → TextFault → Type 0
IsTextFault bs f = IsFaultOf (IsFault max_nesting) bs f
