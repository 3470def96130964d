-- The grammar of operands (expr(n), OPERANDS): which texts begin with an operand, and what is wrong where none does.
use Rattle.std.specs.Prelude.{◌≡◌, ◌≤◌, ℕ, suc, [], ◌∷◌, ◌++◌, length, Bool, true, false, not, ◌||◌, ◌==◌, Some, None}
use Rattle.tcltext.specs.chars.Runs.{Text, begins}
use Rattle.tcltext.specs.chars.Bytes.{AllPass, MayBegin, DoesBegin, quote, dollar, left_parenthesis, left_bracket}
use Rattle.tcltext.specs.chars.Bytes.{left_brace, right_brace}
use Rattle.tcltext.specs.chars.Classes.{is_name}
use Rattle.tcltext.specs.chars.Braces.{Balanced}
use Rattle.tcltext.specs.declared.chars.fault.Fault.{Fault}
use Rattle.tcltext.specs.declared.chars.fault.Fault.TheVariants.{OpenBrace, OpenQuote, BadExpression}
use Rattle.tcltext.specs.declared.script.context.Context.TheVariants.{InQuotes}
use Rattle.tcltext.specs.script.Tree as tree
use Rattle.tcltext.specs.script.Tree.{Part, Parts, part_nesting, parts_nesting}
use Rattle.tcltext.specs.script.Grammar.{IsPart, IsParts, IsLiteralDollar}
use Rattle.tcltext.specs.script.Faults.{PartFault, PartsFault, NeverCloses}
use Rattle.tcltext.specs.expr.Operands.{Operand, number, word, variable, indexed, bracket, quoted, braced, after_number}
use Rattle.tcltext.specs.expr.Operands.{is_truth}

-- a substitution, as in scripts
abbrev pub IsSubstitution : Text → Text → Part → ℕ → Type 0
IsSubstitution bs rest p k = (t : Text) × (bs ≡ t ++ rest) × IsPart InQuotes p t rest × (k ≡ part_nesting p)

-- a truth word: a longest run of letters, digits and underscores, without a parenthesis after it
abbrev pub IsTruthWord : Text → Text → Type 0
IsTruthWord t rest =
    AllPass is_name t × MayBegin (λ b. not (is_name b)) rest × (is_truth t ≡ true)
    × (begins left_parenthesis rest ≡ false)

-- the text begins with this operand, in which brackets and parentheses nest so deep, and the rest follows
abbrev pub IsOperand : Text → Text → Operand → ℕ → Type 0
IsOperand bs rest (number t) k = (bs ≡ t ++ rest) × (after_number bs ≡ Some rest) × (k ≡ 0)
IsOperand bs rest (word t) k = (bs ≡ t ++ rest) × (after_number bs ≡ None) × IsTruthWord t rest × (k ≡ 0)
IsOperand bs rest (variable name) k = IsSubstitution bs rest (tree.variable name) k
IsOperand bs rest (indexed name ps) k = IsSubstitution bs rest (tree.indexed name ps) k
IsOperand bs rest (bracket s) k = IsSubstitution bs rest (tree.bracket s) k
IsOperand bs rest (quoted ps) k =
    (inside : Text) × (bs ≡ quote ∷ (inside ++ quote ∷ rest)) × IsParts InQuotes ps inside (quote ∷ rest)
    × (k ≡ parts_nesting ps)
IsOperand bs rest (braced t) k = (bs ≡ left_brace ∷ (t ++ right_brace ∷ rest)) × Balanced t × (k ≡ 0)

-- a byte that begins an operand of a script: $ [ " {
abbrev pub is_opening : ℕ → Bool
is_opening b = b == dollar || b == left_bracket || b == quote || b == left_brace

-- the text begins with no operand, or with one that is wrong; the number is how many brackets and parentheses may nest
pub data OperandFault : ℕ → Text → Fault → Type 0 where
  in_substitution : {d : ℕ} {bs : Text} {f : Fault} → DoesBegin (λ b. b == dollar || b == left_bracket) bs
      → PartFault d bs f → OperandFault d bs f
  lone_dollar : {d : ℕ} {bs : Text} → IsLiteralDollar (dollar ∷ []) bs
      → OperandFault d (dollar ∷ bs) (BadExpression (suc (length bs)))
  open_brace : {d : ℕ} {bs : Text} → NeverCloses bs → OperandFault d (left_brace ∷ bs) (OpenBrace (suc (length bs)))
  in_quotes : {d : ℕ} {bs : Text} {f : Fault} → PartsFault d InQuotes bs f → OperandFault d (quote ∷ bs) f
  open_quote : {d : ℕ} {bs : Text} (ps : Parts) → IsParts InQuotes ps bs [] → parts_nesting ps ≤ d
      → OperandFault d (quote ∷ bs) (OpenQuote (suc (length bs)))
  no_operand : {d : ℕ} {bs : Text} → MayBegin (λ b. not (is_opening b)) bs → after_number bs ≡ None
      → ((t rest : Text) → bs ≡ t ++ rest → IsTruthWord t rest → ⊥) → OperandFault d bs (BadExpression (length bs))
