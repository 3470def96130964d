-- The evaluation of expressions (expr(n)): what is evaluated of them, and in which order.
use Rattle.std.specs.Prelude.{[], Bool, true, false, Option, Some, None, Result, Ok, Err, codes, drop}
use Rattle.std.specs.Fmt.{signed_decimal}
use Rattle.tcltext.specs.chars.Runs.{Text}
use Rattle.tcltext.specs.chars.BracedText.{braced_text}
use Rattle.tcltext.specs.declared.chars.fault.TextFault.{TextFault}
use Rattle.tcltext.specs.declared.chars.fault.TextFault.TheVariants.{BadExpression}
use Rattle.tcltext.specs.chars.Numerals.{numeral}
use Rattle.tcltext.specs.declared.chars.number.Numeral.{Numeral}
use Rattle.tcltext.specs.declared.chars.number.Numeral.TheVariants as numerals
use Rattle.tcltext.specs.expr.Tree.{Expr, operand, unary, binary, conjunction, disjunction, choice}
use Rattle.tcltext.specs.expr.Operands as operands
use Rattle.tcltext.specs.expr.Operands.{Operand}
use Rattle.tcltext.specs.expr.Text.{expr_of}
use Rattle.tcltext.specs.expr.UnsupportedSyntax.{unsupported_at}
use Rattle.tclvalue.specs.operators.Faults as value
use Rattle.tclvalue.specs.operators.Faults.{Answer, number_too_large, fraction, unsupported}
use Rattle.tclvalue.specs.operators.Operators.{truth, truth_text, unary_value, binary_value}
use Rattle.tclrules.specs.Derivation.{Runs}
use Rattle.tclrules.specs.Variables.{State}
use Rattle.tclrules.specs.Plans.{Bounds, Step, Next, Bracket, on_normal, given, sized}
use Rattle.tclrules.specs.Words.{parts, read, read_element}

-- Texts

-- the reason of a fault at a name that is unsupported, else that of the fault
abbrev pub or_unsupported : TextFault → Option Text → value.ValueReason
or_unsupported f (Some name) = unsupported name
or_unsupported f None = value.text f

-- the reason why a text is no expression
abbrev pub fault_of : Text → TextFault → value.ValueReason
fault_of t (BadExpression at) = or_unsupported (BadExpression at) (unsupported_at (drop at t))
fault_of t f = value.text f

-- the tree of a text, or the reason why it has none
abbrev pub parsed : Text → Result (Expr Operand) TextFault → Answer (Expr Operand)
parsed t (Ok e) = Ok e
parsed t (Err f) = Err (fault_of t f)

-- Values

-- the value of an operand; that of a bracket is the result of its script
abbrev pub operand_value : Bounds → Operand → State → Next → Step
operand_value b (operands.number t) s k = k t s
operand_value b (operands.word t) s k = k t s
operand_value b (operands.variable name) s k = read name s k
operand_value b (operands.indexed name ps) s k = parts b ps [] s (λ index s'. read_element name index s' k)
operand_value b (operands.bracket cs) s k = Runs (Bracket b.remaining cs s) (on_normal k)
operand_value b (operands.quoted ps) s k = parts b ps [] s k
operand_value b (operands.braced t) s k = k (braced_text t) s

-- an operator's operands from left to right; && and the double bar go on to the second operand, and ? to one of the
-- others, by the truth of the first
abbrev pub expr : Bounds → Expr Operand → State → Next → Step
expr b (operand o) s k = operand_value b o s (λ t s'. sized b.bytes t (k t s'))
expr b (unary u e) s k = expr b e s (λ t s'. given (unary_value u t) s' (λ v. k v s'))
expr b (binary o l r) s k = expr b l s (λ t s1. expr b r s1 (λ u s2. given (binary_value o t u) s2 (λ v. k v s2)))
expr b (conjunction l r) s k =
    expr b l s (λ t s1. given (truth t) s1
    (elim [ true ↦ expr b r s1 (λ u s2. given (truth u) s2 (λ v. k (truth_text v) s2)) | false ↦ k (codes "0") s1 ]))
expr b (disjunction l r) s k =
    expr b l s (λ t s1. given (truth t) s1
    (elim [ true ↦ k (codes "1") s1 | false ↦ expr b r s1 (λ u s2. given (truth u) s2 (λ v. k (truth_text v) s2)) ]))
expr b (choice c y n) s k =
    expr b c s (λ t s1. given (truth t) s1 (elim [ true ↦ expr b y s1 k | false ↦ expr b n s1 k ]))

-- the value of a whole expression: a whole number in decimal, any other text as it is
abbrev pub normal : Text → Numeral → Answer Text
normal t (numerals.Whole z) = Ok (signed_decimal z)
normal t numerals.TooLarge = Err number_too_large
normal t numerals.Fraction = Err fraction
normal t numerals.Text = Ok t

-- a text evaluated as an expression
abbrev pub express : Bounds → Text → State → Next → Step
express b t s k = given (parsed t (expr_of t)) s
    (λ e. expr b e s (λ v s'. given (normal v (numeral v)) s' (λ u. sized b.bytes u (k u s'))))

-- and as a condition
abbrev pub decide : Bounds → Text → State → (Bool → State → Step) → Step
decide b t s k = express b t s (λ v s'. given (truth v) s' (λ holds. k holds s'))
