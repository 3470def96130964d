-- A comparison that was made, as a condition.
use Rattle.std.proofs.Common.{◌≡◌, ℕ, ◌≤◌, Bool, true, false, Ok, Option, Some, None, length, refl, ap, ◌∙◌, arith}
use Rattle.std.specs.Prelude.{pos, IfSome}
use Rattle.std.specs.Fmt.{signed_decimal}
use Rattle.std.proofs.lemmas.Fmt.{decimal_digit}
use Rattle.tcltext.specs.chars.Numerals.{numeral}
use Rattle.tcltext.specs.declared.chars.number.Numeral.TheVariants as numerals
use Rattle.tcltext.specs.expr.Tree.{Expr}
use Rattle.tcltext.specs.expr.Operands.{Operand}
use Rattle.tclvalue.specs.operators.Values.{computed_text}
use Rattle.tclvalue.specs.declared.operators.operators.ComputedValue.{ComputedValue}
use Rattle.tclvalue.specs.declared.operators.operators.ComputedValue.TheVariants.{Truth}
use Rattle.tclvalue.specs.operators.Operators.{truth, truth_of, truth_text}
use Rattle.tclrules.specs.Variables.{State}
use Rattle.tclrules.specs.Plans.{Job, Step, Next, given, sized}
use Rattle.tclrules.specs.Simulates.{Point, Simulates}
use Rattle.tclrules.specs.Expressions.{expr, normal}
use Rattle.tclrules.proofs.Leading.{continue_with}
use Rattle.tclforms.specs.substitution.Machine.{bounds}
use Rattle.tclforms.proofs.substitution.Leading.{given_on, sized_on}
use Rattle.tclcommands.specs.Completions.{condition_plan}

-- the digit that a truth value is written as
abbrev digit : Bool → ℕ
digit true = 1
digit false = 0

numeral_truth : (b : Bool) → numeral (truth_text b) ≡ numerals.Whole (pos (digit b))
unfolding numeral
numeral_truth true = refl
numeral_truth false = refl

text_truth : (b : Bool) → signed_decimal (pos (digit b)) ≡ truth_text b
text_truth true = decimal_digit 1 (omega arith)
text_truth false = decimal_digit 0 (omega arith)

normal_truth : (b : Bool) → normal (truth_text b) (numeral (truth_text b)) ≡ Ok (truth_text b)
normal_truth b = ap (normal (truth_text b)) (numeral_truth b) ∙ ap Ok (text_truth b)

truth_truth : (b : Bool) → truth (truth_text b) ≡ Ok b
truth_truth true = ap (truth_of (truth_text true)) (numeral_truth true)
truth_truth false = ap (truth_of (truth_text false)) (numeral_truth false)

short_truth : (n : ℕ) (b : Bool) → 1 ≤ n → length (truth_text b) ≤ n
short_truth n true h = h
short_truth n false h = h

-- its text is in decimal already, and as true as it is
pub held : {most : ℕ} {r : Job → Step} {x : Point} (limit : ℕ) (s : State) (k : Bool → State → Step) (b : Bool) → 1 ≤ limit
    → Simulates most r (given (normal (truth_text b) (numeral (truth_text b))) s (λ u. sized limit u (given (truth u) s (λ holds. k holds s)))) x (k b s) x
held limit s k b h =
    continue_with
    (given_on _ _ s (λ u. sized limit u (given (truth u) s (λ holds. k holds s))) (normal_truth b))
    (continue_with (sized_on limit (truth_text b) _ (short_truth limit b h)) (given_on _ _ s (λ holds. k holds s) (truth_truth b)))

pub held_found : (res : Option Bool) (made : ComputedValue) (limit : ℕ) (e : Expr Operand) (s : State) → IfSome res (λ b. (made ≡ Truth b) × (1 ≤ limit))
    → ((most remaining : ℕ) (r : Job → Step) (k : Next) (x : Point) → Simulates most r (expr (bounds limit remaining) e s k) x (k (computed_text made) s) x)
    → IfSome res (λ b. (most remaining : ℕ) (r : Job → Step) (k : Bool → State → Step) (x : Point) → Simulates most r (condition_plan (bounds limit remaining) e s k) x (k b s) x)
held_found None made limit e s h m = tt
held_found (Some b) made limit e s h m = λ most remaining r k x.
    let next : Next = λ v s'. given (normal v (numeral v)) s' (λ u. sized limit u (given (truth u) s' (λ holds. k holds s'))) in
    continue_with (rw h.0 at (m most remaining r next x)) (held limit s k b h.1)
