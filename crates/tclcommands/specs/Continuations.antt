-- How a command of the program follows the rules of evaluation (own; the commands are those of Tcl's pages): the plan
-- of its form evaluates to whatever follows it, with the result and the variables that the call gave.
use Rattle.std.specs.Prelude.{ℕ, ℤ, Bool, List, [], ◌∷◌, map, codes, String, string_bytes, Result, unwrap_or}
use Rattle.std.specs.Borrow.{Bor}
use Rattle.std.specs.Fmt.{signed_decimal}
use Rattle.std.specs.declared.alloc.Global.{Global}
use Rattle.tcltext.specs.chars.Runs.{Text}
use Rattle.tclrules.specs.Variables.{State, value_at}
use Rattle.tclrules.specs.Derivation.{OpenScript}
use Rattle.tclrules.specs.Simulates.{Point, Simulates}
use Rattle.tclrules.specs.Plans as plans
use Rattle.tclrules.specs.Plans.{Bounds, Job, Next, given}
use Rattle.tclrules.specs.Rules.{increased, lengthened, value_or, write_at}
use Rattle.tclforms.specs.substitution.Machine.{bounds}
use Rattle.tclforms.specs.substitution.Stops.{after}
use Rattle.tclforms.specs.declared.substitution.stop.Stop.{Stop}
use Rattle.tclforms.specs.variables.Locations.{scalar_view}
use Rattle.tclcommands.specs.declared.value.Value.{Value}
use Rattle.tclcommands.specs.declared.value.Value.TheVariants as values

-- the text of a result, where these are the variables
abbrev pub value_text : Value → State → Text
value_text (values.Text t) s = string_bytes t
value_text (values.Word w) s = w.now
value_text (values.Number n) s = signed_decimal n
value_text (values.Variable v) s = unwrap_or (value_at s (scalar_view v)) []

-- the first of the words, which is a command's name
abbrev pub command_name : List Text → Text
command_name [] = []
command_name (w ∷ ws) = w

-- names with their values
abbrev pub named_values : List (Bor (List ℕ) × String Global) → List (Text × Text)
named_values ps = map (λ p. (p.0.now, string_bytes p.1)) ps

-- Below, p is the plan by the rules, b its bounds, k what follows it, r the plan of each job, x and y points (how far
-- the evaluation has come), used how many commands were counted before, and scripts those under evaluation.

-- the plan continues with the text of the result, over the variables after the call; the host may have been asked
abbrev pub ContinuesWithResult : (Bounds → Next → plans.Step) → Result Value Stop → State
    → (ℕ → List OpenScript → Point) → (ℕ → List OpenScript → Point) → Type 0
ContinuesWithResult p result s x y =
    (most used : ℕ) (scripts : List OpenScript) (b : Bounds) (r : Job → plans.Step) (k : Next)
    → Simulates most r (p b k) (x used scripts) (after result (λ v s'. k (value_text v s') s') s) (y used scripts)

-- the same where the host isn't asked
abbrev pub ContinuesWithoutHost : (Bounds → Next → plans.Step) → Result Value Stop → State → Type 0
ContinuesWithoutHost p result s =
    (most : ℕ) (b : Bounds) (r : Job → plans.Step) (k : Next) (x : Point)
    → Simulates most r (p b k) x (after result (λ v s'. k (value_text v s') s') s) x

-- the same where the host isn't asked and a value is written that may have so many bytes
abbrev pub ContinuesWithinLimit : (Bounds → Next → plans.Step) → ℕ → Result Value Stop → State → Type 0
ContinuesWithinLimit p limit result s =
    (most remaining : ℕ) (r : Job → plans.Step) (k : Next) (x : Point)
    → Simulates most r (p (bounds limit remaining) k) x (after result (λ v s'. k (value_text v s') s') s) x

-- the same of a call that gives a whole number, which is written in decimal
abbrev pub ContinuesWithNumber : (Bounds → Next → plans.Step) → ℕ → Result ℤ Stop → State → Type 0
ContinuesWithNumber p limit result s =
    (most remaining : ℕ) (r : Job → plans.Step) (k : Next) (x : Point)
    → Simulates most r (p (bounds limit remaining) k) x (after result (λ n s'. k (signed_decimal n) s') s) x

-- the same of a call without a result: the plan continues with this text of the variables after the call
abbrev pub ContinuesWithText : (Bounds → Next → plans.Step) → ℕ → Result (Unit {0}) Stop → (State → Text) → State
    → Type 0
ContinuesWithText p limit result t s =
    (most remaining : ℕ) (r : Job → plans.Step) (k : Next) (x : Point)
    → Simulates most r (p (bounds limit remaining) k) x (after result (λ u s'. k (t s') s') s) x

-- the same where the plan continues with the variables alone
abbrev pub ContinuesWithVariables : ((State → plans.Step) → plans.Step) → Result (Unit {0}) Stop → State → Type 0
ContinuesWithVariables p result s =
    (most : ℕ) (r : Job → plans.Step) (k : State → plans.Step) (x : Point)
    → Simulates most r (p k) x (after result (λ u s'. k s') s) x

-- the same where values are written that may have so many bytes
abbrev pub ContinuesWithVariablesWithin : (Bounds → (State → plans.Step) → plans.Step) → ℕ → Result (Unit {0}) Stop
    → State → Type 0
ContinuesWithVariablesWithin p limit result s =
    (most remaining : ℕ) (r : Job → plans.Step) (k : State → plans.Step) (x : Point)
    → Simulates most r (p (bounds limit remaining) k) x (after result (λ u s'. k s') s) x

-- the plan continues with the text that the host answered
abbrev pub ContinuesWithAnswer : (Next → plans.Step) → Result (String Global) Stop → State
    → (ℕ → List OpenScript → Point) → (ℕ → List OpenScript → Point) → Type 0
ContinuesWithAnswer p result s x y =
    (most used : ℕ) (scripts : List OpenScript) (r : Job → plans.Step) (k : Next)
    → Simulates most r (p k) (x used scripts) (after result (λ t s'. k (string_bytes t) s') s) (y used scripts)

-- the plan that appends elements to the list in the variable at a location
abbrev pub append_at : Bounds → Bool × Text → List Text → State → Next → plans.Step
append_at b p xs s k = given (lengthened (value_or [] s p) xs) s (λ t. write_at b p t s k)

-- the plan that adds a whole number to that in the variable at a location, 0 where it is unset
abbrev pub increase_at : Bounds → Bool × Text → Text → State → Next → plans.Step
increase_at b p n s k = given (increased (value_or (codes "0") s p) n) s (λ t. write_at b p t s k)
