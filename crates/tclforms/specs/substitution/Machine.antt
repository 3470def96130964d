-- How the steps of a substitution follow the rules of evaluation (own): what the rules continue with once a
-- continuation frame has its value, and the plan that a step stands for.
use Rattle.std.specs.Prelude.{ℕ, ◌+◌, ◌<◌, IfOk, List, [], ◌∷◌, ◌++◌, true, false, codes, Result, string_bytes}
use Rattle.tcltext.specs.chars.Runs.{Text}
use Rattle.tcltext.specs.script.Pieces.{between}
use Rattle.tcltext.specs.script.View.{parts_view, script_view}
use Rattle.tcltext.specs.declared.script.piece.ByteRange.{ByteRange}
use Rattle.tcltext.specs.expr.View.{expr_view}
use Rattle.tclvalue.specs.operators.Operators.{truth, truth_text, unary_value, binary_value}
use Rattle.tclrules.specs.Derivation.{OpenScript, Runs}
use Rattle.tclrules.specs.Variables.{State}
use Rattle.tclrules.specs.Plans as plans
use Rattle.tclrules.specs.Plans.{Bounds, Job, Next, Bracket, on_normal, given, sized}
use Rattle.tclrules.specs.Simulates.{Point, Simulates}
use Rattle.tclrules.specs.Words.{parts, read_element}
use Rattle.tclrules.specs.Expressions.{expr}
use Rattle.tclforms.specs.substitution.Stops.{after}
use Rattle.tclforms.specs.substitution.Weights.{parts_weight, expr_weight}
use Rattle.tclforms.specs.declared.substitution.stop.Stop.{Stop}
use Rattle.tclforms.specs.declared.substitution.context.SubstitutionContext.{SubstitutionContext}
use Rattle.tclforms.specs.declared.substitution.frame.WaitingFrame.{WaitingFrame}
use Rattle.tclforms.specs.declared.substitution.frame.WaitingFrame.TheVariants as frames
use Rattle.tclforms.specs.declared.substitution.frame.Control.{Control}
use Rattle.tclforms.specs.declared.substitution.frame.Control.TheVariants as controls
use Rattle.tclforms.specs.declared.substitution.frame.Step.{Step}
use Rattle.tclforms.specs.declared.substitution.frame.Step.TheVariants as steps

-- the text of a range of a source
abbrev pub range_text : Text → ByteRange → Text
range_text source range = between source range.start range.end

-- how many bytes a value may have, and how many scripts may still begin inside one another
abbrev pub bounds : ℕ → ℕ → Bounds
bounds bytes remaining = record { bytes = bytes; remaining = remaining }

-- what the rules do with the value that a frame waits for; `k` is what they do after the frame
abbrev pub continuation : Text → Bounds → WaitingFrame → Next → Next
continuation source b (frames.Element name) k t s = read_element name.now t s k
continuation source b (frames.Joined text ps) k t s =
    sized b.bytes (string_bytes text ++ t) (parts b (parts_view (range_text source) ps.now)
    (string_bytes text ++ t) s k)
continuation source b frames.Operand k t s = sized b.bytes t (k t s)
continuation source b (frames.Unary u) k t s = given (unary_value u t) s (λ v. k v s)
continuation source b (frames.Left o r) k t s =
    expr b (expr_view (range_text source) r.now) s (λ u s2. given (binary_value o t u) s2 (λ v. k v s2))
continuation source b (frames.Right o t) k u s = given (binary_value o (string_bytes t) u) s (λ v. k v s)
continuation source b (frames.And r) k t s =
    given (truth t) s (elim [
      | true ↦ expr b (expr_view (range_text source) r.now) s (λ u s2. given (truth u) s2 (λ v. k (truth_text v) s2))
      | false ↦ k (codes "0") s
    ])
continuation source b (frames.Or r) k t s =
    given (truth t) s (elim [
      | true ↦ k (codes "1") s
      | false ↦ expr b (expr_view (range_text source) r.now) s (λ u s2. given (truth u) s2 (λ v. k (truth_text v) s2))
    ])
continuation source b frames.Truth k u s = given (truth u) s (λ v. k (truth_text v) s)
continuation source b (frames.Choice y n) k t s =
    given (truth t) s (elim [
      | true ↦ expr b (expr_view (range_text source) y.now) s k
      | false ↦ expr b (expr_view (range_text source) n.now) s k
    ])

-- the same of a whole stack of frames, the newest first
abbrev pub stack_continuation : Text → Bounds → List WaitingFrame → Next → Next
stack_continuation source b [] k = k
stack_continuation source b (f ∷ fs) k = continuation source b f (stack_continuation source b fs k)

-- the plan of the rules for what is evaluated next
abbrev pub control_plan : Text → Bounds → Control → State → Next → plans.Step
control_plan source b (controls.Parts text ps) s k = parts b (parts_view (range_text source) ps.now)
    (string_bytes text) s k
control_plan source b (controls.Expression e) s k = expr b (expr_view (range_text source) e.now) s k
control_plan source b (controls.Value t) s k = k (string_bytes t) s

-- the plan of the rules after a step, with the frames that wait then
abbrev pub step_plan : Text → Bounds → Step → List WaitingFrame → State → Next → plans.Step
step_plan source b (steps.Next c) fs s k = control_plan source b c s (stack_continuation source b fs k)
step_plan source b (steps.Done t) fs s k = k (string_bytes t) s
step_plan source b (steps.Bracket cs) fs s k =
    Runs (Bracket b.remaining (script_view (range_text source) cs.now) s) (on_normal (stack_continuation source b fs k))

-- the weight of what is still to be done for a frame, for a stack of frames, and for what is evaluated next

abbrev pub frame_weight : Text → WaitingFrame → ℕ
frame_weight source (frames.Element name) = 1
frame_weight source (frames.Joined text ps) = 2 + parts_weight (parts_view (range_text source) ps.now)
frame_weight source frames.Operand = 1
frame_weight source (frames.Unary u) = 1
frame_weight source (frames.Left o r) = 3 + expr_weight (expr_view (range_text source) r.now)
frame_weight source (frames.Right o t) = 1
frame_weight source (frames.And r) = 3 + expr_weight (expr_view (range_text source) r.now)
frame_weight source (frames.Or r) = 3 + expr_weight (expr_view (range_text source) r.now)
frame_weight source frames.Truth = 1
frame_weight source (frames.Choice y n) =
    1 + (expr_weight (expr_view (range_text source) y.now) + expr_weight (expr_view (range_text source) n.now))

abbrev pub frames_weight : Text → List WaitingFrame → ℕ
frames_weight source [] = 0
frames_weight source (f ∷ fs) = frame_weight source f + frames_weight source fs

abbrev pub control_weight : Text → Control → ℕ
control_weight source (controls.Parts text ps) = 1 + parts_weight (parts_view (range_text source) ps.now)
control_weight source (controls.Expression e) = expr_weight (expr_view (range_text source) e.now)
control_weight source (controls.Value t) = 0

-- what is still to be done after a step weighs less than this number, unless all is done
abbrev pub WeighsLess : Text → Step → List WaitingFrame → ℕ → Type 0
WeighsLess source (steps.Next c) fs n = control_weight source c + frames_weight source fs < n
WeighsLess source (steps.Done t) fs n = Unit {0}
WeighsLess source (steps.Bracket cs) fs n = frames_weight source fs < n

-- a step follows the rules: whatever its result and the stack evaluate to from the second point, the plan evaluates to
-- from the first; and what is still to be done weighs less than this number
abbrev pub StepsTo : (Bounds → Next → plans.Step) → SubstitutionContext → (ℕ → List OpenScript → Point)
    → Result Step Stop → List WaitingFrame → ℕ → (ℕ → List OpenScript → Point) → Type 0
StepsTo p c x result fs n y =
    ((most used remaining : ℕ) (scripts : List OpenScript) (r : Job → plans.Step) (k : Next)
    → Simulates most r (p (bounds c.limits.value_bytes remaining) k) (x used scripts)
    (after result (λ st s. step_plan c.source.now (bounds c.limits.value_bytes remaining) st fs s k) c.variables.now)
    (y used scripts))
    × IfOk result (λ st. WeighsLess c.source.now st fs n)
