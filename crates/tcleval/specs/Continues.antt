-- What a call of an evaluator promises (own): from its plan it is enough to go on with what follows its result.
use Rattle.std.specs.Prelude.{Result, String, string_bytes}
use Rattle.std.specs.declared.alloc.Global.{Global}
use Rattle.tclrules.specs.Oracle.{Oracle, Trace}
use Rattle.tclrules.specs.Variables.{State}
use Rattle.tclrules.specs.Plans as plans
use Rattle.tclrules.specs.Plans.{Next, Step}
use Rattle.tclrules.specs.Rules.{rule}
use Rattle.tclrules.specs.Simulates.{Point, Simulates, point}
use Rattle.tclforms.specs.substitution.Stops.{after}
use Rattle.tclforms.specs.declared.substitution.stop.Stop.{Stop}
use Rattle.tcleval.specs.declared.bounds.Bounds.{Bounds}
use Rattle.tcleval.specs.declared.evaluator.Evaluator.{Evaluator}

-- the bounds of the rules that bounds of the program stand for
abbrev pub bounds_of : Bounds → plans.Bounds
bounds_of b = record { bytes = b.limits.value_bytes; remaining = b.remaining }

-- where an evaluation is, by these answers and this trace of its host
abbrev pub point_at : {H : Type 0} → (H → Oracle) → (H → Trace) → H × Evaluator → Point
point_at oracle trace at = point (oracle at.0) (trace at.0) at.1.used at.1.scripts

-- from this plan, with the host and the evaluator before a call, it is enough to go on with what follows the result of
-- the call, with the host and the evaluator after it
abbrev pub Continues : {H A : Type 0} → (H → Oracle) → (H → Trace) → Bounds → Step → H × Evaluator → Result A Stop
    → (A → State → Step) → H × Evaluator → Type 0
Continues oracle trace bounds plan before result next end =
    Simulates bounds.limits.commands (rule bounds.limits.value_bytes) plan (point_at oracle trace before)
    (after result next end.1.variables) (point_at oracle trace end)

-- the continuation after a text that a call answers
abbrev pub with_text : Next → String Global → State → Step
with_text k t s = k (string_bytes t) s
