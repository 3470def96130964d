-- How a plan stops, and goes on as an equal one.
use Rattle.std.proofs.Common.{◌≡◌, ℕ}
use Rattle.tclrules.specs.Variables.{State}
use Rattle.tclrules.specs.Plans as plans
use Rattle.tclrules.specs.Plans.{Job, Step}
use Rattle.tclrules.specs.Simulates.{Point, Simulates}
use Rattle.tclrules.proofs.Leading.{stay, starve}
use Rattle.tclvalue.specs.operators.Faults.{ValueReason, HasReason}
use Rattle.tclvalue.specs.declared.operators.fault.ValueFault.{ValueFault}
use Rattle.tclvalue.specs.declared.operators.fault.ValueFault.TheVariants as faults
use Rattle.tclforms.specs.substitution.Stops.{stopped, stop_of}

-- a fault that has this reason
pub fault_stops : {most : ℕ} {r : Job → Step} {x : Point} (e : ValueFault) (reason : ValueReason) (s : State) → HasReason reason e → Simulates most r (plans.fault reason s) x (stopped (stop_of e) s) x
fault_stops faults.OutOfMemory reason s h = starve
fault_stops (faults.Text f) reason s h = rw (← h) stay
fault_stops (faults.TclError m) reason s h = rw (← h) stay
fault_stops faults.ValueTooLong reason s h = rw (← h) stay
fault_stops faults.NumberTooLarge reason s h = rw (← h) stay
fault_stops faults.FractionOperand reason s h = rw (← h) stay
fault_stops (faults.LeftOut n) reason s h = rw (← h) stay

-- an equation between plans
pub same_as : {most : ℕ} {r : Job → Step} {p q p' : Step} {x y : Point} → q ≡ p' → Simulates most r p x q y → Simulates most r p x p' y
same_as e l = rw (← e) l
