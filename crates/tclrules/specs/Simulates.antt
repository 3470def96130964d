-- How far a call of the program is in a derivation, plan by plan. Own.
use Rattle.std.specs.Prelude.{◌≡◌, ℕ, true, List}
use Rattle.tclrules.specs.Oracle.{Oracle, Trace}
use Rattle.tclrules.specs.Derivation.{EvaluationOutcome, OpenScript, Plan, World, Eval}

-- the oracle of the host, and the world so far
pub record Point : Type 0 where
  pub oracle : Oracle
  pub world : World

abbrev pub point : Oracle → Trace → ℕ → List OpenScript → Point
point oracle trace used scripts =
    record { oracle = oracle; world = record { used = used; trace = trace; scripts = scripts } }

-- the second plan from the second point simulates the first from the first: whatever it evaluates to, so does the first
pub record Simulates {J R : Type 0} (most : ℕ) (rule : J → Plan J R) (simulated : Plan J R) (simulated_point : Point)
    (plan : Plan J R)
    (plan_point : Point) : Type 0 where
  pub same : plan_point.oracle ≡ simulated_point.oracle
  pub by : (o : EvaluationOutcome R) (w : World) → Eval true plan_point.oracle most rule plan plan_point.world o w
      → Eval true simulated_point.oracle most rule simulated simulated_point.world o w
