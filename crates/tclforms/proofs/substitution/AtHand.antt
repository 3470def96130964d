-- Plans of operands that are at hand.
use Rattle.std.proofs.Common.{◌≡◌, ℕ, Bool, false, List, Bor, Option, Some, None, option_map, refl}
use Rattle.std.specs.Prelude.{IfSome}
use Rattle.tcltext.specs.chars.Runs.{Text}
use Rattle.tclrules.specs.Plans.{Job, Step, Next}
use Rattle.tclrules.specs.Simulates.{Point, Simulates}
use Rattle.tclrules.specs.Variables.{State, value_at}
use Rattle.tclrules.specs.Words.{read_scalar}
use Rattle.tclforms.specs.variables.Locations.{is_env}
use Rattle.tclforms.proofs.substitution.Scalars.{scalar_found}

pub if_some : {A : Type 0} (P Q : A → Type 0) (r : Option A) → ((a : A) → P a → Q a) → IfSome r P → IfSome r Q
if_some P Q None f h = tt
if_some P Q (Some a) f h = f a h

-- what the same plan leads to
pub from_same : {most : ℕ} {r : Job → Step} {p q o : Step} {x y : Point} → p ≡ q → Simulates most r q x o y → Simulates most r p x o y
from_same e l = rw e l

-- the plan of a scalar variable that is set
pub value_found : (o : Option (Bor (List ℕ))) (p : Bool × Text) (s : State) → is_env p ≡ false
    → option_map (λ v. v.now) o ≡ value_at s p → IfSome o
    (λ v. (spelled : Text) (k : Next) → read_scalar spelled p.0 p.1 s k ≡ k v.now s)
value_found None p s h e = tt
value_found (Some v) p s h e = λ spelled k. rw (scalar_found spelled p s k h, ← e) refl
