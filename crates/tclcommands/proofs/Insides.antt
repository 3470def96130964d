-- Names of variables, one after the other, and what is seen of them.
use Rattle.std.proofs.Common.{◌≡◌, ℕ, ◌+◌, ◌<◌, Bool, true, false, Bor, List, ◌∷◌, drop, get_or, length, map, Option}
use Rattle.std.proofs.Common.{Some, None, is_some, option_map, String, Global, string_bytes, refl, ap, ◌∙◌, add-one}
use Rattle.std.proofs.Math.Seq.{drop-cons}
use Rattle.tclvalue.specs.operators.Operators.{truth_text}
use Rattle.tcltext.specs.chars.Runs.{Text}
use Rattle.tclrules.specs.Messages.{cannot_unset}
use Rattle.tclrules.specs.Variables.{Scalar, State, Frame, value_at, without_value}
use Rattle.tclrules.specs.Plans.{Step, Next, raise}
use Rattle.tclrules.specs.Rules.{exists_at, share, share_from, is_set, unset_at}
use Rattle.tclforms.specs.variables.Locations.{is_env}

pub inside : (f : Option Frame) (vs : List Text) (s : State) (k : State → Step) → is_some f ≡ true → share_from f vs s k ≡ share vs s k
inside None vs s k h = cc
inside (Some f) vs s k h = refl

pub not_inside : (f : Option Frame) (vs : List Text) (s : State) (k : State → Step) → is_some f ≡ false → share_from f vs s k ≡ k s
not_inside None vs s k h = refl
not_inside (Some f) vs s k h = cc

-- the names from one on
pub names_from : (names : List (String Global)) (i : ℕ) (name : String Global) → i < length names
    → name ≡ get_or names i name → map string_bytes (drop i names) ≡ string_bytes name ∷ map string_bytes
    (drop (i + 1) names)
names_from names i name h e = ap (map string_bytes) (drop-cons names i name h) ∙ rw (← e, add-one) refl

pub seen : (s : State) (k : Next) (v : Option (String Global)) (b : Bool) → b ≡ is_some v → is_set s k (option_map string_bytes v) ≡ k (truth_text b) s
seen s k None b e = rw e refl
seen s k (Some t) b e = rw e refl

-- the array of the environment is always set, a scalar variable where it has a value
pub env_set : (s : State) (k : Next) (p : Bool × Text) → is_env p ≡ true → exists_at s k (Scalar p.0 p.1) ≡ k (truth_text true) s
env_set s k (true, n) h = rw h refl
env_set s k (false, n) h = cc

pub value_set : (s : State) (k : Next) (p : Bool × Text) (o : Option (Bor (List ℕ))) (b : Bool) → is_env p ≡ false
    → option_map (λ v. v.now) o ≡ value_at s p → b ≡ is_some o → exists_at s k (Scalar p.0 p.1) ≡ k (truth_text b) s
value_set s k (true, n) None b h e i = rw (h, ← e, i) refl
value_set s k (true, n) (Some v) b h e i = rw (h, ← e, i) refl
value_set s k (false, n) None b h e i = rw (← e, i) refl
value_set s k (false, n) (Some v) b h e i = rw (← e, i) refl

pub unset_there : (quiet : Bool) (v : Text) (s : State) (p : Bool × Text) (k : State → Step) (o : Option Text) → is_some o ≡ true → unset_at quiet v s p k o ≡ k (without_value s p)
unset_there quiet v s p k None h = cc
unset_there quiet v s p k (Some t) h = refl

pub unset_absent : (v : Text) (s : State) (p : Bool × Text) (k : State → Step) (o : Option Text) → is_some o ≡ false
    → (unset_at true v s p k o ≡ k s) × (unset_at false v s p k o ≡ raise (cannot_unset v) s)
unset_absent v s p k None h = (refl, refl)
unset_absent v s p k (Some t) h = cc
