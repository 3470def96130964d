-- How a call of the program comes on in a derivation.
use Rattle.std.proofs.Common.{◌≡◌, ℕ, ◌<◌, ◌≤◌, Bool, true, false, length, Result, Ok, Err, string_bytes, arith}
use Rattle.std.specs.Prelude.{IsErrAnd, IfSome, nat_lt, if◌then◌else◌}
use Rattle.std.proofs.lemmas.Bool.Decides.{nat_tests}
use Rattle.tcltext.specs.chars.Runs.{Text}
use Rattle.tclvalue.specs.operators.Faults.{Answer, HasReason, error, reason_of}
use Rattle.tclvalue.specs.declared.operators.fault.ValueFault.{ValueFault}
use Rattle.tclvalue.specs.declared.operators.fault.ValueFault.TheVariants as faults
use Rattle.tclrules.specs.Derivation as rules
use Rattle.tclrules.specs.Derivation.{Runs, ValueTooLong}
use Rattle.tclrules.specs.Variables.{State}
use Rattle.tclrules.specs.Plans.{Job, Step, Next, halt, raise, on_normal, given, sized}
use Rattle.tclrules.specs.Simulates.{Point, Simulates}
use Rattle.tclrules.specs.declared.outcome.EvalFault.{EvalFault}
use Rattle.tclrules.specs.declared.outcome.EvalFault.TheVariants as evals
use Rattle.tclrules.proofs.Leading.{stay, continue_with, starve, run_on, run_halts}
use Rattle.tclforms.specs.substitution.Stops.{error_or_halt, stopped, after, stop_of}
use Rattle.tclforms.specs.declared.substitution.stop.Stop.{Stop}
use Rattle.tclforms.specs.declared.substitution.stop.Stop.TheVariants as stops

-- where memory ran out
pub starved_end : {A : Type 0} {most : ℕ} {r : Job → Step} {p : Step} {x : Point} (k : A → State → Step) (s : State)
    (res : Result A Stop) → IsErrAnd res (λ f. f ≡ stops.Fault evals.OutOfMemory)
    → Simulates most r p x (after res k s) x
starved_end k s (Ok a) h = absurd h
starved_end k s (Err f) h = rw h starve

-- where a callee's stop is handed on
pub passed_on : {A : Type 0} {most : ℕ} {r : Job → Step} {p : Step} {x y : Point} (k : A → State → Step) (s : State)
    (e : Stop) (res : Result A Stop) → IsErrAnd res (λ f. f ≡ e) → Simulates most r p x (stopped e s) y
    → Simulates most r p x (after res k s) y
passed_on k s e (Ok a) h l = absurd h
passed_on k s e (Err f) h l = rw h l

-- where memory ran out after having come some way
pub starved_after : {A : Type 0} {most : ℕ} {r : Job → Step} {p q : Step} {x y : Point} (k : A → State → Step)
    (s : State) (res : Result A Stop) → Simulates most r p x q y → IsErrAnd res (λ f. f ≡ stops.Fault evals.OutOfMemory)
    → Simulates most r p x (after res k s) y
starved_after k s res l h = continue_with l (starved_end k s res h)

-- a fault of values
pub given_stops : {A : Type 0} {most : ℕ} {r : Job → Step} {x : Point} (e : ValueFault) (answer : Answer A) (s : State)
    (k : A → Step) → IfSome (reason_of e) (λ f. answer ≡ Err f)
    → Simulates most r (given answer s k) x (stopped (stop_of e) s) x
given_stops faults.OutOfMemory answer s k h = starve
given_stops (faults.Text f) answer s k h = rw h stay
given_stops (faults.TclError m) answer s k h = rw h stay
given_stops faults.ValueTooLong answer s k h = rw h stay
given_stops faults.NumberTooLarge answer s k h = rw h stay
given_stops faults.FractionOperand answer s k h = rw h stay
given_stops (faults.LeftOut n) answer s k h = rw h stay

pub given_on : {A : Type 0} {most : ℕ} {r : Job → Step} {x : Point} (answer : Answer A) (a : A) (s : State) (k : A → Step) → answer ≡ Ok a → Simulates most r (given answer s k) x (k a) x
given_on answer a s k h = rw h stay

pub value_stops : {A B : Type 0} {most : ℕ} {r : Job → Step} {x : Point} (k : A → Step) (k' : B → State → Step)
    (s : State) (e : ValueFault) (answer : Answer A) (res : Result B Stop) → IsErrAnd res (λ f. f ≡ stop_of e)
    → IfSome (reason_of e) (λ f. answer ≡ Err f) → Simulates most r (given answer s k) x (after res k' s) x
value_stops k k' s e answer res h g = passed_on k' s (stop_of e) res h (given_stops e answer s k g)

-- a text within the limit, and a longer one
sized_by : {most : ℕ} {r : Job → Step} {x : Point} (b : Bool) (p : Step) → b ≡ false → Simulates most r (if b then halt ValueTooLong else p) x p x
sized_by b p e = rw e stay

cut_by : {most : ℕ} {r : Job → Step} {x : Point} (b : Bool) (p : Step) → b ≡ true → Simulates most r (if b then halt ValueTooLong else p) x (halt ValueTooLong) x
cut_by b p e = rw e stay

not_above : (a b : ℕ) → b ≤ a → nat_lt a b ≡ false
not_above a b h = grind (arith, nat_tests)

above : (a b : ℕ) → a < b → nat_lt a b ≡ true
above a b h = grind (arith, nat_tests)

pub sized_on : {most : ℕ} {r : Job → Step} {x : Point} (limit : ℕ) (t : Text) (p : Step) → length t ≤ limit → Simulates most r (sized limit t p) x p x
sized_on limit t p h = sized_by (nat_lt limit (length t)) p (not_above limit (length t) h)

pub sized_stops : {most : ℕ} {r : Job → Step} {x : Point} (limit : ℕ) (t : Text) (p : Step) → limit < length t → Simulates most r (sized limit t p) x (halt ValueTooLong) x
sized_stops limit t p h = cut_by (nat_lt limit (length t)) p (above limit (length t) h)

-- a fault is an error or halts
pub error_or_halt_by : {A : Type 0} (P : A → Type 0) (on_error : Text → A) (on_halt : rules.Halt → A) (f : EvalFault)
    → ((m : Text) → P (on_error m)) → ((h : rules.Halt) → P (on_halt h)) → P (error_or_halt on_error on_halt f)
error_or_halt_by P on_error on_halt evals.OutOfMemory e h = h rules.OutOfMemory
error_or_halt_by P on_error on_halt (evals.Text f) e h = h (rules.BadText f)
error_or_halt_by P on_error on_halt (evals.TclError m line) e h = e (string_bytes m)
error_or_halt_by P on_error on_halt evals.TooManyCommands e h = h rules.TooManyCommands
error_or_halt_by P on_error on_halt evals.TooDeep e h = h rules.TooDeep
error_or_halt_by P on_error on_halt evals.ValueTooLong e h = h rules.ValueTooLong
error_or_halt_by P on_error on_halt evals.NumberTooLarge e h = h rules.NumberTooLarge
error_or_halt_by P on_error on_halt evals.FractionOperand e h = h rules.FractionOperand
error_or_halt_by P on_error on_halt (evals.LeftOut name) e h = h (rules.LeftOut (string_bytes name))
error_or_halt_by P on_error on_halt evals.Stopped e h = h rules.Stopped
error_or_halt_by P on_error on_halt (evals.Host n) e h = h (rules.ByHost n)

-- a job whose stop is handed on
pub run_stops : {most : ℕ} {r : Job → Step} {j : Job} {k : Next} {x y : Point} (s : State) (f : Stop)
    → Simulates most r (r j) x (stopped f s) y → Simulates most r (Runs j (on_normal k)) x (stopped f s) y
run_stops {most} {r} {j} {k} {x} {y} s (stops.Fault f) = error_or_halt_by
    (λ p. Simulates most r (r j) x p y → Simulates most r (Runs j (on_normal k)) x p y) (λ m. raise m s) halt f
    (λ m l. run_on l) (λ h l. run_halts l)
run_stops s (stops.Returned t) = λ l. run_on l
run_stops s stops.Broken = λ l. run_on l
run_stops s stops.Continued = λ l. run_on l

-- a fault with a message raises it
pub reason_stops : {most : ℕ} {r : Job → Step} {x : Point} (m : Text) (e : ValueFault) (s : State) → HasReason (error m) e → Simulates most r (raise m s) x (stopped (stop_of e) s) x
reason_stops m faults.OutOfMemory s h = starve
reason_stops m (faults.Text f) s h = cc
reason_stops m (faults.TclError t) s h = let e : string_bytes t ≡ m = cc in rw e stay
reason_stops m faults.ValueTooLong s h = cc
reason_stops m faults.NumberTooLarge s h = cc
reason_stops m faults.FractionOperand s h = cc
reason_stops m (faults.LeftOut name) s h = cc
