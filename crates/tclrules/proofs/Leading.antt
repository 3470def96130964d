-- How a program builds a derivation from its first step on: each lemma is one step between plans, for every table of
-- rules.
use Rattle.std.proofs.Common.{◌≡◌, ℕ, ◌+◌, ◌<◌, ◌≤◌, true, List, Option, refl, ◌∙◌}
use Rattle.tcltext.specs.chars.Runs.{Text}
use Rattle.tclrules.specs.Oracle.{Oracle, Question, Trace, OracleAnswer, trace_after}
use Rattle.tclrules.specs.Derivation.{Halt, TooManyCommands, OutOfMemory, EvaluationOutcome, Ended, Halted, HostReply}
use Rattle.tclrules.specs.Derivation.{OpenScript, Plan, Ends, Counts, Moves, Consults, ReadsEnvironment, Runs, World}
use Rattle.tclrules.specs.Derivation.{Eval, ends, counts, meets_limit, moves, consults, reads, runs, halts}
use Rattle.tclrules.specs.Derivation.{lacks_memory, replied, variable_read, with_questions, having_asked}
use Rattle.tclrules.specs.Simulates.{Point, point, Simulates}

pub stay : {J R : Type 0} {most : ℕ} {rule : J → Plan J R} {p : Plan J R} {x : Point} → Simulates most rule p x p x
stay = record { same = refl; by = λ o w d. d }

pub continue_with : {J R : Type 0} {most : ℕ} {rule : J → Plan J R} {p q r : Plan J R} {x y z : Point} → Simulates most rule p x q y → Simulates most rule q y r z → Simulates most rule p x r z
continue_with a b = record { same = b.same ∙ a.same; by = λ o w d. a.by o w (b.by o w d) }

-- want of memory, anywhere
want_by : {J R : Type 0} {oracle : Oracle} {most : ℕ} {rule : J → Plan J R} {p : Plan J R} {v : World}
    {o : EvaluationOutcome R} {w : World} (asked : List Question)
    → Eval true oracle most rule (Ends (Halted OutOfMemory)) (having_asked asked v) o w
    → Eval true oracle most rule p v o w
want_by asked ends = lacks_memory asked refl
want_by asked (lacks_memory again h) = lacks_memory again h

pub want : {J R : Type 0} {most : ℕ} {rule : J → Plan J R} {p : Plan J R} {oracle oracle' : Oracle}
    {trace trace' : Trace} {n : ℕ} {scripts : List OpenScript} (asked : List Question)
    → trace' ≡ with_questions asked trace → oracle' ≡ oracle → Simulates most rule p (point oracle trace n scripts)
    (Ends (Halted OutOfMemory)) (point oracle' trace' n scripts)
want asked e s = record { same = s; by = λ o w d. want_by asked (rw (s, e) at d) }

pub starve : {J R : Type 0} {most : ℕ} {rule : J → Plan J R} {p : Plan J R} {x : Point} → Simulates most rule p x (Ends (Halted OutOfMemory)) x
starve {x = x} = record { same = refl; by = λ o w d. want_by x.world.trace.asked d }

-- a command or a turn is counted
pub count_on : {J R : Type 0} {most : ℕ} {rule : J → Plan J R} {p : Plan J R} {oracle : Oracle} {trace : Trace} {n : ℕ}
    {scripts : List OpenScript} → n < most
    → Simulates most rule (Counts p) (point oracle trace n scripts) p (point oracle trace (n + 1) scripts)
count_on h = record { same = refl; by = λ o w d. counts h d }

over_by : {J R : Type 0} {oracle : Oracle} {most : ℕ} {rule : J → Plan J R} {p : Plan J R} {w : World}
    {o : EvaluationOutcome R} {w' : World} → most ≤ w.used
    → Eval true oracle most rule (Ends (Halted TooManyCommands)) w o w' → Eval true oracle most rule (Counts p) w o w'
over_by h ends = meets_limit h
over_by h (lacks_memory a g) = lacks_memory a g

pub count_over : {J R : Type 0} {most : ℕ} {rule : J → Plan J R} {p : Plan J R} {oracle : Oracle} {trace : Trace}
    {n : ℕ} {scripts : List OpenScript} → most ≤ n → Simulates most rule (Counts p) (point oracle trace n scripts)
    (Ends (Halted TooManyCommands)) (point oracle trace n scripts)
count_over h = record { same = refl; by = λ o w d. over_by h d }

-- the scripts under evaluation change
pub move_on : {J R : Type 0} {most : ℕ} {rule : J → Plan J R} {change : List OpenScript → List OpenScript}
    {p : Plan J R} {oracle : Oracle} {trace : Trace} {n : ℕ} {scripts : List OpenScript}
    → Simulates most rule (Moves change p) (point oracle trace n scripts) p (point oracle trace n (change scripts))
move_on = record { same = refl; by = λ o w d. moves d }

-- the host is asked, and a variable of the environment is read
pub hear_on : {J R : Type 0} {most : ℕ} {rule : J → Plan J R} {words : List Text} {k : HostReply → Plan J R}
    {oracle oracle' : Oracle} {trace : Trace} {n : ℕ} {scripts : List OpenScript} {a : OracleAnswer}
    → oracle.command trace.records words ≡ a → oracle' ≡ oracle
    → Simulates most rule (Consults words k) (point oracle trace n scripts) (replied k a)
    (point oracle' (trace_after trace words a) n scripts)
hear_on e s = record { same = s; by = λ o w d. consults (rw e (rw s at d)) }

pub read_on : {J R : Type 0} {most : ℕ} {rule : J → Plan J R} {name : Text} {k : Option Text → Plan J R}
    {oracle oracle' : Oracle} {trace : Trace} {n : ℕ} {scripts : List OpenScript} {v : Option Text}
    → oracle.variable trace.records name ≡ v → oracle' ≡ oracle
    → Simulates most rule (ReadsEnvironment name k) (point oracle trace n scripts) (k v)
    (point oracle' (variable_read name v trace) n scripts)
read_on e s = record { same = s; by = λ o w d. reads (rw e (rw s at d)) }

-- a job that ended, and one that halted
pub run_on : {J R : Type 0} {most : ℕ} {rule : J → Plan J R} {j : J} {k : R → Plan J R} {x y : Point} {r : R}
    → Simulates most rule (rule j) x (Ends (Ended r)) y → Simulates most rule (Runs j k) x (k r) y
run_on l = record { same = l.same; by = λ o w d. runs (l.by _ _ ends) (rw l.same at d) }

halted_by : {J R : Type 0} {oracle oracle' : Oracle} {most : ℕ} {rule : J → Plan J R} {j : J} {k : R → Plan J R}
    {f : Halt} {v w : World} {o : EvaluationOutcome R} {w' : World}
    → Eval true oracle' most rule (Ends (Halted f)) v o w' → Eval true oracle most rule (rule j) w o w'
    → Eval true oracle most rule (Runs j k) w o w'
halted_by ends d = halts d
halted_by (lacks_memory a h) d = halts d

pub run_halts : {J R : Type 0} {most : ℕ} {rule : J → Plan J R} {j : J} {k : R → Plan J R} {x y : Point} {f : Halt}
    → Simulates most rule (rule j) x (Ends (Halted f)) y → Simulates most rule (Runs j k) x (Ends (Halted f)) y
run_halts l = record { same = l.same; by = λ o w d. halted_by d (l.by o w d) }

-- a job whose last step is another job, as a turn of a loop
tail_by : {J R : Type 0} {oracle oracle' : Oracle} {most : ℕ} {rule : J → Plan J R} {j j' : J} {k : R → Plan J R}
    {v w : World} {o : EvaluationOutcome R} {w' : World} → oracle' ≡ oracle
    → ((o : EvaluationOutcome R) (w' : World) → Eval true oracle' most rule (Runs j' (λ e. Ends (Ended e))) v o w'
    → Eval true oracle most rule (rule j) w o w') → Eval true oracle' most rule (Runs j' k) v o w'
    → Eval true oracle most rule (Runs j k) w o w'
tail_by s l (runs d c) = runs (l _ _ (runs d ends)) (rw s at c)
tail_by s l (halts d) = halts (l _ _ (halts d))
tail_by s l (lacks_memory a h) = halts (l _ _ (lacks_memory a h))

pub run_tail : {J R : Type 0} {most : ℕ} {rule : J → Plan J R} {j j' : J} {k : R → Plan J R} {x y : Point}
    → Simulates most rule (rule j) x (Runs j' (λ e. Ends (Ended e))) y → Simulates most rule (Runs j k) x (Runs j' k) y
run_tail l = record { same = l.same; by = λ o w d. tail_by l.same l.by d }
