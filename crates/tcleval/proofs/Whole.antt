-- What is answered of a whole file.
use Rattle.std.proofs.Common.{◌≡◌, ℕ, true, List, [], Result, Ok, Err, String, Global, ⊎_elim, refl, subst}
use Rattle.tcltext.specs.chars.Runs.{Text}
use Rattle.tclrules.specs.Oracle.{Oracle, Trace}
use Rattle.tclrules.specs.Derivation.{OutOfMemory, EvaluationOutcome, Halted, OpenScript, Plan, Ends, World, Eval, ends}
use Rattle.tclrules.specs.Derivation.{lacks_memory}
use Rattle.tclrules.specs.Variables.{Variables, State}
use Rattle.tclrules.specs.Plans as plans
use Rattle.tclrules.specs.Rules.{rule}
use Rattle.tclrules.specs.Simulates.{Simulates, point}
use Rattle.tclrules.specs.Meaning.{plan_of}
use Rattle.tclrules.specs.Promise.{ReportsFault, is_out_of_memory, EvaluatesPlaced}
use Rattle.tclrules.specs.declared.limits.Limits.{Limits}
use Rattle.tclrules.specs.declared.outcome.Ending.{Ending}
use Rattle.tclrules.specs.declared.outcome.EvalFault.{EvalFault}
use Rattle.tclrules.specs.declared.outcome.EvalFault.TheVariants as fault
use Rattle.tclrules.specs.declared.outcome.PlacedFault.{PlacedFault}
use Rattle.tclrules.proofs.Outcomes.{unstarved}
use Rattle.tcleval.specs.Files.{failure_outcome, after_file, AnswersFile}

-- a file that is cut has its outcome
cut_ends : (f : EvalFault) (s : State) → after_file (Err f) s ≡ Ends (failure_outcome f s)
cut_ends fault.OutOfMemory s = refl
cut_ends (fault.Text t) s = refl
cut_ends (fault.TclError m n) s = refl
cut_ends fault.TooManyCommands s = refl
cut_ends fault.TooDeep s = refl
cut_ends fault.ValueTooLong s = refl
cut_ends fault.NumberTooLarge s = refl
cut_ends fault.FractionOperand s = refl
cut_ends (fault.LeftOut name) s = refl
cut_ends fault.Stopped s = refl
cut_ends (fault.Host n) s = refl

cut : {oracle : Oracle} {most : ℕ} {r : plans.Job → plans.Step} (f : EvalFault) (s : State) (w : World)
    → Eval true oracle most r (after_file (Err f) s) w (failure_outcome f s) w
cut f s w = rw (cut_ends f s) ends

-- a fault that isn't want of memory reports an outcome that memory has no part in
fed : {J : Type 0} {oracle : Oracle} {most : ℕ} {r : J → Plan J plans.Completion} {p : Plan J plans.Completion}
    {w w' : World} {o : EvaluationOutcome plans.Completion} (script : Text) (scripts : List OpenScript) (f : EvalFault) → ReportsFault script scripts f o
    → Eval true oracle most r p w o w' → Eval (is_out_of_memory f) oracle most r p w o w'
fed script scripts fault.OutOfMemory h d = d
fed script scripts (fault.Text t) h d = unstarved d (λ e. cc)
fed script scripts (fault.TclError m n) h d = unstarved d (λ e. let q = h.1 in cc)
fed script scripts fault.TooManyCommands h d = unstarved d (λ e. cc)
fed script scripts fault.TooDeep h d = unstarved d (λ e. cc)
fed script scripts fault.ValueTooLong h d = unstarved d (λ e. cc)
fed script scripts fault.NumberTooLarge h d = unstarved d (λ e. cc)
fed script scripts fault.FractionOperand h d = unstarved d (λ e. cc)
fed script scripts (fault.LeftOut name) h d = unstarved d (λ e. cc)
fed script scripts fault.Stopped h d = unstarved d (λ e. cc)
fed script scripts (fault.Host n) h d = unstarved d (λ e. cc)

-- where memory ran out at last, it may have run out there
starved : (l : Limits) (script : Text) (globals : Variables) (oracle oracle' : Oracle) (trace trace' : Trace)
    (p : plans.Step) (used : ℕ) (scripts : List OpenScript) (f : PlacedFault)
    → Simulates l.commands (rule l.value_bytes) (plan_of l script oracle.reserved globals) (point oracle trace 0 []) p
    (point oracle' trace' used scripts) → f.fault ≡ fault.OutOfMemory
    → EvaluatesPlaced l script globals oracle trace (Err f) trace'
starved l script globals oracle oracle' trace trace' p used scripts f led e = rw e (
  scripts,
  (
    Halted OutOfMemory,
    used,
    refl,
    led.by (Halted OutOfMemory) (record { used = used; trace = trace'; scripts = scripts })
        (lacks_memory trace'.asked refl),
  ),
  λ m. absurd (cc),
)

evaluated : (l : Limits) (script : Text) (globals : Variables) (oracle oracle' : Oracle) (trace trace' : Trace)
    (s : State) (used : ℕ) (scripts : List OpenScript) (res : Result (String Global) EvalFault)
    (result : Result Ending PlacedFault)
    → Simulates l.commands (rule l.value_bytes) (plan_of l script oracle.reserved globals) (point oracle trace 0 [])
    (after_file res s) (point oracle' trace' used scripts) → AnswersFile script s used scripts res result
    → EvaluatesPlaced l script globals oracle trace result trace'
evaluated l script globals oracle oracle' trace trace' s used scripts (Ok t) (Ok end) led a =
    (scripts, (s, rw (a.0, a.1) (unstarved (led.by _ _ ends) (λ q. cc)), a.2))
evaluated l script globals oracle oracle' trace trace' s used scripts (Ok t) (Err f) led a =
    starved l script globals oracle oracle' trace trace' (after_file (Ok t) s) used scripts f led a
evaluated l script globals oracle oracle' trace trace' s used scripts (Err failure) (Ok end) led a = absurd a
evaluated l script globals oracle oracle' trace trace' s used scripts (Err failure) (Err f) led a =
    ⊎_elim
    (λ m. starved l script globals oracle oracle' trace trace' (after_file (Err failure) s) used scripts f led m)
    (λ i. (
      scripts,
      (
        failure_outcome failure s,
        used,
        i.0 s,
        fed script scripts f.fault (i.0 s) (led.by _ _ (cut failure s _)),
      ),
      λ m. i.1,
    ))
    a

-- the same for a plan that begins with equal names that no procedure may have
pub evaluated_alike : (names : List Text) (l : Limits) (script : Text) (globals : Variables) (oracle oracle' : Oracle)
    (trace trace' : Trace) (s : State) (used : ℕ) (scripts : List OpenScript) (res : Result (String Global) EvalFault)
    (result : Result Ending PlacedFault) → names ≡ oracle.reserved
    → Simulates l.commands (rule l.value_bytes) (plan_of l script names globals) (point oracle trace 0 [])
    (after_file res s) (point oracle' trace' used scripts) → AnswersFile script s used scripts res result
    → EvaluatesPlaced l script globals oracle trace result trace'
evaluated_alike names l script globals oracle oracle' trace trace' s used scripts res result same led a =
    evaluated l script globals oracle oracle' trace trace' s used scripts res result
    (subst (λ (ns : List Text). Simulates l.commands (rule l.value_bytes) (plan_of l script ns globals) (point oracle trace 0 []) (after_file res s) (point oracle' trace' used scripts)) same led) a
