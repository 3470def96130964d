-- What follows for a file from its evaluation by the host.
use Rattle.std.proofs.Common.{◌≡◌, ℕ, false, List, [], ◌∷◌, option_map, codes, bytes_eq, string_bytes, if◌then◌else◌, Option, Some, None}
use Rattle.std.proofs.Common.{IfSome, Ok, Err, refl, ap, sym, subst, ◌∙◌}
use Rattle.envvars.specs.Texts.{Text}
use Rattle.envvars.proofs.EnvLemmas.{same_environment}
use Rattle.tclrules.specs.Oracle as oracle
use Rattle.tclrules.specs.Oracle.{HostRefusal, Oracle, Trace, Nothing}
use Rattle.tclrules.specs.Derivation as halts
use Rattle.tclrules.specs.Derivation.{EvaluationOutcome, Ended, Halted, OpenScript, World}
use Rattle.tclrules.specs.Plans as plans
use Rattle.tclrules.specs.Plans.{Normal, Raised}
use Rattle.tclrules.specs.Promise.{EvaluatesWithin, EvaluatesPlaced, is_out_of_memory}
use Rattle.tclrules.specs.Places.{place_of}
use Rattle.tclrules.specs.Meaning.{HasOutcome}
use Rattle.tclrules.specs.declared.limits.Limits.{Limits}
use Rattle.tclrules.specs.declared.outcome.Ending.{Ending}
use Rattle.tclrules.specs.declared.outcome.EvalFault.{EvalFault}
use Rattle.tclrules.specs.declared.outcome.EvalFault.TheVariants as faults
use Rattle.tclrules.specs.declared.outcome.FaultPlace.{FaultPlace}
use Rattle.tclrules.specs.declared.outcome.PlacedFault.{PlacedFault}
use Rattle.modulefile.specs.Effects.{Mode, load, unload, display, whatis}
use Rattle.modulefile.specs.Calls.{call_of, commands, mode, info, own_name}
use Rattle.modulefile.specs.Answers.{FileContext, command_answer, mode_word, oracle_of}
use Rattle.modulefile.specs.Files as files
use Rattle.modulefile.specs.Files.{FileReason, FileStop, failed, halt_stop, stopped_at, RunsFile, ran_of, empty_trace}
use Rattle.modulefile.specs.Files.{globals_of}
use Rattle.modulefile_run.specs.Running.{eval_stop}

pub runs_ok : (limits : Limits) (c : FileContext) (text : Text) (trace : Trace) (end : Ending) (ran : files.Ran)
    → EvaluatesPlaced limits text (globals_of c.path) (oracle_of c) empty_trace (Ok end) trace → ran_of c trace ≡ Ok ran → RunsFile limits c text (Ok ran)
runs_ok limits c text trace end ran (scripts, h) r =
    (Ended (Normal (string_bytes end.result) h.0), record { used = end.used_commands; trace = trace; scripts = scripts }, h.1, (ran, r, refl))

-- the reason of a file whose evaluation ended within these scripts
abbrev stopped_within : FileContext → Text → List OpenScript → Trace → FileStop → FileReason
stopped_within c text scripts trace stop = stopped_at c (place_of text scripts) trace.messages stop

halted_by : (limits : Limits) (c : FileContext) (text : Text) (w : World) (o : EvaluationOutcome plans.Completion) (halt : halts.Halt)
    → o ≡ Halted halt → HasOutcome false limits text (globals_of c.path) (oracle_of c) empty_trace o w
    → RunsFile limits c text (Err (stopped_within c text w.scripts w.trace (halt_stop halt w.trace.refused)))
halted_by limits c text w o halt e k =
    (Halted halt, w, subst (λ (x : EvaluationOutcome plans.Completion). HasOutcome false limits text (globals_of c.path) (oracle_of c) empty_trace x w) e k, refl)

runs_err : (limits : Limits) (c : FileContext) (text : Text) (trace : Trace) (scripts : List OpenScript) (fault : EvalFault)
    → EvaluatesWithin limits text (globals_of c.path) (oracle_of c) empty_trace (Err fault) trace scripts
    → IfSome (eval_stop fault trace.refused) (λ stop. RunsFile limits c text (Err (stopped_within c text scripts trace stop)))
runs_err limits c text trace scripts faults.OutOfMemory h = tt
runs_err limits c text trace scripts (faults.Text f) h = halted_by limits c text (record { used = h.1; trace = trace; scripts = scripts }) h.0 _ h.2 h.3
runs_err limits c text trace scripts (faults.TclError m n) h = (
  Ended (Raised (string_bytes m) h.2.0),
  record { used = h.1; trace = trace; scripts = scripts },
  subst (λ (x : EvaluationOutcome plans.Completion). HasOutcome false limits text (globals_of c.path) (oracle_of c) empty_trace x (record { used = h.1; trace = trace; scripts = scripts })) h.2.1 h.3,
  ap (λ (line : ℕ). Err (stopped_within c text scripts trace (failed (string_bytes m) line))) h.2.2,
)
runs_err limits c text trace scripts faults.TooManyCommands h = halted_by limits c text (record { used = h.1; trace = trace; scripts = scripts }) h.0 _ h.2 h.3
runs_err limits c text trace scripts faults.TooDeep h = halted_by limits c text (record { used = h.1; trace = trace; scripts = scripts }) h.0 _ h.2 h.3
runs_err limits c text trace scripts faults.ValueTooLong h = halted_by limits c text (record { used = h.1; trace = trace; scripts = scripts }) h.0 _ h.2 h.3
runs_err limits c text trace scripts faults.NumberTooLarge h = halted_by limits c text (record { used = h.1; trace = trace; scripts = scripts }) h.0 _ h.2 h.3
runs_err limits c text trace scripts faults.FractionOperand h = halted_by limits c text (record { used = h.1; trace = trace; scripts = scripts }) h.0 _ h.2 h.3
runs_err limits c text trace scripts (faults.LeftOut name) h = halted_by limits c text (record { used = h.1; trace = trace; scripts = scripts }) h.0 _ h.2 h.3
runs_err limits c text trace scripts faults.Stopped h = halted_by limits c text (record { used = h.1; trace = trace; scripts = scripts }) h.0 _ h.2 h.3
runs_err limits c text trace scripts (faults.Host n) h = halted_by limits c text (record { used = h.1; trace = trace; scripts = scripts }) h.0 _ h.2 h.3

-- what holds at one place holds at the other, unless memory ran out
at_place : (fault : EvalFault) (refusal : Option HostRefusal) (P : Option FaultPlace → FileStop → Type 0)
    (p q : Option FaultPlace) → (is_out_of_memory fault ≡ false → p ≡ q) → IfSome (eval_stop fault refusal) (P q)
    → IfSome (eval_stop fault refusal) (P p)
at_place faults.OutOfMemory refusal P p q e h = tt
at_place (faults.Text f) refusal P p q e h = rw (e refl) h
at_place (faults.TclError m n) refusal P p q e h = rw (e refl) h
at_place faults.TooManyCommands refusal P p q e h = rw (e refl) h
at_place faults.TooDeep refusal P p q e h = rw (e refl) h
at_place faults.ValueTooLong refusal P p q e h = rw (e refl) h
at_place faults.NumberTooLarge refusal P p q e h = rw (e refl) h
at_place faults.FractionOperand refusal P p q e h = rw (e refl) h
at_place (faults.LeftOut name) refusal P p q e h = rw (e refl) h
at_place faults.Stopped refusal P p q e h = rw (e refl) h
at_place (faults.Host n) refusal P p q e h = rw (e refl) h

pub refused_at : (limits : Limits) (c : FileContext) (text : Text) (trace : Trace) (f : PlacedFault)
    → EvaluatesPlaced limits text (globals_of c.path) (oracle_of c) empty_trace (Err f) trace
    → IfSome (eval_stop f.fault trace.refused) (λ stop. RunsFile limits c text (Err (stopped_at c f.place trace.messages stop)))
refused_at limits c text trace f (scripts, h, at) =
    at_place f.fault trace.refused (λ place stop. RunsFile limits c text (Err (stopped_at c place trace.messages stop))) f.place (place_of text scripts) at
    (runs_err limits c text trace scripts f.fault h)

-- what holds of the reason of the one stop holds of that of the other
pub of_stop : (p o : Option FileStop) (make : FileStop → FileReason) (Q : FileReason → Type 0)
    → IfSome o (λ stop. p ≡ Some stop) → IfSome p (λ stop. Q (make stop)) → IfSome (option_map make o) Q
of_stop p None make Q e h = tt
of_stop p (Some stop) make Q e h = subst (λ x. IfSome x (λ s. Q (make s))) e h

-- An oracle gives back what it was made of: the module's name, the mode and the environment before the file.
name_call : call_of (codes "module-info" ∷ codes "name" ∷ []) ≡ Ok own_name
unfolding call_of commands
name_call = refl

mode_call : call_of (codes "module-info" ∷ codes "mode" ∷ []) ≡ Ok (info mode)
unfolding call_of commands
mode_call = refl

abbrev mode_named : Text → Mode
mode_named word = if bytes_eq word (codes "load") then load else if bytes_eq word (codes "unload") then unload else if bytes_eq word (codes "display") then display else whatis

named_again : (m : Mode) → mode_named (mode_word m) ≡ m
named_again load = refl
named_again unload = refl
named_again display = refl
named_again whatis = refl

abbrev done_text : oracle.OracleAnswer → Text
done_text (oracle.Done t adds asks) = t
done_text (oracle.Unknown asks) = []
done_text (oracle.LeftOut name asks) = []
done_text (oracle.Refused n name asks) = []

pub same_start : (c d : FileContext) → oracle_of c ≡ oracle_of d → c.before ≡ d.before
same_start c d e = same_environment c.before d.before (λ q. ap (λ (o : Oracle). o.variable [] q) e)

pub same_name : (c d : FileContext) → oracle_of c ≡ oracle_of d → c.name ≡ d.name
same_name c d e =
    let words = codes "module-info" ∷ codes "name" ∷ [] in
    sym (ap (λ f. done_text (command_answer c c.before words f)) name_call) ∙ ap (λ (o : Oracle). done_text (o.command [] words)) e ∙ ap (λ f. done_text (command_answer d d.before words f)) name_call

pub same_mode : (c d : FileContext) → oracle_of c ≡ oracle_of d → c.mode ≡ d.mode
same_mode c d e =
    let words = codes "module-info" ∷ codes "mode" ∷ [] in
    let w : mode_word c.mode ≡ mode_word d.mode = sym (ap (λ f. done_text (command_answer c c.before words f))
    mode_call) ∙ ap (λ (o : Oracle). done_text (o.command [] words)) e
    ∙ ap (λ f. done_text (command_answer d d.before words f)) mode_call in
    sym (named_again c.mode) ∙ ap mode_named w ∙ named_again d.mode

-- so the records have the same outcome
pub same_ran : (c d : FileContext) (trace : Trace) → oracle_of c ≡ oracle_of d → ran_of c trace ≡ ran_of d trace
same_ran c d trace e =
    ap (λ m. ran_of (record c { mode = m }) trace) (same_mode c d e)
    ∙ ap (λ n. ran_of (record c { mode = d.mode; name = n }) trace) (same_name c d e)
    ∙ ap (λ s. ran_of (record c { mode = d.mode; name = d.name; before = s }) trace) (same_start c d e)
