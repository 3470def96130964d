-- What the result of a run means by the definitions of modulefiles (own).
use Rattle.std.specs.Prelude.{◌≡◌, [], map, string_bytes, Option, Some, None, IfSome, Result, Ok, Err}
use Rattle.std.specs.Option.{option_map}
use Rattle.message.specs.Refusals.{number_of}
use Rattle.message.specs.declared.refusals.RefusalKind.TheVariants as kinds
use Rattle.envvars.specs.Texts.{Text, texts_in}
use Rattle.envvars.specs.Environment.{Environment}
use Rattle.envvars.specs.Changes.{applied, new_values_in}
use Rattle.tclrules.specs.Oracle.{HostRefusal, unnamed}
use Rattle.tclrules.specs.Derivation as halts
use Rattle.tclrules.specs.Derivation.{Halt}
use Rattle.tclrules.specs.declared.limits.Limits.{Limits}
use Rattle.tclrules.specs.declared.outcome.EvalFault.{EvalFault}
use Rattle.tclrules.specs.declared.outcome.EvalFault.TheVariants as faults
use Rattle.modulefile.specs.RecordViews.{mode_view, record_view, fault_reason}
use Rattle.modulefile.specs.Answers as answers
use Rattle.modulefile.specs.Answers.{refusal_of}
use Rattle.modulefile.specs.Files as files
use Rattle.modulefile.specs.Files.{FileReason, FileStop, halted, refused, failed, refused_by, RunsFile}
use Rattle.modulefile_run.specs.declared.context.FileContext.{FileContext}
use Rattle.modulefile_run.specs.declared.run.FileRun.{FileRun}
use Rattle.modulefile_run.specs.declared.run.FileDraft.{FileDraft}
use Rattle.modulefile_run.specs.declared.run_fault.RunFault.{RunFault}
use Rattle.modulefile_run.specs.declared.run_fault.RefusedFile.{RefusedFile}
use Rattle.modulefile_run.specs.Questions.{questions_in}
use Rattle.modulefile_run.specs.declared.run_stop.RunStop.{RunStop}
use Rattle.modulefile_run.specs.declared.run_stop.RunStop.TheVariants.{OutOfMemory, Eval, BadArguments, BadRecord}

-- `FileContext` of the code is without the environment.
-- the context, with the environment from before the file
abbrev pub context_view : FileContext → Environment → answers.FileContext
context_view c before =
    record {
      mode = mode_view c.mode;
      in_switch = c.in_switch;
      name = c.name.now;
      path = c.path.now;
      shell = c.shell;
      typed = c.typed.now;
      loaded = map string_bytes c.loaded.now;
      before = before;
    }

-- what an accepted file leaves, with the environment after it
abbrev pub ran_view : FileRun → Environment → files.Ran
ran_view ran env =
    record {
      records = map record_view ran.records.items;
      messages = map string_bytes ran.messages.items;
      asked = questions_in ran.asked.items;
      env = env;
    }

-- how an evaluation with this fault stopped, with the refusal that the host remembers; OutOfMemory is no stop
abbrev pub eval_stop : EvalFault → Option HostRefusal → Option FileStop
eval_stop faults.OutOfMemory refusal = None
eval_stop (faults.Text fault) refusal = Some (halted (halts.BadText fault))
eval_stop (faults.TclError message line) refusal = Some (failed (string_bytes message) line)
eval_stop faults.TooManyCommands refusal = Some (halted halts.TooManyCommands)
eval_stop faults.TooDeep refusal = Some (halted halts.TooDeep)
eval_stop faults.ValueTooLong refusal = Some (halted halts.ValueTooLong)
eval_stop faults.NumberTooLarge refusal = Some (halted halts.NumberTooLarge)
eval_stop faults.FractionOperand refusal = Some (halted halts.FractionOperand)
eval_stop (faults.LeftOut name) refusal = Some (halted (halts.LeftOut (string_bytes name)))
eval_stop faults.Stopped refusal = Some (halted halts.Stopped)
eval_stop (faults.Host n) refusal = Some (refused_by n refusal)

-- how a file with this fault stopped. A refused command has its number, and the name that it is refused for
abbrev pub stop_of : RunStop → Option FileStop
stop_of OutOfMemory = None
stop_of (Eval fault) = eval_stop fault None
stop_of BadArguments = Some (refused (unnamed (number_of kinds.BadArguments)))
stop_of (BadRecord fault) = option_map (λ reason. refused (refusal_of reason)) (fault_reason fault)

-- what a refused file has, or else the default
abbrev pub of_file : {A : Type 0} → A → (RefusedFile → A) → Option RefusedFile → A
of_file default part None = default
of_file default part (Some file) = part file

-- the reason of a file that stopped so
abbrev pub reason_of_file : Option RefusedFile → FileStop → FileReason
reason_of_file o stop =
    record {
      stop = stop;
      name = of_file [] (λ file. string_bytes file.name) o;
      path = of_file [] (λ file. string_bytes file.path) o;
      place = of_file None (λ file. file.place) o;
      messages = of_file [] (λ file. texts_in file.messages) o;
    }

-- the reason of a refusal; none where memory ran out
abbrev pub file_reason_of : RunFault → Option FileReason
file_reason_of f = option_map (reason_of_file f.file) (stop_of f.stop)

-- The result of a call is the outcome of the text in the context, or OutOfMemory. The environment after an accepted
-- file is the one that it leaves, and after a refused one the old one.
abbrev pub RunsTo : Limits → answers.FileContext → Text → Result FileRun RunFault → Environment → Type 0
RunsTo limits c text (Ok ran) new = RunsFile limits c text (Ok (ran_view ran new))
RunsTo limits c text (Err f) new =
    (new ≡ c.before) × IfSome (file_reason_of f) (λ reason. RunsFile limits c text (Err reason))

-- The result of a call that drafts changes: the environment that they would make is that of the outcome.
abbrev pub Drafts : Limits → answers.FileContext → Text → Result FileDraft RunFault → Type 0
Drafts limits c text (Ok draft) =
    RunsFile limits c text (Ok (ran_view draft.ran (applied (new_values_in draft.changes) c.before)))
Drafts limits c text (Err f) = IfSome (file_reason_of f) (λ reason. RunsFile limits c text (Err reason))
