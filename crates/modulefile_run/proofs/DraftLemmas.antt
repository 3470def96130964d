-- A file evaluated by the host, from the environment before it.
use Rattle.std.proofs.Common.{◌≡◌, List, [], map, option_map, string_bytes, String, Option, None, Some, IfSome, Result}
use Rattle.std.proofs.Common.{Ok, Err, IfOk, IfErr, ap, sym, subst, ◌∙◌}
use Rattle.std.specs.declared.vec.Vec.{Vec}
use Rattle.std.specs.declared.alloc.Global.{Global}
use Rattle.envvars.specs.Texts.{Text, texts_in}
use Rattle.envvars.specs.Environment.{Environment}
use Rattle.envvars.specs.Changes.{applied, new_values_in}
use Rattle.tclrules.specs.Oracle.{HostRefusal, Trace}
use Rattle.tclrules.specs.Variables.{Variables}
use Rattle.tclrules.specs.Promise.{EvaluatesPlaced}
use Rattle.tclrules.specs.declared.limits.Limits.{Limits}
use Rattle.tclrules.specs.declared.outcome.Ending.{Ending}
use Rattle.tclrules.specs.declared.outcome.PlacedFault.{PlacedFault}
use Rattle.modulefile.specs.Answers as answers
use Rattle.modulefile.specs.Answers.{oracle_of}
use Rattle.modulefile.specs.Files.{FileReason, RunsFile, stopped_at, ran_of, empty_trace, globals_of}
use Rattle.modulefile_run.specs.declared.command_refusal.CommandRefusal.{CommandRefusal}
use Rattle.modulefile_run.specs.declared.context.FileContext.{FileContext}
use Rattle.modulefile_run.specs.declared.question.Question.{Question}
use Rattle.modulefile_run.specs.Questions.{questions_in}
use Rattle.modulefile_run.specs.declared.run_fault.RunFault.{RunFault}
use Rattle.modulefile_run.specs.declared.run.FileDraft.{FileDraft}
use Rattle.modulefile_run.specs.declared.run_stop.RunStop.{RunStop}
use Rattle.modulefile_run.specs.declared.run_stop.RunStop.TheVariants.{OutOfMemory}
use Rattle.modulefile_run.specs.Journals.{JournalState, journal_state}
use Rattle.modulefile_run.specs.Hosting.{context_with, refusal_view, trace_with}
use Rattle.modulefile_run.specs.Running.{context_view, ran_view, eval_stop, stop_of, reason_of_file, file_reason_of, Drafts}
use Rattle.modulefile_run.proofs.RunLemmas.{runs_ok, refused_at, of_stop, same_start, same_ran}

-- the context that the host begins with
pub begun : (cx ctx : FileContext) (before : Environment) (j : JournalState) → j ≡ journal_state cx.mode cx.name.now before [] → ctx ≡ cx → context_with j ctx ≡ context_view cx before
begun cx ctx before j e d =
    ap (λ (s : JournalState). context_with s ctx) e ∙ ap (λ (x : FileContext). context_with (journal_state cx.mode cx.name.now before []) x) d

abbrev told_of : List (List Text) → List Text → List Question → Option HostRefusal → Trace
told_of words messages asked refusal = record { records = words; messages = messages; asked = questions_in asked; refused = refusal }

-- before the file nothing was done
untold_at : (j : JournalState) (messages : Vec (String Global) Global) (asked : Vec Question Global) (refusal : Option CommandRefusal)
    → j.words ≡ [] → messages.items ≡ [] → asked.items ≡ [] → refusal ≡ None
    → trace_with j messages asked refusal ≡ empty_trace
untold_at j messages asked refusal e d b n =
    ap (λ (ws : List (List Text)). told_of ws (texts_in messages) asked.items (refusal_view refusal)) e
    ∙ ap (λ (ms : List (String Global)). told_of [] (map string_bytes ms) asked.items (refusal_view refusal)) d
    ∙ ap (λ (qs : List Question). told_of [] [] qs (refusal_view refusal)) b
    ∙ ap (λ (k : Option CommandRefusal). told_of [] [] [] (refusal_view k)) n

-- the evaluation is that of the file
pub started : (limits : Limits) (text : Text) (cx ctx : FileContext) (before : Environment) (j : JournalState)
    (messages : Vec (String Global) Global) (asked : Vec Question Global) (refusal : Option CommandRefusal) (gs : Variables)
    (r : Result Ending PlacedFault) (new : Trace)
    → j ≡ journal_state cx.mode cx.name.now before [] → ctx ≡ cx → messages.items ≡ [] → asked.items ≡ [] → refusal ≡ None → gs ≡ globals_of cx.path.now
    → EvaluatesPlaced limits text gs (oracle_of (context_with j ctx)) (trace_with j messages asked refusal) r new
    → EvaluatesPlaced limits text (globals_of cx.path.now) (oracle_of (context_view cx before)) empty_trace r new
started limits text cx ctx before j messages asked refusal gs r new e d m b n k h =
    subst (λ (t : Trace). EvaluatesPlaced limits text (globals_of cx.path.now) (oracle_of (context_view cx before)) t r new) (untold_at j messages asked refusal (ap (λ (s : JournalState). s.words) e) m b n)
    (subst (λ (c : answers.FileContext). EvaluatesPlaced limits text (globals_of cx.path.now) (oracle_of c) (trace_with j messages asked refusal) r new) (begun cx ctx before j e d)
    (subst (λ (vs : Variables). EvaluatesPlaced limits text vs (oracle_of (context_with j ctx)) (trace_with j messages asked refusal) r new) k h))

pub drafts_ok : (limits : Limits) (c d : answers.FileContext) (text : Text) (trace : Trace) (end : Ending) (r : Result FileDraft RunFault)
    → EvaluatesPlaced limits text (globals_of c.path) (oracle_of c) empty_trace (Ok end) trace → oracle_of d ≡ oracle_of c
    → IfOk r (λ draft. ran_of d trace ≡ Ok (ran_view draft.ran (applied (new_values_in draft.changes) d.before))) → IfErr r (λ f. f.stop ≡ OutOfMemory)
    → Drafts limits c text r
drafts_ok limits c d text trace end (Ok draft) h same k only =
    runs_ok limits c text trace end _ h
    (sym (same_ran d c trace same) ∙ k ∙ ap (λ (s : Environment). Ok (ran_view draft.ran (applied (new_values_in draft.changes) s))) (same_start d c same))
drafts_ok limits c d text trace end (Err f) h same k only = subst (λ (stop : RunStop). IfSome (option_map (reason_of_file f.file) (stop_of stop))
    (λ reason. RunsFile limits c text (Err reason))) (sym only) tt

pub drafts_err : (limits : Limits) (c : answers.FileContext) (text : Text) (trace : Trace) (f : PlacedFault) (fault : RunStop) (file : RunFault)
    → EvaluatesPlaced limits text (globals_of c.path) (oracle_of c) empty_trace (Err f) trace
    → IfSome (stop_of fault) (λ stop. eval_stop f.fault trace.refused ≡ Some stop)
    → file_reason_of file ≡ option_map (stopped_at c f.place trace.messages) (stop_of fault)
    → Drafts limits c text (Err file)
drafts_err limits c text trace f fault file h k same =
    subst (λ (o : Option FileReason). IfSome o (λ reason. RunsFile limits c text (Err reason))) (sym same)
    (of_stop (eval_stop f.fault trace.refused) (stop_of fault) (stopped_at c f.place trace.messages)
    (λ reason. RunsFile limits c text (Err reason)) k (refused_at limits c text trace f h))
