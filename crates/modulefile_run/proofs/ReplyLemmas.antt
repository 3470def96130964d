-- How the host's replies follow from what its parts say.
use Rattle.std.proofs.Common.{◌≡◌, ◌==◌, ℕ, true, false, List, [], string_bytes, String, is_none}
use Rattle.std.proofs.Common.{if◌then◌else◌, Option, Some, None, IfSome, Ok, Err, refl, ap, sym, subst, ◌∙◌}
use Rattle.std.specs.Option.{option_map}
use Rattle.std.specs.declared.vec.Vec.{Vec}
use Rattle.std.specs.declared.alloc.Global.{Global}
use Rattle.envvars.specs.Texts.{Text, texts_in}
use Rattle.envvars.specs.Names.{is_variable_name}
use Rattle.envvars.specs.Environment.{Environment}
use Rattle.envvars.specs.Reasons.{bad_variable, inconsistent}
use Rattle.tclrules.specs.Oracle as oracle
use Rattle.tclrules.specs.Oracle.{Oracle, OracleAnswer, Trace, NewRecord}
use Rattle.tclrules.specs.Hosts.{Answers}
use Rattle.tclrules.specs.declared.host.HostAnswer.{HostAnswer}
use Rattle.tclrules.specs.declared.host.HostAnswer.TheVariants.{Done, Unknown, LeftOut, Refused, OutOfMemory}
use Rattle.modulefile.specs.Records as records
use Rattle.modulefile.specs.Judgments.{RecordReason, bad_edit, bad_module_name}
use Rattle.modulefile.specs.declared.call.Call.{Call}
use Rattle.modulefile.specs.declared.call_fault.CallFault.{CallFault}
use Rattle.modulefile.specs.declared.record_fault.RecordFault.{RecordFault}
use Rattle.modulefile.specs.Calls as calls
use Rattle.modulefile.specs.Calls.{CallReason, bad_record, bad_arguments, unknown, adds_record, call_of}
use Rattle.modulefile.specs.CallViews.{reason_of, call_view, HasReason}
use Rattle.modulefile.specs.RecordViews.{fault_reason}
use Rattle.modulefile_run.specs.RecordAnswers.{HasFault}
use Rattle.modulefile.specs.Answers as answers
use Rattle.modulefile.specs.Answers.{command_answer, question_answer, record_answer, not_done, variable_answer}
use Rattle.modulefile.specs.Answers.{record_name, record_number, refusal_of}
use Rattle.modulefile_run.specs.declared.command_refusal.CommandRefusal.{CommandRefusal}
use Rattle.modulefile_run.specs.declared.command_refusal.CommandRefusal.TheVariants.{BadRecord}
use Rattle.modulefile_run.specs.declared.context.FileContext.{FileContext}
use Rattle.modulefile_run.specs.declared.question.Question.{Question}
use Rattle.modulefile_run.specs.Questions.{questions_in}
use Rattle.modulefile_run.specs.Journals.{JournalState, environment_so_far, with_command, effect_on}
use Rattle.modulefile_run.specs.Hosting.{context_with, trace_with, Replies}

pub by_answer : (words : List Text) (a b : OracleAnswer) (h : HostAnswer) (old new : Trace) → a ≡ b → Replies words b h old new → Replies words a h old new
by_answer words a b h old new e r = subst (λ x. Replies words x h old new) (sym e) r

-- the replies of a host are the answers of its oracle
pub answers_by : (o : Oracle) (words : List Text) (h : HostAnswer) (old new : Trace) → Replies words (o.command old.records words) h old new → Answers o words h old new
answers_by o words (Done t) old new r = r
answers_by o words Unknown old new r = r
answers_by o words (LeftOut name) old new r = r
answers_by o words (Refused n) old new r = r
answers_by o words OutOfMemory old new r = r

-- a record that has its effect is added
pub noted_reply : (s t : JournalState) (cx : FileContext) (messages : Vec (String Global) Global) (asked : Vec Question Global)
    (held : Option CommandRefusal) (words : List Text) (r : records.Record) (text : String Global) (e : Environment)
    → call_of words ≡ Ok (adds_record r) → string_bytes text ≡ [] → t ≡ with_command s words → effect_on s r ≡ Ok e
    → Replies words (command_answer (context_with s cx) (environment_so_far s) words (call_of words)) (Done text) (trace_with s messages asked held) (trace_with t messages asked held)
noted_reply s t cx messages asked held words r text e call empty add_command effect =
    by_answer words _ (oracle.Done [] (NewRecord words) false) (Done text) (trace_with s messages asked held) (trace_with t messages asked held)
    (ap (command_answer (context_with s cx) (environment_so_far s) words) call ∙ ap (record_answer words) effect) (
      NewRecord words,
      false,
      (
        ap (λ (x : Text). oracle.Done x (NewRecord words) false) (sym empty),
        ap (λ (j : JournalState). trace_with j messages asked held) add_command,
      ),
    )

abbrev number_in : OracleAnswer → ℕ
number_in (oracle.Done t adds asks) = 0
number_in (oracle.Unknown asks) = 0
number_in (oracle.LeftOut name asks) = 0
number_in (oracle.Refused n name asks) = n

true_not_false : true ≡ false → ⊥
true_not_false e = absurd (cc)

-- what replies to every reason of a record alike is want of memory
from_reasons : (words : List Text) (h : HostAnswer) (old new : Trace) (a : OracleAnswer) → ((reason : RecordReason) → Replies words (not_done (bad_record reason)) h old new) → Replies words a h old new
from_reasons words (Done t) old new a f = let r = f (bad_module_name []) in let e : oracle.Refused 44 (Some []) false ≡ oracle.Done (string_bytes t) r.0 r.1 = r.2.0 in absurd (cc)
from_reasons words Unknown old new a f = let r = f (bad_module_name []) in let e : oracle.Refused 44 (Some []) false ≡ oracle.Unknown r.0 = r.1.0 in absurd (cc)
from_reasons words (LeftOut name) old new a f = let r = f (bad_module_name []) in let e : oracle.Refused 44 (Some []) false ≡ oracle.LeftOut (string_bytes name) r.0 = r.1.0 in absurd (cc)
from_reasons words (Refused n) old new a f =
    let r = f (bad_module_name []) in
    let q = f (bad_edit inconsistent) in
    let e : oracle.Refused 44 (Some []) false ≡ oracle.Refused n r.0 r.1 = r.2.0 in
    let d : oracle.Refused 35 None false ≡ oracle.Refused n q.0 q.1 = q.2.0 in
    let yes : true ≡ (n == 44) = ap (λ a. number_in a == 44) e in
    let no : false ≡ (n == 44) = ap (λ a. number_in a == 44) d in
    absurd (true_not_false (yes ∙ sym no))
from_reasons words OutOfMemory old new a f = f (bad_module_name [])

some_reason : (o : Option RecordReason) → is_none o ≡ false → (reason : RecordReason) → IfSome o (λ r. r ≡ reason) → o ≡ Some reason
some_reason None h reason e = absurd (cc)
some_reason (Some r) h reason e = ap (λ x. Some x) e

-- a refusal that the host remembers is in what it has done, with its name
pub refusal_traced : (words : List Text) (s : JournalState) (messages : Vec (String Global) Global) (asked : Vec Question Global) (held : Option CommandRefusal) (fault : RecordFault) (n : ℕ)
    → is_none (fault_reason fault) ≡ false → IfSome (fault_reason fault) (λ reason. n ≡ record_number reason)
    → (reason : RecordReason) → HasFault reason fault
    → Replies words (not_done (bad_record reason)) (Refused n) (trace_with s messages asked held) (trace_with s messages asked (Some (BadRecord fault)))
refusal_traced words s messages asked held fault n some number reason h =
    let is : fault_reason fault ≡ Some reason = some_reason (fault_reason fault) some reason h in
    let k : n ≡ record_number reason = subst (λ o. IfSome o (λ r. n ≡ record_number r)) is number in (
      record_name reason,
      false,
      (
        ap (λ (m : ℕ). oracle.Refused m (record_name reason) false) (sym k),
        ap (λ (o : Option RecordReason). record { records = s.words; messages = texts_in messages; asked = questions_in asked.items; refused = option_map refusal_of o }) is,
      ),
    )

-- a record that has no effect is refused
pub refused_reply : (s t : JournalState) (cx : FileContext) (messages : Vec (String Global) Global) (asked : Vec Question Global)
    (held : Option CommandRefusal) (words : List Text) (r : records.Record) (fault : RecordFault) (h : HostAnswer)
    (new : Trace)
    → call_of words ≡ Ok (adds_record r) → t ≡ s → IfSome (fault_reason fault) (λ reason. effect_on s r ≡ Err reason)
    → ((again : List Text) (reason : RecordReason) → HasFault reason fault → Replies again (not_done (bad_record reason)) h (trace_with t messages asked held) new)
    → Replies words (command_answer (context_with s cx) (environment_so_far s) words (call_of words)) h (trace_with s messages asked held) new
refused_reply s t cx messages asked held words r fault h new call same e f = go (fault_reason fault) refl
  where
    at : (reason : RecordReason) → HasFault reason fault → Replies words (not_done (bad_record reason)) h (trace_with s messages asked held) new
    at reason k = subst (λ (j : JournalState). Replies words (not_done (bad_record reason)) h (trace_with j messages asked held) new) same (f words reason k)

    go : (o : Option RecordReason) → fault_reason fault ≡ o → Replies words (command_answer (context_with s cx) (environment_so_far s) words (call_of words)) h (trace_with s messages asked held) new
    go None q = from_reasons words h (trace_with s messages asked held) new _ (λ reason. at reason (subst (λ o. IfSome o (λ x. x ≡ reason)) (sym q) tt))
    go (Some reason) q =
        let d : effect_on s r ≡ Err reason = subst (λ o. IfSome o (λ x. effect_on s r ≡ Err x)) q e in
        by_answer words _ (not_done (bad_record reason)) h (trace_with s messages asked held) new
        (ap (command_answer (context_with s cx) (environment_so_far s) words) call ∙ ap (record_answer words) d)
        (at reason (subst (λ o. IfSome o (λ x. x ≡ reason)) (sym q) refl))

pub read_named : (var value : Text) → is_variable_name var ≡ true → variable_answer var value ≡ question_answer value
read_named var value e = ap (λ b. if b then question_answer value else not_done (bad_record (bad_edit (bad_variable var)))) e

pub read_unnamed : (var value : Text) → is_variable_name var ≡ false → variable_answer var value ≡ not_done (bad_record (bad_edit (bad_variable var)))
read_unnamed var value e = ap (λ b. if b then question_answer value else not_done (bad_record (bad_edit (bad_variable var)))) e

-- a question is answered
pub asked_reply : (c : answers.FileContext) (e : Environment) (words : List Text) (call : Call) (made : calls.Call) (text : Text) (h : HostAnswer) (old new : Trace)
    → call_of words ≡ Ok (call_view call) → call_view call ≡ made → command_answer c e words (Ok made) ≡ question_answer text
    → Replies words (question_answer text) h old new → Replies words (command_answer c e words (call_of words)) h old new
asked_reply c e words call made text h old new k is a r =
    by_answer words _ (question_answer text) h old new (ap (command_answer c e words) (k ∙ ap (λ x. Ok x) is) ∙ a) r

-- what replies to every reason of a call alike is want of memory
from_call_reasons : (words : List Text) (h : HostAnswer) (old new : Trace) (a : OracleAnswer) → ((reason : CallReason) → Replies words (not_done reason) h old new) → Replies words a h old new
from_call_reasons words (Done t) old new a f = let r = f unknown in let e : oracle.Unknown false ≡ oracle.Done (string_bytes t) r.0 r.1 = r.2.0 in absurd (cc)
from_call_reasons words Unknown old new a f = let r = f bad_arguments in let e : oracle.Refused 56 None false ≡ oracle.Unknown r.0 = r.1.0 in absurd (cc)
from_call_reasons words (LeftOut name) old new a f = let r = f unknown in let e : oracle.Unknown false ≡ oracle.LeftOut (string_bytes name) r.0 = r.1.0 in absurd (cc)
from_call_reasons words (Refused n) old new a f = let r = f unknown in let e : oracle.Unknown false ≡ oracle.Refused n r.0 r.1 = r.2.0 in absurd (cc)
from_call_reasons words OutOfMemory old new a f = f unknown

-- words that call no command are answered by the reason
pub fault_reply : (c : answers.FileContext) (e : Environment) (words : List Text) (fault : CallFault) (h : HostAnswer) (old new : Trace)
    → IfSome (reason_of fault) (λ r. call_of words ≡ Err r)
    → ((again : List Text) (reason : CallReason) → HasReason reason fault → Replies again (not_done reason) h old new)
    → Replies words (command_answer c e words (call_of words)) h old new
fault_reply c e words fault h old new k f = go (reason_of fault) refl
  where
    go : (o : Option CallReason) → reason_of fault ≡ o → Replies words (command_answer c e words (call_of words)) h old new
    go None q = from_call_reasons words h old new _ (λ reason. f words reason (subst (λ o. IfSome o (λ x. x ≡ reason)) (sym q) tt))
    go (Some reason) q =
        let d : call_of words ≡ Err reason = subst (λ o. IfSome o (λ x. call_of words ≡ Err x)) q k in
        by_answer words _ (not_done reason) h old new (ap (command_answer c e words) d) (f words reason (subst (λ o. IfSome o (λ x. x ≡ reason)) (sym q) refl))
