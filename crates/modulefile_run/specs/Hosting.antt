-- How the host of a modulefile answers to its commands (own): what it has done, and what its answers mean.
use Rattle.std.specs.Prelude.{◌≡◌, Bool, List, [], ◌∷◌, ◌++◌, map, string_bytes, String, if◌then◌else◌, Option, Some, None}
use Rattle.std.specs.Option.{option_map}
use Rattle.std.specs.declared.vec.Vec.{Vec}
use Rattle.std.specs.declared.alloc.Global.{Global}
use Rattle.message.specs.Refusals.{number_of}
use Rattle.message.specs.declared.refusals.RefusalKind.TheVariants as kinds
use Rattle.envvars.specs.Texts.{Text, texts_in}
use Rattle.tclrules.specs.Oracle as oracle
use Rattle.tclrules.specs.Oracle.{OracleAnswer, HostRefusal, Trace, unnamed}
use Rattle.tclrules.specs.Derivation.{with_questions}
use Rattle.tclrules.specs.Hosts.{TracesAnswer}
use Rattle.tclrules.specs.declared.host.HostAnswer.{HostAnswer}
use Rattle.tclrules.specs.declared.host.HostAnswer.TheVariants.{Done, Unknown, LeftOut, Refused, OutOfMemory}
use Rattle.modulefile.specs.RecordViews.{mode_view, fault_reason}
use Rattle.modulefile.specs.Answers as answers
use Rattle.modulefile.specs.Answers.{refusal_of}
use Rattle.modulefile_run.specs.declared.command_refusal.CommandRefusal.{CommandRefusal}
use Rattle.modulefile_run.specs.declared.command_refusal.CommandRefusal.TheVariants.{BadArguments, BadRecord}
use Rattle.modulefile_run.specs.declared.context.FileContext.{FileContext}
use Rattle.modulefile_run.specs.declared.question.Question.{Question}
use Rattle.modulefile_run.specs.declared.runner.Runner.{Runner}
use Rattle.modulefile_run.specs.Journals.{JournalState}
use Rattle.modulefile_run.specs.Questions.{questions_in}

-- the context of a file that has done so much
abbrev pub context_with : JournalState → FileContext → answers.FileContext
context_with s c =
    record {
      mode = mode_view s.mode;
      in_switch = c.in_switch;
      name = s.module_name;
      path = c.path.now;
      shell = c.shell;
      typed = c.typed.now;
      loaded = map string_bytes c.loaded.now;
      before = s.before;
    }

-- the refusal that the host remembers, by number and name
abbrev pub refusal_view : Option CommandRefusal → Option HostRefusal
refusal_view None = None
refusal_view (Some BadArguments) = Some (unnamed (number_of kinds.BadArguments))
refusal_view (Some (BadRecord fault)) = option_map refusal_of (fault_reason fault)

-- the records and messages of a file, and what it asked, by the fields of its host
abbrev pub trace_with : JournalState → Vec (String Global) Global → Vec Question Global → Option CommandRefusal → Trace
trace_with s messages asked refusal = record {
  records = s.words;
  messages = texts_in messages;
  asked = questions_in asked.items;
  refused = refusal_view refusal;
}

-- the same of a host, and the context of its file with what it has done
abbrev pub trace_of : {V : Type 0} → Runner V → Trace
trace_of runner = trace_with runner.journal runner.messages runner.asked runner.refusal

abbrev pub context_of : {V : Type 0} → Runner V → answers.FileContext
context_of runner = context_with runner.journal runner.context

-- a message, with a newline or without
abbrev pub message_of : Text → Bool → Text
message_of text newline = if newline then text ++ 10 ∷ [] else text

-- The host replies to the words by this answer, and what it has done grows by it; or memory runs out.
abbrev pub Replies : List Text → OracleAnswer → HostAnswer → Trace → Trace → Type 0
Replies words answer (Done t) old new =
    (adds : oracle.Addition) × (asks : Bool)
    × TracesAnswer words answer (oracle.Done (string_bytes t) adds asks) old new
Replies words answer Unknown old new = (asks : Bool) × TracesAnswer words answer (oracle.Unknown asks) old new
Replies words answer (LeftOut name) old new = (asks : Bool) × TracesAnswer words answer
    (oracle.LeftOut (string_bytes name) asks) old new
Replies words answer (Refused n) old new =
    (name : Option Text) × (asks : Bool) × TracesAnswer words answer (oracle.Refused n name asks) old new
Replies words answer OutOfMemory old new = (asked : List oracle.Question) × (new ≡ with_questions asked old)
