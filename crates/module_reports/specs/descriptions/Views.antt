-- What the values of the code stand for in the definitions, for the contracts of this crate's private functions (own).
use Rattle.std.specs.Prelude.{Bool, false, List, map, string_bytes, Option, Some, None, IfSome, Result, Ok, Err}
use Rattle.envvars.specs.Environment.{Environment}
use Rattle.envvars.specs.Texts.{Text}
use Rattle.envstate.specs.loaded_list.Loaded.{Entry, names_of}
use Rattle.tclrules.specs.declared.limits.Limits.{Limits}
use Rattle.modulefile.specs.Effects as modes
use Rattle.modulefile.specs.Answers.{FileContext}
use Rattle.modulefile.specs.Files.{FileReason, RunsFile}
use Rattle.modulefile_run.specs.Running.{file_reason_of, ran_view}
use Rattle.modulefile_run.specs.declared.run.FileRun.{FileRun}
use Rattle.modulefile_run.specs.declared.run_fault.RunFault.{RunFault}
use Rattle.search.specs.Found as search
use Rattle.requests.specs.Reasons.{RequestReason}
use Rattle.requests.specs.Steps.{entries_of}
use Rattle.module_reports.specs.descriptions.Helps.{HelpAnswer, described, lacks_help, own}
use Rattle.module_reports.specs.declared.descriptions.helping.HelpRequest.{HelpRequest}
use Rattle.module_reports.specs.declared.descriptions.helping.HelpText.{HelpText}
use Rattle.module_reports.specs.declared.descriptions.helping.HelpText.TheVariants as texts

-- the answer
abbrev pub help_view : HelpText → HelpAnswer
help_view (texts.Own text) = own (string_bytes text)
help_view (texts.Described text) = described (string_bytes text)

-- the file was refused because it has no procedure; not where memory ran out
abbrev pub lacks_by : Option FileReason → Bool
lacks_by None = false
lacks_by (Some reason) = lacks_help reason.stop

-- the context in which the file of a module is evaluated
abbrev pub context_for : HelpRequest → search.FoundModule → Environment → FileContext
context_for request m e =
    record {
      mode = modes.whatis;
      in_switch = false;
      name = m.name;
      path = m.path;
      shell = request.shell;
      typed = request.typed.now;
      loaded = map string_bytes request.loaded.now;
      before = e;
    }

-- what a call answers is the outcome of the text in the context, whatever environment it leaves; or memory ran out
abbrev pub RunsText : Limits → FileContext → Text → Result FileRun RunFault → Type 0
RunsText limits c text (Ok ran) = (new : Environment) × RunsFile limits c text (Ok (ran_view ran new))
RunsText limits c text (Err fault) = IfSome (file_reason_of fault) (λ reason. RunsFile limits c text (Err reason))

-- the names of entries, if there are entries
abbrev pub named : Result (List Entry) RequestReason → Result (List Text) RequestReason
named (Ok entries) = Ok (names_of entries)
named (Err reason) = Err reason

-- the names of the loaded modules, or the reason that the loaded lists don't fit together
abbrev pub loaded_names : Environment → Result (List Text) RequestReason
loaded_names e = named (entries_of e)
