-- What `help NAME` answers (own): what the procedure `ModulesHelp` of the module's file says when it is called behind
-- the file; where there is none, or it says nothing, what the module is.
use Rattle.std.specs.Prelude.{Bool, false, List, [], ◌∷◌, ◌++◌, bytes_eq, codes, flat_map, None, Result, Ok, Err}
use Rattle.envvars.specs.Texts.{Text}
use Rattle.envvars.specs.Environment.{Environment}
use Rattle.filetree.specs.Relations.{Is, If, ◌>>◌}
use Rattle.tclrules.specs.declared.limits.Limits.{Limits}
use Rattle.modulefile.specs.Effects as modes
use Rattle.modulefile.specs.Answers.{FileContext}
use Rattle.modulefile.specs.Files.{FileReason, FileStop, Ran, RunsFile, failed, halted, refused}
use Rattle.modulefile.specs.Reports.{whatis_text}
use Rattle.search.specs.Found as search
use Rattle.requests.specs.Reasons.{RequestReason, file_refused}
use Rattle.requests.specs.Refusals.{RefusedAs}
use Rattle.requests.specs.Steps.{RequestContext, Finds, context_of, entries_of}
use Rattle.module_reports.specs.descriptions.Calls.{with_call}

-- what is answered: the messages of the file and of its procedure; or what `whatis NAME` writes
pub data HelpAnswer : Type 0 where
  own : (text : Text) → HelpAnswer
  described : (text : Text) → HelpAnswer

-- The evaluation stopped because the file has no such procedure.
abbrev pub lacks_help : FileStop → Bool
lacks_help (halted halt) = false
lacks_help (refused refusal) = false
lacks_help (failed message line) = bytes_eq message (codes "invalid command name \"ModulesHelp\"")

-- messages, one after another
abbrev pub joined : List Text → Text
joined messages = flat_map (λ message. message) messages

-- what `whatis NAME` writes of the module that was found
abbrev pub Describes : Limits → FileContext → search.FoundModule → Result Text RequestReason → Type 0
Describes limits c m =
    RefusedAs file_refused (RunsFile limits c m.text) >> (λ ran.
    Is (Ok (joined ran.messages ++ whatis_text m.name ran.records)))

-- what was said; the description where nothing was
abbrev pub said_or : Text → Text → HelpAnswer
said_or [] description = described description
said_or (b ∷ said) description = own (b ∷ said)

-- without the place, which is one of the text with the call and not of the file
abbrev pub without_place : FileReason → FileReason
without_place reason = record reason { place = None }

-- the answer by the outcome of the file with the call behind it
abbrev pub HelpsBy : Text → Result Ran FileReason → Result HelpAnswer RequestReason → Type 0
HelpsBy description (Ok ran) = Is (Ok (said_or (joined ran.messages) description))
HelpsBy description (Err reason) =
    If (lacks_help reason.stop) (Is (Ok (described description))) (Is (Err (file_refused (without_place reason))))

-- the answer of the module with this description
abbrev pub HelpsCalled : Limits → FileContext → search.FoundModule → Text → Result HelpAnswer RequestReason → Type 0
HelpsCalled limits c m description o =
    (outcome : Result Ran FileReason) × RunsFile limits c (with_call m.text) outcome × HelpsBy description outcome o

-- the answer of the module that was found
abbrev pub HelpsFound : Limits → FileContext → search.FoundModule → Result HelpAnswer RequestReason → Type 0
HelpsFound limits c m = Describes limits c m >> HelpsCalled limits c m

-- What `help` answers of the module that a name means. Its file is evaluated for its description.
abbrev pub Helps : RequestContext → Environment → Text → Result HelpAnswer RequestReason → Type 0
Helps s e typed =
    Is (entries_of e) >> (λ xs.
    Finds s e typed >> (λ m.
    HelpsFound s.limits (context_of s modes.whatis false typed m.name m.path xs e) m))
