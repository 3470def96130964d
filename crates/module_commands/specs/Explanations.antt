-- What is said behind a refusal (module(1), "Behind a refusal").
use Rattle.std.specs.Prelude.{◌≡◌, ◌⊎◌, Bool, true, false, List, ◌++◌, ◌∷◌, [], bytes_eq, codes, string_bytes}
use Rattle.std.specs.Prelude.{if◌then◌else◌, Option, Some, None, Result, Ok, Err}
use Rattle.std.specs.Option.{option_map}
use Rattle.message.specs.Messages.{Text}
use Rattle.terminal.specs.text.Shown.{shown}
use Rattle.envvars.specs.Environment.{Environment, lookup}
use Rattle.filetree.specs.Agreement.{Files, Listings, InEachPair}
use Rattle.shelltext.specs.declared.shell.Shell.{Shell}
use Rattle.module_auto.specs.Refused.{EndsLoad, EndsUnload}
use Rattle.module_explain.specs.AdviceLines.{advice_line}
use Rattle.module_explain.specs.Explained.{IsExplained, IsOfCause, IsOfUsage}
use Rattle.module_explain.specs.FileLines.{log_text, user_text}
use Rattle.module_explain.specs.declared.advice.Advice.{Advice}
use Rattle.module_explain.specs.declared.explanation.Explanation.{Explanation}
use Rattle.module_explain.specs.declared.location.FileExplanation.{FileExplanation}
use Rattle.module_words.specs.declared.subcommands.table.Subcommand.{Subcommand}
use Rattle.module_words.specs.function.Asked.{Command}
use Rattle.module_words.specs.function.Advice.{advice_on}
use Rattle.module_words.specs.function.Faults.{FunctionReason, reason_of}
use Rattle.module_words.specs.function.Moved.{Moved, moved_names}
use Rattle.module_words.specs.declared.function.output_fault.OutputFault.TheVariants as outputs
use Rattle.module_words.specs.subcommands.OtherOptions.{option_elsewhere}
use Rattle.module_words.specs.subcommands.Subcommands.{name_of}
use Rattle.module_reports.specs.declared.listings.fault.ListingFault.{ListingFault}
use Rattle.module_reports.specs.declared.listings.fault.ListingFault.TheVariants as listings
use Rattle.modules.specs.Answers.{cause_of}
use Rattle.modules.specs.declared.refusal.Refusal as requests
use Rattle.requests.specs.Requests.{list}
use Rattle.module_subcommands.specs.Limits.{context, standard}
use Rattle.module_subcommands.specs.Moves.{is_load}
use Rattle.module_subcommands.specs.declared.asking.Asking.{Asking}
use Rattle.module_commands.specs.declared.explaining.Cause.{Cause}
use Rattle.module_commands.specs.declared.explaining.Cause.TheVariants.{NoPermission, Readable, Unknown}
use Rattle.module_commands.specs.declared.explaining.Explained.{Explained}
use Rattle.module_subcommands.specs.declared.refusal.Refusal.{Refusal}
use Rattle.module_subcommands.specs.declared.refusal.Refusal.TheVariants as refusals

-- lines, and a path that can't be read, of which a user is to be told why
pub record Told : Type 0 where
  pub lines : Text
  pub unreadable : Option Text

abbrev pub explained_view : Explained → Told
explained_view x = record { lines = string_bytes x.lines; unreadable = option_map string_bytes x.unreadable }

-- lines alone, and nothing
abbrev pub lines_alone : Text → Told
lines_alone lines = record { lines = lines; unreadable = None }

abbrev pub nothing : Told
nothing = lines_alone []

-- why a path can't be read
abbrev pub cause_text : Cause → Text
cause_text Readable = codes "it is readable now, or a name in it isn't UTF-8"
cause_text NoPermission = codes "no permission"
cause_text Unknown = codes "the system can't read it"

abbrev pub cause_line : Text → Cause → Text
cause_line path cause = codes "  " ++ (shown path ++ (codes ": " ++ (cause_text cause ++ codes "\n")))

-- what a user is told of a file that failed, and what to do
abbrev pub file_lines : Option FileExplanation → Text
file_lines None = []
file_lines (Some file) = user_text file

abbrev pub advice_lines : Option Advice → Text
advice_lines None = []
advice_lines (Some advice) = advice_line advice

abbrev pub lines_for_user : Explanation → Text
lines_for_user x = file_lines x.file ++ advice_lines x.advice

-- what a log has of a file that failed
abbrev pub log_lines : Option FileExplanation → Text
log_lines None = []
log_lines (Some file) = log_text file

-- and what to do
abbrev pub lines_for_log : Explanation → Text
lines_for_log x = log_lines x.file ++ advice_lines x.advice

-- What is told of an explanation, by whether standard error is a terminal.
abbrev pub told_of : Bool → Explanation → Told
told_of true x = lines_alone (lines_for_user x)
told_of false x = lines_alone (lines_for_log x)

-- What is told of a path at which the device failed.
abbrev pub told_of_path : Bool → Text → Told
told_of_path true path = record { lines = []; unreadable = Some path }
told_of_path false path = lines_alone (codes "  at " ++ (path ++ codes "\n"))

-- the user wants no explanations
abbrev pub is_no : Option Text → Bool
is_no None = false
is_no (Some value) = bytes_eq value (codes "no")

abbrev pub is_unwanted : (Text → Option Text) → Bool
is_unwanted value = is_no (value (codes "MODULECMD_EXPLAIN"))

-- of a path, or nothing
abbrev pub IsOfPath : Bool → Told → Type 0
IsOfPath is_terminal t = (t ≡ nothing) ⊎ ((path : Text) × (t ≡ told_of_path is_terminal path))

-- what is told of the explanation of a request, or of a path that can't be read
abbrev pub ExplainsIf : Bool → (Files → Listings → Type 0) → Asking → Environment → List Text → Told → Type 0
ExplainsIf true agrees asking e words t = t ≡ nothing
ExplainsIf false agrees asking e words t =
    ((x : Explanation) × IsExplained agrees standard asking.shell e words x × (t ≡ told_of asking.site.streams.error x))
    ⊎ IsOfPath asking.site.streams.error t

-- What explains that the command of these words was refused, if the user wants it.
abbrev pub Explains : (Files → Listings → Type 0) → Asking → Environment → List Text → Told → Type 0
Explains agrees asking e words t = ExplainsIf (is_unwanted (lookup e)) agrees asking e words t

-- What explains a refusal that no request has brought, if the user wants it.
abbrev pub ExplainsCauseIf : Bool → (Files → Listings → Type 0) → Asking → requests.Refusal → Told → Type 0
ExplainsCauseIf true agrees asking refusal t = t ≡ nothing
ExplainsCauseIf false agrees asking refusal t =
    (t ≡ nothing)
    ⊎ ((x : Explanation) × IsOfCause agrees standard asking.shell asking.env list (cause_of refusal) x
    × (t ≡ told_of asking.site.streams.error x))

abbrev pub ExplainsCause : (Files → Listings → Type 0) → Asking → requests.Refusal → Told → Type 0
ExplainsCause agrees asking refusal t = ExplainsCauseIf (is_unwanted (lookup asking.env)) agrees asking refusal t

-- What explains that words don't fit a subcommand, if the user wants it: how that is used.
abbrev pub ExplainsUsageIf : Bool → Asking → Subcommand → Told → Type 0
ExplainsUsageIf true asking subcommand t = t ≡ nothing
ExplainsUsageIf false asking subcommand t =
    (x : Explanation) × IsOfUsage (name_of subcommand ∷ []) x × (t ≡ told_of asking.site.streams.error x)

abbrev pub ExplainsUsage : Asking → Subcommand → Told → Type 0
ExplainsUsage asking subcommand t = ExplainsUsageIf (is_unwanted (lookup asking.env)) asking subcommand t

-- what to type in place of an option that a report doesn't have
abbrev pub of_listing : ListingFault → Option Text
of_listing (listings.NoOption subcommand word) = Some (option_elsewhere word.now)
of_listing other = None

-- What to type in place of words that mean nothing, if a command is refused for these.
abbrev pub advice_behind : Refusal → Option Text
advice_behind (refusals.Function fault) = advice_on (reason_of fault)
advice_behind (refusals.Output (outputs.Refused fault)) = advice_on (reason_of fault)
advice_behind (refusals.Listing fault) = of_listing fault
advice_behind other = None

-- that as a line
abbrev pub line_of : Option Text → Text
line_of None = []
line_of (Some advice) = advice ++ codes "\n"

-- What explains such a refusal, if the user wants it.
abbrev pub told_behind : Asking → Refusal → Told
told_behind asking refusal =
    if is_unwanted (lookup asking.env) then nothing else lines_alone (line_of (advice_behind refusal))

-- with these names an automated load, or else an unload, ends that is refused
abbrev pub EndsIf : Bool → (Files → Listings → Type 0) → Shell → Environment → List Text → List Text → Type 0
EndsIf true agrees shell e asked names =
    InEachPair agrees (λ files listings. EndsLoad (context shell files listings) e asked names)
EndsIf false agrees shell e asked names =
    InEachPair agrees (λ files listings. EndsUnload (context shell files listings) e asked names)

abbrev pub EndsWith : (Files → Listings → Type 0) → Shell → Environment → Subcommand → List Text → List Text → Type 0
EndsWith agrees shell e subcommand asked names = EndsIf (is_load subcommand) agrees shell e asked names

-- the words of the request with which an automated load or unload of these names ends that is refused
abbrev pub AreAutomatedWords : (Files → Listings → Type 0) → Shell → Environment → Subcommand → List Text → List Text → Type 0
AreAutomatedWords agrees shell e subcommand asked words =
    (names : List Text) × EndsWith agrees shell e subcommand asked names × (words ≡ name_of subcommand ∷ names)

-- the words of the request with which a command ends that is refused, by the names among its own
abbrev pub RefusedIf : Bool → (Files → Listings → Type 0) → Shell → Environment → Command → List Text → List Text → Type 0
RefusedIf true agrees shell e command asked words = AreAutomatedWords agrees shell e command.0 asked words
RefusedIf false agrees shell e command asked words = words ≡ name_of command.0 ∷ command.1

abbrev pub RefusedBy : (Files → Listings → Type 0) → Shell → Environment → Command → Result Moved FunctionReason
    → List Text → Type 0
RefusedBy agrees shell e command (Ok moved) words = RefusedIf moved.0 agrees shell e command moved.1 words
RefusedBy agrees shell e command (Err reason) words = words ≡ name_of command.0 ∷ command.1

abbrev pub AreRefusedWords : (Files → Listings → Type 0) → Asking → Environment → Command → List Text → Type 0
AreRefusedWords agrees asking e command words =
    RefusedBy agrees asking.shell e command (moved_names command.0 (lookup asking.env) command.1) words

-- What explains that a command was refused in an environment: its request does, if that can be found.
abbrev pub ExplainsMove : (Files → Listings → Type 0) → Asking → Environment → Command → Told → Type 0
ExplainsMove agrees asking e command t =
    (t ≡ nothing)
    ⊎ ((words : List Text) × AreRefusedWords agrees asking e command words × Explains agrees asking e words t)
