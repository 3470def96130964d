-- What can be loaded, or is, and which directories are searched (module(1)).
use Rattle.std.specs.Prelude.{◌≡◌, Bool, true, false, ℕ, List, [], ◌∷◌, Result, Ok, Err, IfSome, if◌then◌else◌}
use Rattle.message.specs.Messages.{Text}
use Rattle.envvars.specs.Environment.{Environment, lookup}
use Rattle.filetree.specs.Agreement.{Files, Listings}
use Rattle.filetree.specs.Causes.{Applies}
use Rattle.lookup.specs.DefaultFileResults.{HasResult}
use Rattle.requests.specs.Steps.{modulepath}
use Rattle.module_reports.specs.listings.Available.{ReportsAvailable}
use Rattle.module_reports.specs.listings.Faults.{ListingReason, cause_of, reason_of}
use Rattle.module_reports.specs.listings.Finding.{FindsReadable}
use Rattle.module_reports.specs.listings.Hints.{directory_lines, why_none}
use Rattle.module_reports.specs.listings.Options.{report_words}
use Rattle.module_reports.specs.listings.Places.{terminal_at}
use Rattle.module_reports.specs.listings.Reports.{list_report}
use Rattle.module_words.specs.declared.protocol.place.Place.{Place}
use Rattle.module_words.specs.declared.protocol.place.Place.TheVariants as places
use Rattle.module_words.specs.declared.protocol.place.ReportKind.{ReportKind}
use Rattle.module_words.specs.declared.subcommands.table.Subcommand.TheVariants.{Avail}
use Rattle.module_subcommands.specs.Limits.{standard}
use Rattle.module_subcommands.specs.Reports.{IsLinesReply, IsNamesReply}
use Rattle.module_subcommands.specs.declared.asking.Asking.{Asking}
use Rattle.module_subcommands.specs.declared.refusal.Refusal.{Refusal}
use Rattle.module_subcommands.specs.declared.refusal.Refusal.TheVariants as refusals
use Rattle.module_subcommands.specs.declared.reply.Reply.{Reply}
use Rattle.module_subcommands.specs.declared.reply.Reply.TheVariants as replies

-- the result of the library's report for the terminal at the place
abbrev pub loaded_text : Asking → Place → List Text → Result Text ListingReason
loaded_text asking place words =
    list_report (terminal_at asking.asker (lookup asking.env) place) asking.env words

-- What `list` answers.
abbrev pub ReportsLoaded : Asking → ReportKind → Place → List Text → Reply → Type 0
ReportsLoaded asking kind place words reply =
    (text : Text) × (loaded_text asking place words ≡ Ok text)
    × IsNamesReply (lookup asking.env) kind place [] text reply

abbrev pub RefusesLoaded : Asking → Place → List Text → Refusal → Type 0
RefusesLoaded asking place words refusals.OutOfMemory = Unit {0}
RefusesLoaded asking place words (refusals.Listing fault) =
    IfSome (reason_of fault) (λ reason. loaded_text asking place words ≡ Err reason)
RefusesLoaded asking place words other = ⊥

-- why a report is empty, if it is: a log isn't told
abbrev pub is_log : Place → Bool
is_log places.Error = true
is_log place = false

abbrev pub why_empty : Environment → Place → List Text → Text → Text
why_empty e place words [] = if is_log place then [] else why_none e words
why_empty e place words (b ∷ report) = []

-- What `avail` answers.
abbrev pub ReportsWhatIsThere : (Files → Listings → Type 0) → (Text → Bool) → ℕ → ℕ → Asking → ReportKind → Place
    → List Text → Reply → Type 0
ReportsWhatIsThere agrees has_failed before now asking kind place words reply =
    (text : Text)
    × ReportsAvailable (HasResult standard) agrees has_failed before now
    (terminal_at asking.asker (lookup asking.env) place) asking.env words text
    × IsNamesReply (lookup asking.env) kind place (why_empty asking.env place words text) text reply

abbrev pub RefusesAvailable : Type 0 → List Text → Refusal → Type 0
RefusesAvailable failed words refusals.OutOfMemory = Unit {0}
RefusesAvailable failed words (refusals.Listing fault) =
    Applies (cause_of fault) failed (λ reason. report_words Avail words ≡ Err reason)
RefusesAvailable failed words other = ⊥

-- What `is-avail` answers: yes, if a module is found for one of the names.
abbrev pub TestsAvailable : (Files → Listings → Type 0) → (Text → Bool) → ℕ → ℕ → Asking → List Text → Reply → Type 0
TestsAvailable agrees has_failed before now asking names (replies.Truth is) =
    FindsReadable (HasResult standard) agrees has_failed before now (modulepath asking.env) names is
TestsAvailable agrees has_failed before now asking names other = ⊥

-- What `use` answers without words.
abbrev pub ReportsDirectories : Asking → Place → Reply → Type 0
ReportsDirectories asking place reply =
    IsLinesReply (why_empty asking.env place [] (directory_lines asking.env)) place (directory_lines asking.env) reply
