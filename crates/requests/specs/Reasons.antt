-- Why a request is refused, and the number of each reason (own). Want of memory and a failed device are no reasons:
-- they are causes beside these.
use Rattle.std.specs.Prelude.{ℕ, List}
use Rattle.message.specs.Refusals.{number_of}
use Rattle.message.specs.declared.refusals.RefusalKind.TheVariants as kinds
use Rattle.envvars.specs.Texts.{Text}
use Rattle.modulefile.specs.Judgments.{RecordReason}
use Rattle.modulefile.specs.Answers.{record_number}
use Rattle.modulefile.specs.Files.{FileReason, file_reason_number}
use Rattle.search.specs.Reasons as search
use Rattle.search.specs.Reasons.{bad_name, not_found, bad_default, not_utf8_at}

-- why a request is refused
pub data RequestReason : Type 0 where
  -- the words don't fit the subcommand
  bad_arguments : RequestReason
  -- no subcommand has this name
  unknown_subcommand : (word : Text) → RequestReason
  -- a name is ill-spelled, or the search finds no module, or none that can be read
  missed : search.FindReason → RequestReason
  -- no file is at the path of a loaded module
  file_gone : (path : Text) → RequestReason
  -- the file at the path of a loaded module is no modulefile
  not_a_modulefile : (path : Text) → RequestReason
  -- a modulefile's evaluation is refused
  file_refused : FileReason → RequestReason
  -- this loaded module and the one that is to be loaded are in conflict
  conflict_with : (name : Text) → RequestReason
  -- none of these is loaded
  prereq_missing : (names : List Text) → RequestReason
  -- this module would lose what it needs
  still_needed_by : (name : Text) → RequestReason
  -- the loaded lists don't fit together, or an entry can't join them
  refused_edit : RecordReason → RequestReason

-- the numbers of the reasons that a search has
abbrev pub search_number : search.FindReason → ℕ
search_number (bad_name name) = number_of kinds.BadName
search_number (not_found name) = number_of kinds.NotFound
search_number (bad_default path) = number_of kinds.BadDefaultFile
search_number (not_utf8_at path) = number_of kinds.NotUtf8

-- the number of each reason
abbrev pub reason_number : RequestReason → ℕ
reason_number bad_arguments = number_of kinds.BadArguments
reason_number (unknown_subcommand word) = number_of kinds.UnknownSubcommand
reason_number (missed reason) = search_number reason
reason_number (file_gone path) = number_of kinds.FileGone
reason_number (not_a_modulefile path) = number_of kinds.NotAModulefile
reason_number (file_refused stop) = file_reason_number stop
reason_number (conflict_with name) = number_of kinds.ConflictWith
reason_number (prereq_missing names) = number_of kinds.PrereqMissing
reason_number (still_needed_by name) = number_of kinds.StillNeededBy
reason_number (refused_edit reason) = record_number reason
