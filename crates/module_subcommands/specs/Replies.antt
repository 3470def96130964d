-- What is written of an accepted command, with its status (module(1), DIAGNOSTICS and EXIT STATUS).
use Rattle.std.specs.Prelude.{ℕ, Bool, false, List, [], ◌∷◌, ◌++◌, codes, map, string_bytes, vec_items}
use Rattle.std.specs.Prelude.{if◌then◌else◌, Option, Some, None}
use Rattle.std.specs.Option.{option_map}
use Rattle.message.specs.Messages.{Text}
use Rattle.terminal.specs.text.Shown.{shown_lines}
use Rattle.envvars.specs.Fields.{without_repeats}
use Rattle.envvars.specs.Texts.{texts_in}
use Rattle.shelltext.specs.declared.shell.Shell.{Shell}
use Rattle.module_words.specs.declared.protocol.asker.Asker.{Asker}
use Rattle.module_words.specs.protocol.Askers.{refusal_status}
use Rattle.module_subcommands.specs.declared.reply.After.{After}
use Rattle.module_subcommands.specs.declared.reply.ChangedModules.{ChangedModules}
use Rattle.module_subcommands.specs.declared.reply.Reply.{Reply}
use Rattle.module_subcommands.specs.declared.reply.Reply.TheVariants as replies
use Rattle.module_subcommands.specs.declared.reply.Report.{Report}
use Rattle.module_subcommands.specs.declared.writing.Stream.TheVariants.{Output, Error}
use Rattle.module_subcommands.specs.Writings.{Written, always_to, if_program, stream_of, unless_directory}

-- a line of the program's own, by whether standard error is a terminal, which it doesn't steer
abbrev pub own_line : Bool → Text → Text
own_line is_terminal line = if is_terminal then shown_lines line else line

abbrev pub own_writing : Bool → Text → Written
own_writing is_terminal line = always_to Error (own_line is_terminal line)

-- a message of a modulefile goes to standard error as it is
abbrev pub message_writing : Text → Written
message_writing message = always_to Error message

-- a text for the shell goes to standard output
abbrev pub output_writing : Text → Written
output_writing text = always_to Output text

-- the lines that start the site's program, if that is one
abbrev pub program_writing : Text → Text → Written
program_writing path lines = record { stream = Output; when = if_program path; bytes = lines }

abbrev pub writings_after : Option Text → Text → List Written
writings_after None lines = []
writings_after (Some path) lines = program_writing path lines ∷ []

abbrev pub path_of : After → Option Text
path_of after = option_map string_bytes after.program

abbrev pub after_writings : After → List Written
after_writings after = writings_after (path_of after) (string_bytes after.lines)

-- where modules were loaded or unloaded: what is said of those put in, the messages, the text, and then the lines for
-- the site's program
abbrev pub changed_writings : Bool → ChangedModules → List Written
changed_writings is_terminal c =
    own_writing is_terminal (string_bytes c.said)
    ∷ (map message_writing (texts_in c.messages)
    ++ (output_writing (string_bytes c.text) ∷ after_writings c.after))

-- the line that a directory which is searched isn't there
abbrev pub missing_line : Text → Text
missing_line path = codes "There is no directory '" ++ (path ++ codes "' yet.\n")

abbrev pub missing_writing : Bool → Text → Written
missing_writing is_terminal path = record {
  stream = Error;
  when = unless_directory path;
  bytes = own_line is_terminal (missing_line path);
}

-- where other directories are searched: such a line of each that was added, once, and the text
abbrev pub searched_writings : Bool → List Text → Text → List Written
searched_writings is_terminal added text =
    map (missing_writing is_terminal) (without_repeats added) ++ output_writing text ∷ []

-- a report: why it is empty, and what goes to its place
abbrev pub reported_writings : Bool → Asker → Report → List Written
reported_writings is_terminal asker r =
    own_writing is_terminal (string_bytes r.aside)
    ∷ always_to (stream_of asker r.place) (vec_items r.bytes)
    ∷ []

-- What is written of an answer, in turn.
abbrev pub writings_of : Bool → Asker → Reply → List Written
writings_of is_terminal asker (replies.Changed changed) = changed_writings is_terminal changed
writings_of is_terminal asker (replies.Searched added text) =
    searched_writings is_terminal (texts_in added) (string_bytes text)
writings_of is_terminal asker (replies.Reported report) = reported_writings is_terminal asker report
writings_of is_terminal asker (replies.Paged text) = output_writing (string_bytes text) ∷ []
writings_of is_terminal asker (replies.Truth b) = []
writings_of is_terminal asker replies.Nothing = []

-- What goes to standard error behind that, whether or not it can be written.
abbrev pub hints_of : Reply → Text
hints_of (replies.Changed changed) = string_bytes changed.hints
hints_of other = []

-- The status: `no` has that of a refusal, and what a pager shows 110.
abbrev pub status_of : Shell → Asker → Reply → ℕ
status_of shell asker (replies.Truth false) = refusal_status shell asker
status_of shell asker (replies.Paged text) = 110
status_of shell asker other = 0
