-- The program that a site has behind commands (module(1), "What a site adds").
use Rattle.std.specs.Prelude.{Bool, true, false, not, ◌||◌, List, [], ◌++◌, codes, string_bytes, if◌then◌else◌}
use Rattle.std.specs.Prelude.{Option, Some, None}
use Rattle.std.specs.Option.{option_map}
use Rattle.message.specs.Messages.{Text}
use Rattle.envvars.specs.Changes.{NewValue}
use Rattle.shelltext.specs.declared.shell.Shell.{Shell}
use Rattle.module_words.specs.declared.protocol.asker.Asker.{Asker}
use Rattle.module_words.specs.declared.protocol.asker.Asker.TheVariants as askers
use Rattle.module_words.specs.declared.subcommands.table.Subcommand.{Subcommand}
use Rattle.module_words.specs.function.Asked.{Command}
use Rattle.module_words.specs.protocol.After.{after_line, changes_list}
use Rattle.module_subcommands.specs.Sites.{site_path}
use Rattle.module_subcommands.specs.declared.asking.Asking.{Asking}
use Rattle.module_subcommands.specs.declared.reply.After.{After}

-- no function asks
abbrev pub is_script : Asker → Bool
is_script askers.Script = true
is_script (askers.Handing screen) = false
is_script askers.Unhanding = false

-- where the program may be behind these changes: for a function, if the list of loaded modules is another one
abbrev pub program_behind : Asker → Option Text → List NewValue → Option Text
program_behind asker called_as changes =
    if is_script asker || not (changes_list changes) then None else site_path called_as (codes "etc/after")

-- the line that starts it
abbrev pub line_of : Shell → Option Text → Subcommand → List Text → Text
line_of shell None subcommand words = []
line_of shell (Some path) subcommand words = after_line shell path subcommand words

-- the path, and the lines
abbrev pub Started : Type 0
Started = Option Text × Text

abbrev pub after_view : After → Started
after_view after = (option_map string_bytes after.program, string_bytes after.lines)

abbrev pub program_of : Asking → List NewValue → Option Text
program_of asking changes =
    program_behind asking.asker (option_map string_bytes asking.site.called_as) changes

-- What starts it behind a command, and behind two.
abbrev pub after_one : Asking → List NewValue → Command → Started
after_one asking changes command =
    (program_of asking changes, line_of asking.shell (program_of asking changes) command.0 command.1)

abbrev pub after_both : Asking → List NewValue → Command → Command → Started
after_both asking changes first second = (
  program_of asking changes,
  line_of asking.shell (program_of asking changes) first.0 first.1
      ++ line_of asking.shell (program_of asking changes) second.0 second.1,
)
