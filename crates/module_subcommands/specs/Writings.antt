-- Where the program writes, and when (docs/DECISIONS.md, "The functions and the program `module`").
use Rattle.std.specs.Prelude.{string_bytes, vec_items}
use Rattle.message.specs.Messages.{Text}
use Rattle.module_words.specs.declared.protocol.asker.Asker.{Asker}
use Rattle.module_words.specs.declared.protocol.asker.Asker.TheVariants as askers
use Rattle.module_words.specs.declared.protocol.place.Place.{Place}
use Rattle.module_words.specs.declared.protocol.place.Place.TheVariants as places
use Rattle.module_subcommands.specs.declared.writing.Condition.{Condition}
use Rattle.module_subcommands.specs.declared.writing.Condition.TheVariants as conditions
use Rattle.module_subcommands.specs.declared.writing.Stream.{Stream}
use Rattle.module_subcommands.specs.declared.writing.Stream.TheVariants.{Output, Handed, Error}
use Rattle.module_subcommands.specs.declared.writing.Writing.{Writing}

-- always, unless a directory is at a path, or if a program is there
pub data When : Type 0 where
  always : When
  unless_directory : (path : Text) → When
  if_program : (path : Text) → When

-- bytes that are written somewhere
pub record Written : Type 0 where
  pub stream : Stream
  pub when : When
  pub bytes : Text

-- what the values of the code stand for
abbrev pub when_of : Condition → When
when_of conditions.Always = always
when_of (conditions.UnlessDirectory path) = unless_directory (string_bytes path)
when_of (conditions.IfProgram path) = if_program (string_bytes path)

abbrev pub writing_view : Writing → Written
writing_view w = record { stream = w.stream; when = when_of w.condition; bytes = vec_items w.bytes }

-- bytes that are always written
abbrev pub always_to : Stream → Text → Written
always_to stream bytes = record { stream = stream; when = always; bytes = bytes }

-- Where a report is written: to standard error, or to the user's standard output, which a function hands on.
abbrev pub stream_of : Asker → Place → Stream
stream_of asker places.Error = Error
stream_of (askers.Handing screen) place = Handed
stream_of asker place = Output
