-- Where a report of the program `module` goes (docs/DECISIONS.md, "The functions and the program `module`").
use Rattle.std.specs.Prelude.{Bool, true, false, if◌then◌else◌, Option, Some, None}
use Rattle.module_words.specs.declared.protocol.asker.Asker.{Asker}
use Rattle.module_words.specs.declared.protocol.asker.Asker.TheVariants as askers
use Rattle.module_words.specs.declared.protocol.asker.Screen.{Screen}
use Rattle.module_words.specs.declared.protocol.place.Place.{Place}
use Rattle.module_words.specs.declared.protocol.place.Place.TheVariants as places
use Rattle.module_words.specs.declared.protocol.place.ReportKind.{ReportKind}
use Rattle.module_words.specs.declared.protocol.place.ReportKind.TheVariants as kinds
use Rattle.module_words.specs.declared.protocol.place.Streams.{Streams}

-- at a terminal: columns have a place only where their number is known
abbrev pub at_terminal : ReportKind → Option Screen → Place
at_terminal kinds.Columns None = places.Elsewhere
at_terminal kind screen = places.Terminal screen

-- the terminal that an asker shows it on
abbrev pub shown_to : Asker → ReportKind → Place
shown_to askers.Script kind = places.Terminal None
shown_to (askers.Handing screen) kind = at_terminal kind screen
shown_to askers.Unhanding kind = places.Elsewhere

-- the user's standard output, if it is a terminal or if it is none
abbrev pub besides : Asker → ReportKind → Bool → Place
besides asker kind true = shown_to asker kind
besides askers.Unhanding kind false = places.Elsewhere
besides asker kind false = places.Output

-- Where a report goes: the usage and the version to the user's standard output, others to standard error, and to the
-- user's standard output if standard error is a terminal.
abbrev pub place_of : Asker → ReportKind → Streams → Place
place_of asker kinds.OfProgram streams = besides asker kinds.OfProgram false
place_of asker kind streams = if streams.error then besides asker kind streams.output else places.Error
