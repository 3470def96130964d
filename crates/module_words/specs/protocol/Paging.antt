-- Which reports a pager shows, and which terminals show colours (module(1), ENVIRONMENT; no-color.org for NO_COLOR).
use Rattle.std.specs.Prelude.{ℕ, Bool, true, false, not, ◌&&◌, bytes_eq, codes, nat_le, Option, Some, None, []}
use Rattle.message.specs.Messages.{Text}
use Rattle.module_words.specs.declared.protocol.asker.Screen.{Screen}
use Rattle.module_words.specs.declared.protocol.place.Place.{Place}
use Rattle.module_words.specs.declared.protocol.place.Place.TheVariants as places
use Rattle.module_words.specs.declared.protocol.place.ReportKind.{ReportKind}
use Rattle.module_words.specs.declared.protocol.place.ReportKind.TheVariants as kinds

-- the values of variables
abbrev pub Values : Type 0
Values = Text → Option Text

-- a terminal that can do more than print
abbrev pub is_able : Option Text → Bool
is_able None = false
is_able (Some term) = not (bytes_eq term (codes "dumb"))

-- a value that isn't empty
abbrev pub is_filled : Option Text → Bool
is_filled None = false
is_filled (Some text) = not (bytes_eq text [])

-- an empty value
abbrev pub is_void : Option Text → Bool
is_void None = false
is_void (Some text) = bytes_eq text []

-- the terminal shows colours
abbrev pub has_colours : Values → Bool
has_colours value = is_able (value (codes "TERM")) && not (is_filled (value (codes "NO_COLOR")))

-- the report fills the terminal
abbrev pub is_long : Place → ℕ → Bool
is_long (places.Terminal (Some screen)) lines = nat_le screen.lines lines
is_long place lines = false

-- the report stands in columns
abbrev pub is_columns : ReportKind → Bool
is_columns kinds.Columns = true
is_columns kinds.Lines = false
is_columns kinds.OfProgram = false

-- a pager shows the report
abbrev pub is_paged : Values → ReportKind → Place → ℕ → Bool
is_paged value kind place lines =
    (is_columns kind && is_long place lines) && (is_able (value (codes "TERM")) && not (is_void (value (codes "PAGER"))))

-- the pager is the user's own
abbrev pub has_own_pager : Values → Bool
has_own_pager value = is_filled (value (codes "PAGER"))
