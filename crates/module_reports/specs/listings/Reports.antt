-- The reports of `avail` and `list` (module(1)). On a terminal no character steers it; into a pipe bytes go as they are.
use Rattle.std.specs.Prelude.{Bool, true, false, ◌&&◌, List, [], ◌∷◌, ◌++◌, map, filter, bytes_eq, chars, codes}
use Rattle.std.specs.Prelude.{Option, Some, None, Result, Ok, Err, if◌then◌else◌, unwrap_or}
use Rattle.std.specs.List.{flat_map, list_any}
use Rattle.message.specs.Messages.{Text}
use Rattle.unicode_width.specs.Width.{str_width}
use Rattle.terminal.specs.text.Shown.{shown}
use Rattle.terminal.specs.text.Tables.{Cell, table_text}
use Rattle.envvars.specs.Environment.{Environment}
use Rattle.envstate.specs.loaded_list.Loaded.{Entry, loaded_in, names_of}
use Rattle.modulefile.specs.Reports.{line_of}
use Rattle.filetree.specs.Modulefiles.{path_of}
use Rattle.search.specs.Listed.{Listing, ListingEntry}
use Rattle.requests.specs.Reports.{avail_text, loaded_text}
use Rattle.module_words.specs.declared.subcommands.table.Subcommand.TheVariants as subcommands
use Rattle.module_reports.specs.listings.Faults.{ListingReason, inconsistent}
use Rattle.module_reports.specs.listings.Options.{Words, report_words}
use Rattle.module_reports.specs.listings.Texts.{is_meant}
use Rattle.module_reports.specs.declared.listings.layout.Terminal.{Terminal}

-- a name in a report: whether it is marked as a default, and as loaded
abbrev pub Name : Type 0
Name = Text × (Bool × Bool)

-- a heading, and the names below it
abbrev pub Part : Type 0
Part = Text × List Name

-- the marks behind a name that is a default, or loaded
abbrev pub marks : Bool → Bool → Text
marks true true = codes "(default, loaded)"
marks true false = codes "(default)"
marks false true = codes "(loaded)"
marks false false = []

-- a text between the sequences that turn a style of the terminal on and off
abbrev pub styled : Text → Text → Text
styled style text = (27 ∷ style) ++ (text ++ (27 ∷ codes "[0m"))

-- the marks as they are written: green for a default, where the terminal shows colours
abbrev pub written_marks : Bool → Bool → Bool → Text
written_marks coloured is_default is_loaded =
    if coloured && is_default then styled (codes "[32m") (marks is_default is_loaded) else marks is_default is_loaded

-- a name with its marks as a cell of a table
abbrev pub cell_of : Bool → Name → Cell
cell_of coloured name = (
  shown name.0 ++ written_marks coloured name.1.0 name.1.1,
  str_width false (chars (shown name.0 ++ marks name.1.0 name.1.1)),
)

-- a line of a text as a terminal shows it
abbrev pub shown_line : Text → Text
shown_line text = shown text ++ 10 ∷ []

-- the line of a heading: bold, where the terminal shows colours
abbrev pub heading_line : Bool → Text → Text
heading_line true heading = styled (codes "[1m") (shown heading) ++ 10 ∷ []
heading_line false heading = shown_line heading

-- names in columns below their heading; without a name there is nothing
abbrev pub columns_text : Terminal → Part → Text
columns_text terminal (heading, []) = []
columns_text terminal (heading, name ∷ names) =
    heading_line terminal.coloured heading
    ++ table_text terminal.width (map (cell_of terminal.coloured) (name ∷ names))

-- the line of a name
abbrev pub name_line : Name → Text
name_line name = shown name.0 ++ (marks name.1.0 name.1.1 ++ 10 ∷ [])

-- names one a line below their heading; without a name there is nothing
abbrev pub lines_text : Part → Text
lines_text (heading, []) = []
lines_text (heading, name ∷ names) = shown_line heading ++ flat_map name_line (name ∷ names)

-- the parts of a report on a terminal, one name a line or in columns
abbrev pub part_text : Terminal → Bool → Part → Text
part_text terminal true part = lines_text part
part_text terminal false part = columns_text terminal part

abbrev pub shown_report : Terminal → Bool → List Part → Text
shown_report terminal in_lines parts = flat_map (part_text terminal in_lines) parts

-- ---- avail

-- the module at a path is loaded
abbrev pub is_loaded : List Entry → Text → Bool
is_loaded loaded path = list_any (λ entry. bytes_eq entry.path path) loaded

-- a module of a directory, and a directory with its modules, as a report names them
abbrev pub reported : List Entry → Text → ListingEntry → Name
reported loaded dir entry = (entry.0, (entry.1, is_loaded loaded (path_of dir entry.0)))

abbrev pub part_of : List Entry → Listing → Part
part_of loaded listing = (listing.0 ++ codes ":", map (reported loaded listing.0) listing.1)

-- the loaded modules; none where the variables contradict one another
abbrev pub loaded_or_none : Environment → List Entry
loaded_or_none e = unwrap_or (loaded_in e) []

-- the modules of listings: as the program `modulecmd` reports them, or as a terminal shows them
abbrev pub modules_text : Option Terminal → Bool → List Entry → List Listing → Text
modules_text None in_lines loaded listings = avail_text listings
modules_text (Some terminal) in_lines loaded listings =
    shown_report terminal in_lines (map (part_of loaded) listings)

-- the line of a path that can't be read
abbrev pub unreadable_line : Option Terminal → Text → Text
unreadable_line None path = line_of (path ++ codes ": not readable")
unreadable_line (Some terminal) path = shown_line (path ++ codes ": not readable")

-- the report of `avail`: the modules, and then the paths that can't be read
abbrev pub available_text : Option Terminal → Bool → List Entry → List Listing → List Text → Text
available_text terminal in_lines loaded listings unreadable =
    modules_text terminal in_lines loaded listings ++ flat_map (unreadable_line terminal) unreadable

-- ---- list

-- what is said where no name is reported, of the names of all loaded modules
abbrev pub nothing_said : List Text → Text
nothing_said [] = codes "No Modulefiles Currently Loaded."
nothing_said (name ∷ names) = codes "No loaded module begins so."

-- names without marks, below their heading
abbrev pub unmarked : Text → Name
unmarked name = (name, (false, false))

abbrev pub loaded_part : List Text → Part
loaded_part names = (codes "Currently Loaded Modulefiles:", map unmarked names)

-- the report on these names of the names of all loaded modules
abbrev pub names_text : Option Terminal → Bool → List Text → List Text → Text
names_text terminal in_lines loaded [] = line_of (nothing_said loaded)
names_text None in_lines loaded (name ∷ names) = loaded_text (name ∷ names)
names_text (Some terminal) in_lines loaded (name ∷ names) =
    shown_report terminal in_lines (loaded_part (name ∷ names) ∷ [])

-- the names that the texts mean, of loaded modules in load order
abbrev pub names_meant : Words → List Text → List Text
names_meant words names = filter (is_meant words.0 words.1) names

-- the report of `list`, of the loaded modules, and of an environment; where the variables contradict one another there
-- is none
abbrev pub list_text : Option Terminal → Words → Option (List Entry) → Result Text ListingReason
list_text terminal words None = Err inconsistent
list_text terminal words (Some entries) =
    Ok (names_text terminal words.0.lines (names_of entries) (names_meant words (names_of entries)))

abbrev pub list_in : Option Terminal → Environment → Result Words ListingReason → Result Text ListingReason
list_in terminal e (Ok words) = list_text terminal words (loaded_in e)
list_in terminal e (Err reason) = Err reason

-- The report of `list` with these words.
abbrev pub list_report : Option Terminal → Environment → List Text → Result Text ListingReason
list_report terminal e words = list_in terminal e (report_words subcommands.List words)
