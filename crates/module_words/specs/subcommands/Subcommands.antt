-- The subcommands of `module`, with their names (module(1), as Environment Modules has them).
use Rattle.std.specs.Prelude.{List, [], ◌∷◌, codes, Option, Some, None}
use Rattle.message.specs.Messages.{Text}
use Rattle.module_words.specs.declared.protocol.place.ReportKind.{ReportKind}
use Rattle.module_words.specs.declared.protocol.place.ReportKind.TheVariants.{Columns, Lines, OfProgram}
use Rattle.module_words.specs.declared.subcommands.table.Subcommand.{Subcommand}
use Rattle.module_words.specs.declared.subcommands.table.Subcommand.TheVariants as subcommands

-- a name, and the subcommand that it is a name of
abbrev pub Row : Type 0
Row = Text × Subcommand

-- all names
unfoldable pub rows : List Row
rows =
    (codes "load", subcommands.Load)
    ∷ (codes "add", subcommands.Load)
    ∷ (codes "unload", subcommands.Unload)
    ∷ (codes "rm", subcommands.Unload)
    ∷ (codes "remove", subcommands.Unload)
    ∷ (codes "del", subcommands.Unload)
    ∷ (codes "switch", subcommands.Switch)
    ∷ (codes "swap", subcommands.Switch)
    ∷ (codes "purge", subcommands.Purge)
    ∷ (codes "reload", subcommands.Reload)
    ∷ (codes "refresh", subcommands.Reload)
    ∷ (codes "forget", subcommands.Forget)
    ∷ (codes "list", subcommands.List)
    ∷ (codes "avail", subcommands.Avail)
    ∷ (codes "show", subcommands.Show)
    ∷ (codes "display", subcommands.Show)
    ∷ (codes "whatis", subcommands.Whatis)
    ∷ (codes "keyword", subcommands.Keyword)
    ∷ (codes "apropos", subcommands.Keyword)
    ∷ (codes "search", subcommands.Keyword)
    ∷ (codes "is-loaded", subcommands.IsLoaded)
    ∷ (codes "is-avail", subcommands.IsAvail)
    ∷ (codes "use", subcommands.Use)
    ∷ (codes "unuse", subcommands.Unuse)
    ∷ (codes "save", subcommands.Save)
    ∷ (codes "restore", subcommands.Restore)
    ∷ (codes "savelist", subcommands.SaveList)
    ∷ (codes "saveshow", subcommands.SaveShow)
    ∷ (codes "saverm", subcommands.SaveRemove)
    ∷ (codes "help", subcommands.Help)
    ∷ (codes "--help", subcommands.Help)
    ∷ (codes "-h", subcommands.Help)
    ∷ (codes "--version", subcommands.Version)
    ∷ (codes "-V", subcommands.Version)
    ∷ []

-- the name of each subcommand on its page
abbrev pub name_of : Subcommand → Text
name_of subcommands.Load = codes "load"
name_of subcommands.Unload = codes "unload"
name_of subcommands.Switch = codes "switch"
name_of subcommands.Purge = codes "purge"
name_of subcommands.Reload = codes "reload"
name_of subcommands.Forget = codes "forget"
name_of subcommands.List = codes "list"
name_of subcommands.Avail = codes "avail"
name_of subcommands.Show = codes "show"
name_of subcommands.Whatis = codes "whatis"
name_of subcommands.Keyword = codes "keyword"
name_of subcommands.IsLoaded = codes "is-loaded"
name_of subcommands.IsAvail = codes "is-avail"
name_of subcommands.Use = codes "use"
name_of subcommands.Unuse = codes "unuse"
name_of subcommands.Save = codes "save"
name_of subcommands.Restore = codes "restore"
name_of subcommands.SaveList = codes "savelist"
name_of subcommands.SaveShow = codes "saveshow"
name_of subcommands.SaveRemove = codes "saverm"
name_of subcommands.Help = codes "help"
name_of subcommands.Version = codes "--version"

-- what the report of each subcommand with these words is like, unless an option says otherwise; if it makes one
abbrev pub report_of : Subcommand → List Text → Option ReportKind
report_of subcommands.List words = Some Columns
report_of subcommands.Avail words = Some Columns
report_of subcommands.Show words = Some Lines
report_of subcommands.Whatis words = Some Lines
report_of subcommands.Keyword words = Some Lines
report_of subcommands.SaveList words = Some Lines
report_of subcommands.SaveShow words = Some Lines
report_of subcommands.Use [] = Some Lines
report_of subcommands.Help [] = Some OfProgram
report_of subcommands.Help (word ∷ words) = Some Lines
report_of subcommands.Version words = Some OfProgram
report_of other words = None
