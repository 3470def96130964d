-- The names that are offered for completion (module(1)).
use Rattle.std.specs.Prelude.{not, List, [], ◌∷◌, ◌++◌, map, filter, codes}
use Rattle.std.specs.List.{flat_map}
use Rattle.message.specs.Messages.{Text}
use Rattle.envvars.specs.Environment.{Environment, lookup}
use Rattle.envvars.specs.Fields.{elements_in, without_repeats}
use Rattle.shelltext.specs.Shells.{all_shells, shell_name}
use Rattle.module_words.specs.subcommands.Meanings.{is_option}
use Rattle.module_words.specs.subcommands.Options.{options_of}
use Rattle.module_words.specs.subcommands.Subcommands.{rows}
use Rattle.module_words.specs.declared.subcommands.table.Subcommand.{Subcommand}
use Rattle.module_reports.specs.completions.Texts.{filled}
use Rattle.module_reports.specs.declared.completions.kind.NameKind.{NameKind}
use Rattle.module_reports.specs.declared.completions.kind.NameKind.TheVariants as kinds

-- the names of the shells
abbrev pub shells : List Text
shells = map shell_name all_shells

-- the options of modaudit(1), and of modport(1)
unfoldable pub audit_options : List Text
audit_options = codes "--help" ∷ codes "--json" ∷ codes "--quiet" ∷ codes "--without" ∷ []

unfoldable pub port_options : List Text
port_options =
    codes "--alias-scripts"
    ∷ codes "--check"
    ∷ codes "--defaults"
    ∷ codes "--drop-unread"
    ∷ codes "--flatten"
    ∷ codes "--help"
    ∷ codes "--host"
    ∷ codes "--json"
    ∷ codes "--kept"
    ∷ codes "--one-version"
    ∷ codes "--stdin"
    ∷ codes "--strict"
    ∷ []

-- those that aren't options
abbrev pub plain : List Text → List Text
plain names = filter (λ name. not (is_option name)) names

-- the names of subcommands, in the order of their table, without those that are options
abbrev pub names_of_subcommands : List Text
names_of_subcommands = plain (map (λ row. row.0) rows)

-- the names of the options of a subcommand, in the order of their table
abbrev pub names_of_options : Subcommand → List Text
names_of_options subcommand = map (λ row. row.0) (options_of subcommand)

-- the elements of a list in a variable that aren't empty
abbrev pub listed : Environment → Text → List Text
listed e name = filled (elements_in (lookup e name))

-- a text behind another
abbrev pub behind : Text → Text → Text
behind front text = front ++ text

-- the names of a kind, of which those of modules that can be loaded are these; collections are looked for elsewhere
abbrev pub names_of : Environment → List Text → NameKind → List Text
names_of e available kinds.Subcommands = names_of_subcommands
names_of e available (kinds.Options subcommand) = names_of_options subcommand
names_of e available kinds.Shells = shells
names_of e available kinds.AuditOptions = audit_options
names_of e available kinds.PortOptions = port_options
names_of e available kinds.Loaded = map (behind []) (listed e (codes "LOADEDMODULES"))
names_of e available kinds.LoadedToUnload = map (behind (codes "-")) (listed e (codes "LOADEDMODULES"))
names_of e available kinds.Directories = map (behind []) (listed e (codes "MODULEPATH"))
names_of e available kinds.Available = available
names_of e available kinds.Collections = []

-- the names of some kinds, in turn, each once
abbrev pub offered : Environment → List Text → List NameKind → List Text
offered e available kinds = without_repeats (flat_map (names_of e available) kinds)
