-- What the words of a command line ask an audit for (own; the option that ends options is POSIX's).
use Rattle.std.specs.Prelude.{Bool, not, ◌||◌, List, [], ◌∷◌, ◌++◌, codes, bytes_eq, flat_map, nat_eq}
use Rattle.std.specs.Prelude.{if◌then◌else◌, Option, Some, None, option_map}
use Rattle.std.specs.List.{list_all, list_any, starts_with, before_first, after_first}
use Rattle.envvars.specs.Texts.{Text}
use Rattle.audit_report.specs.declared.selection.Selection.{Selection}
use Rattle.audit_report.specs.declared.selection.Selection.TheVariants.{Each, NotCertified}
use Rattle.modaudit.specs.declared.command.arguments.Format.{Format}
use Rattle.modaudit.specs.declared.command.arguments.Format.TheVariants.{Lines, Document}

-- What is asked for: which modules the report names, how it is written, the names of the modules that are excluded, and
-- the directories that are the MODULEPATH of the audit.
pub record Wanted : Type 0 where
  pub selection : Selection
  pub format : Format
  pub without : List Text
  pub directories : List Text

-- the word ends the options
abbrev pub is_end : Text → Bool
is_end word = bytes_eq word (codes "--")

-- the word begins as an option does
abbrev pub is_dashed : Text → Bool
is_dashed word = starts_with nat_eq word (codes "-")

-- it is a known option, or none
abbrev pub is_known : Text → Bool
is_known word = bytes_eq word (codes "--quiet") || (bytes_eq word (codes "--json") || not (is_dashed word))

-- by `--quiet` the report names the modules alone that aren't certified
abbrev pub selection_of : List Text → Selection
selection_of options = if list_any (λ word. bytes_eq word (codes "--quiet")) options then NotCertified else Each

-- by `--json` it is one JSON document
abbrev pub format_of : List Text → Format
format_of options = if list_any (λ word. bytes_eq word (codes "--json")) options then Document else Lines

-- the directory that a word among the options is; none where it is an option
abbrev pub directory_in : Text → List Text
directory_in word = if is_dashed word then [] else word ∷ []

-- the directories among the options
abbrev pub directories_in : List Text → List Text
directories_in options = flat_map directory_in options

-- the word is the option whose next word names modules
abbrev pub is_without : Text → Bool
is_without word = bytes_eq word (codes "--without")

-- Words in two lists, in their order: the words behind `--without`, and those but this option and these.
pub record PartedWords : Type 0 where
  pub without : List Text
  pub others : List Text

-- with one name more, and with another word more, in front
abbrev pub naming : Text → PartedWords → PartedWords
naming name parted = record { without = name ∷ parted.without; others = parted.others }

abbrev pub keeping : Text → PartedWords → PartedWords
keeping word parted = record { without = parted.without; others = word ∷ parted.others }

-- the words parted so; none where the last is a `--without` without its name
abbrev pub parted : List Text → Option PartedWords
parted [] = Some (record { without = []; others = [] })
parted (word ∷ []) = if is_without word then None else Some (record { without = []; others = word ∷ [] })
parted (word ∷ name ∷ words) =
    if is_without word then option_map (naming name) (parted words) else option_map (keeping word) (parted (name ∷ words))

-- what these options, and words after the one that ends options, ask for
abbrev pub wanted_by : PartedWords → List Text → Wanted
wanted_by options others =
    record {
      selection = selection_of options.others;
      format = format_of options.others;
      without = options.without;
      directories = directories_in options.others ++ others;
    }

-- the same, where each option is known
abbrev pub wanted_if : Option PartedWords → List Text → Option Wanted
wanted_if None others = None
wanted_if (Some options) others = if list_all is_known options.others then Some (wanted_by options others) else None

-- The arguments ask how the program is called: `--help` is among the options, whatever else is there.
abbrev pub asks_help : List Text → Bool
asks_help words = list_any (λ word. bytes_eq word (codes "--help")) (before_first is_end words)

-- What the arguments ask for; none where an option isn't known, or `--without` is the last.
abbrev pub wanted_of : List Text → Option Wanted
wanted_of words = wanted_if (parted (before_first is_end words)) (after_first is_end words)
