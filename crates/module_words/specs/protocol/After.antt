-- The program that a site has behind commands, and the line by which a shell starts it (module(1), "What a site adds").
-- The words stand in the quotes of Reading, so the shell reads them as they are.
use Rattle.std.specs.Prelude.{Bool, List, [], ◌∷◌, ◌++◌, not, bytes_eq, codes, if◌then◌else◌}
use Rattle.std.specs.List.{flat_map, list_all, list_any}
use Rattle.message.specs.Messages.{Text}
use Rattle.envvars.specs.Changes.{NewValue}
use Rattle.shelltext.specs.declared.family.Family.{Family}
use Rattle.shelltext.specs.declared.family.Family.TheVariants.{Sh, Csh, Fish}
use Rattle.shelltext.specs.declared.shell.Shell.{Shell}
use Rattle.shelltext.specs.Printing.{quoted}
use Rattle.shelltext.specs.Reading.{is_unsayable}
use Rattle.shelltext.specs.Shells.{family_of, shell_name}
use Rattle.module_words.specs.declared.subcommands.table.Subcommand.{Subcommand}
use Rattle.module_words.specs.subcommands.Subcommands.{name_of}

-- one of the changes is of the list of loaded modules
abbrev pub changes_list : List NewValue → Bool
changes_list changes = list_any (λ c. bytes_eq c.0 (codes "LOADEDMODULES")) changes

-- a word in quotes, behind a blank
abbrev pub behind_blank : Family → Text → Text
behind_blank family word = 32 ∷ quoted family word

-- the shells have a text for each of the words
abbrev pub are_sayable : Family → List Text → Bool
are_sayable family words = list_all (λ word. list_all (λ b. not (is_unsayable family b)) word) words

-- what stands around a command that goes on in the background, with nothing to read, and whose output nobody reads
abbrev pub front : Family → Text
front Sh = codes "("
front Csh = codes "("
front Fish = []

abbrev pub back : Family → Text
back Sh = codes " < /dev/null > /dev/null 2>&1 &)\n"
back Csh = codes " < /dev/null >& /dev/null & );\n"
back Fish = codes " </dev/null >/dev/null 2>&1 & builtin disown $last_pid 2>/dev/null;\n"

-- the command: the program's path, the shell's name, the subcommand's name and the words
abbrev pub command : Shell → Text → Subcommand → List Text → Text
command shell path subcommand words =
    quoted (family_of shell) path
    ++ (behind_blank (family_of shell) (shell_name shell)
    ++ (behind_blank (family_of shell) (name_of subcommand) ++ flat_map (behind_blank (family_of shell)) words))

-- The line by which the shell starts the program; none, if the shell has no text for a word.
abbrev pub after_line : Shell → Text → Subcommand → List Text → Text
after_line shell path subcommand words =
    if are_sayable (family_of shell) words
    then front (family_of shell) ++ (command shell path subcommand words ++ back (family_of shell)) else []
