-- What is said of words that are refused for themselves (own): what stands in the place of a command that is left out
-- of modulefiles, and how a subcommand is used (module(1)).
use Rattle.std.specs.Prelude.{List, [], ◌∷◌, codes, if◌then◌else◌, Option, Some, None}
use Rattle.envvars.specs.Texts.{Text, has}

-- the commands that load other modules, that change what isn't a variable, that change which module a name means, that
-- write, that read files or run programs, and the variables of arrays
abbrev pub loading : List Text
loading = codes "module" ∷ codes "depends-on" ∷ codes "prereq-all" ∷ codes "prereq-any" ∷ []

abbrev pub of_shells : List Text
of_shells =
    codes "set-alias" ∷ codes "unset-alias" ∷ codes "set-function" ∷ codes "unset-function" ∷ codes "complete"
    ∷ codes "uncomplete" ∷ []

abbrev pub of_searches : List Text
of_searches =
    codes "module-alias" ∷ codes "module-virtual" ∷ codes "module-hide" ∷ codes "module-forbid" ∷ codes "module-tag"
    ∷ []

abbrev pub reading : List Text
reading = codes "exec" ∷ codes "system" ∷ codes "uname" ∷ codes "source-sh" ∷ codes "open" ∷ codes "source" ∷ []

abbrev pub of_arrays : List Text
of_arrays = codes "array" ∷ codes "env" ∷ []

-- a sentence for what is left out by this name, if there is one
abbrev pub instead_of_change : Text → Option Text
instead_of_change name =
    if has name loading then Some (codes "A modulefile loads no other: it says \"prereq NAME\".")
    else if has name of_shells then Some
    (codes "A modulefile changes variables alone: no alias, function or completion.")
    else if has name of_searches then Some (codes "It would change which module a name means.")
    else None

abbrev pub instead_of_reading : Text → Option Text
instead_of_reading name =
    if has name (codes "puts" ∷ []) then Some
    (codes "A message goes to stderr (\"puts stderr TEXT\"), and setenv sets variables.")
    else if has name reading then Some
    (codes "No program is run and no other file read: the site sets a variable, which getenv reads.")
    else if has name of_arrays then Some (codes "A variable of the environment is set by setenv, and read by getenv.")
    else None

abbrev pub first_of : Option Text → Option Text → Option Text
first_of None other = other
first_of (Some one) other = Some one

abbrev pub instead_of : Text → Option Text
instead_of name = first_of (instead_of_change name) (instead_of_reading name)

-- how a subcommand of the function alone is used, if it is one whose words can be refused
abbrev pub of_function : Text → Option Text
of_function word =
    if has word (codes "keyword" ∷ []) then Some (codes "usage: module keyword TEXT")
    else if has word (codes "reload" ∷ []) then Some (codes "usage: module reload")
    else if has word (codes "forget" ∷ []) then Some (codes "usage: module forget [--settings-stay] NAME...")
    else if has word (codes "is-avail" ∷ []) then Some (codes "usage: module is-avail NAME...")
    else if has word (codes "use" ∷ []) then Some (codes "usage: module use [-a] DIR...")
    else if has word (codes "unuse" ∷ []) then Some (codes "usage: module unuse DIR...")
    else if has word (codes "save" ∷ []) then Some (codes "usage: module save [COLLECTION]")
    else if has word (codes "restore" ∷ []) then Some (codes "usage: module restore [COLLECTION]")
    else if has word (codes "savelist" ∷ []) then Some (codes "usage: module savelist")
    else if has word (codes "saveshow" ∷ []) then Some (codes "usage: module saveshow [COLLECTION]")
    else if has word (codes "saverm" ∷ []) then Some (codes "usage: module saverm COLLECTION")
    else None

-- how a subcommand is used, if it is one whose words can be refused
abbrev pub usage_of : Text → Option Text
usage_of word =
    if has word (codes "load" ∷ codes "add" ∷ []) then Some (codes "usage: module load NAME...")
    else if has word (codes "unload" ∷ codes "rm" ∷ []) then Some (codes "usage: module unload NAME...")
    else if has word (codes "switch" ∷ codes "swap" ∷ []) then Some (codes "usage: module switch [OLD] NEW")
    else if has word (codes "purge" ∷ []) then Some (codes "usage: module purge")
    else if has word (codes "list" ∷ []) then Some (codes "usage: module list [-t] [TEXT...]")
    else if has word (codes "show" ∷ codes "display" ∷ []) then Some (codes "usage: module show NAME...")
    else if has word (codes "whatis" ∷ []) then Some (codes "usage: module whatis [NAME...]")
    else of_function word
