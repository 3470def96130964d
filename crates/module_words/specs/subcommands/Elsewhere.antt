-- What is said of subcommands that only Environment Modules (module(1)) or Lmod have (own).
use Rattle.std.specs.Prelude.{List, [], ◌∷◌, codes, if◌then◌else◌, Option, Some, None}
use Rattle.message.specs.Messages.{Text}
use Rattle.envvars.specs.Texts.{has}

-- those that change what a login loads
abbrev pub of_login : List Text
of_login =
    codes "initadd" ∷ codes "initprepend" ∷ codes "initlist" ∷ codes "initrm" ∷ codes "initswitch" ∷ codes "initclear"
    ∷ []

-- those that work on modulefiles or on the tool, and have no place here
abbrev pub of_files : List Text
of_files =
    codes "sh-to-mod" ∷ codes "mod-to-sh" ∷ codes "source" ∷ codes "edit" ∷ codes "config" ∷ codes "state"
    ∷ codes "cachebuild" ∷ codes "cacheclear" ∷ []

-- a sentence for a subcommand that says something about modules
abbrev pub instead_of_report : Text → Option Text
instead_of_report word =
    if has word (codes "spider" ∷ []) then Some
    (codes "Here: \"module keyword TEXT\" for names and descriptions, \"module avail -C TEXT\" for names.")
    else if has word (codes "overview" ∷ codes "aliases" ∷ []) then Some (codes "Here: \"module avail\".")
    else if has word (codes "path" ∷ codes "paths" ∷ []) then Some (codes "Here: \"module show NAME\".")
    else if has word (codes "describe" ∷ []) then Some (codes "Here: \"module saveshow\".")
    else if has word (codes "info-loaded" ∷ []) then Some (codes "Here: \"module is-loaded NAME\".")
    else None

-- for one that changes what is loaded, now or at the next login
abbrev pub instead_of_change : Text → Option Text
instead_of_change word =
    if has word (codes "try-load" ∷ []) then Some (codes "Here: \"module is-avail NAME && module load NAME\".")
    else if has word (codes "update" ∷ []) then Some (codes "Here: \"module reload\".")
    else if has word (codes "reset" ∷ []) then Some (codes "Here: \"module restore\", or a new login.")
    else if has word (codes "clear" ∷ []) then Some (codes "Here: \"module purge\".")
    else if has word of_login then Some (codes "Here: \"module save\", and \"module restore\" in a start-up file.")
    else None

-- for one that works on modulefiles or on the tool itself
abbrev pub instead_of_work : Text → Option Text
instead_of_work word =
    if has word (codes "lint" ∷ codes "test" ∷ []) then Some (codes "Here: the programs modcheck and modaudit.")
    else if has word of_files then Some (codes "This isn't done here.")
    else None

-- the first sentence that there is, or else where the subcommands are listed
abbrev pub first_sentence : List (Option Text) → Text
first_sentence [] = codes "\"module help\" lists the subcommands."
first_sentence (Some sentence ∷ more) = sentence
first_sentence (None ∷ more) = first_sentence more

-- what is said of a word that means no subcommand
abbrev pub elsewhere : Text → Text
elsewhere word = first_sentence (instead_of_report word ∷ instead_of_change word ∷ instead_of_work word ∷ [])
