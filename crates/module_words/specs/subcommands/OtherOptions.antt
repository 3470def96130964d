-- The options that a subcommand doesn't have here, but Environment Modules (module(1)) or Lmod has, or another subcommand,
-- with what is said of them (own).
use Rattle.std.specs.Prelude.{Bool, List, [], ◌∷◌, codes, bytes_eq, find, Option, Some, None}
use Rattle.message.specs.Messages.{Text}

-- an option, and what is said of it
abbrev pub OtherRow : Type 0
OtherRow = Text × Text

-- all rows
unfoldable pub other_options : List OtherRow
other_options =
    (codes "--force", codes "Nothing is forced here: \"module forget NAME\" is for a module whose file is gone.")
    ∷ (codes "-f", codes "Nothing is forced here: \"module forget NAME\" is for a module whose file is gone.")
    ∷ (codes "--silent", codes "Here: MODULECMD_EXPLAIN=no in the environment leaves out what explains a refusal.")
    ∷ (codes "-s", codes "Here: MODULECMD_EXPLAIN=no in the environment leaves out what explains a refusal.")
    ∷ (codes "--quiet", codes "Here: MODULECMD_EXPLAIN=no in the environment leaves out what explains a refusal.")
    ∷ (codes "-q", codes "Here: MODULECMD_EXPLAIN=no in the environment leaves out what explains a refusal.")
    ∷ (codes "--verbose", codes "Here: \"module show NAME\" says what a module does.")
    ∷ (codes "-v", codes "Here: \"module show NAME\" says what a module does.")
    ∷ (codes "--debug", codes "Here: \"module show NAME\" says what a module does.")
    ∷ (codes "-D", codes "Here: \"module show NAME\" says what a module does.")
    ∷ (codes "--trace", codes "Here: \"module show NAME\" says what a module does.")
    ∷ (codes "-T", codes "Here: \"module show NAME\" says what a module does.")
    ∷ (codes "--long", codes "This isn't done here: \"module -t avail\" and \"module -t list\" have one name a line.")
    ∷ (codes "-l", codes "This isn't done here: \"module -t avail\" and \"module -t list\" have one name a line.")
    ∷ (codes "--json", codes "This isn't done here: \"module -t avail\" and \"module -t list\" have one name a line.")
    ∷ (codes "-j", codes "This isn't done here: \"module -t avail\" and \"module -t list\" have one name a line.")
    ∷ (codes "--output", codes "This isn't done here: \"module -t avail\" and \"module -t list\" have one name a line.")
    ∷ (codes "-o", codes "This isn't done here: \"module -t avail\" and \"module -t list\" have one name a line.")
    ∷ (codes "--all", codes "This isn't done here: no module is hidden.")
    ∷ (codes "-a", codes "Here it is an option of \"module use\", and no module is hidden.")
    ∷ (codes "--show_hidden", codes "This isn't done here: no module is hidden.")
    ∷ (codes "--regexp", codes "Here: \"module avail -C TEXT\" for names that have the text.")
    ∷ (codes "-r", codes "Here: \"module avail -C TEXT\" for names that have the text.")
    ∷ (codes "--starts-with", codes "Here: \"module avail TEXT\".")
    ∷ (codes "-S", codes "Here: \"module avail TEXT\".")
    ∷ (codes "--pager", codes "Here: PAGER=cat in the environment pages nothing.")
    ∷ (codes "--no-pager", codes "Here: PAGER=cat in the environment pages nothing.")
    ∷ (codes "--width", codes "This isn't done here: columns fill the terminal.")
    ∷ (codes "-w", codes "This isn't done here: columns fill the terminal.")
    ∷ (codes "--auto", codes "Here: \"module load --auto NAME\" and \"module unload --auto NAME\".")
    ∷ (codes "--no-auto", codes "Here: MODULES_AUTO_HANDLING=0 in the environment.")
    ∷ (codes "--contains", codes "Here it is an option of \"module avail\".")
    ∷ (codes "-C", codes "Here it is an option of \"module avail\".")
    ∷ (codes "--icase", codes "Here it is an option of \"module avail\".")
    ∷ (codes "-i", codes "Here it is an option of \"module avail\".")
    ∷ (codes "--default", codes "Here it is an option of \"module avail\".")
    ∷ (codes "-d", codes "Here it is an option of \"module avail\".")
    ∷ (codes "--latest", codes "Here it is an option of \"module avail\".")
    ∷ (codes "-L", codes "Here it is an option of \"module avail\".")
    ∷ (codes "--terse", codes "Here it is an option of \"module avail\" and \"module list\".")
    ∷ (codes "-t", codes "Here it is an option of \"module avail\" and \"module list\".")
    ∷ (codes "--help", codes "Here: \"module help\", and \"module help NAME\" for a module.")
    ∷ (codes "-h", codes "Here: \"module help\", and \"module help NAME\" for a module.")
    ∷ []

-- the word is the option
abbrev pub is_other_name : Text → OtherRow → Bool
is_other_name word row = bytes_eq word row.0

-- what is said by a row, or where the options are listed
abbrev pub said_by : Option OtherRow → Text
said_by (Some row) = row.1
said_by None = codes "\"module help\" lists the options."

-- What is said of an option that a subcommand doesn't have.
abbrev pub option_elsewhere : Text → Text
option_elsewhere word = said_by (find (is_other_name word) other_options)
