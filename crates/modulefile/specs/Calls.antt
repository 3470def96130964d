-- The commands of modulefiles by their words, as modulefile(5) shows their forms. What a command means is a function of
-- its words alone.
use Rattle.std.specs.Prelude.{ℕ, ◌||◌, List, [], ◌∷◌, ◌++◌, codes, map, find, flat_map, bytes_eq, if◌then◌else◌}
use Rattle.std.specs.Prelude.{Option, Some, None, Result, Ok, Err}
use Rattle.std.specs.List.{join_with_byte}
use Rattle.tcltext.specs.chars.Runs.{begins}
use Rattle.tclvalue.specs.Indexes.{after_prefix}
use Rattle.envvars.specs.Texts.{Text}
use Rattle.envvars.specs.Fields.{colon}
use Rattle.envstate.specs.paths.PathTexts.{is_delimiter, split_elements}
use Rattle.modulefile.specs.Records.{Record, Set, Unset, Push, Path, Conflict, Prereq, Whatis}
use Rattle.modulefile.specs.declared.records.PathEdit.{PathEdit}
use Rattle.modulefile.specs.declared.records.PathEdit.TheVariants.{Front, Back, Remove}
use Rattle.modulefile.specs.Judgments.{RecordReason}
use Rattle.modulefile.specs.Results.{◌>>=◌}

-- what `module-info` answers, or tests by a further word
pub data InfoField : Type 0 where
  mode : InfoField
  shell : InfoField
  shell_type : InfoField

-- a command of a modulefile
pub data Call : Type 0 where
  -- a command that leaves a record
  adds_record : Record → Call
  -- `puts stderr`, with the newline unless `-nonewline` is there
  adds_message : (message : Text) → Call
  -- `getenv VAR ?default?`
  getenv : (var : Text) (default : Text) → Call
  -- `is-loaded ?NAME...?`
  is_loaded : (names : List Text) → Call
  -- `module-info name`, `module-info specified`
  own_name : Call
  typed_name : Call
  -- `module-info FIELD`, and `module-info FIELD WORD`
  info : InfoField → Call
  info_test : InfoField → (word : Text) → Call

-- Why a command isn't done: no such command is known; it, or this part of it, is unsupported on purpose; its words
-- don't fit it; or its record has no effect.
pub data CallReason : Type 0 where
  unknown : CallReason
  unsupported : (name : Text) → CallReason
  bad_arguments : CallReason
  bad_record : RecordReason → CallReason

-- a command of these words, or why it isn't one
abbrev pub CallForm : Type 0
CallForm = Result Call CallReason

-- No options are known here: a first word that begins with `-` would be one.
abbrev pub no_option : List Text → Result (List Text) CallReason
no_option [] = Ok []
no_option (word ∷ words) = if begins 45 word then Err bad_arguments else Ok (word ∷ words)

-- the form of words of which the first is no option
abbrev pub without_option : (List Text → CallForm) → List Text → CallForm
without_option form words = no_option words >>= form

-- `VAR value`
abbrev pub var_and_value : (Text → Text → Record) → List Text → CallForm
var_and_value make (var ∷ value ∷ []) = Ok (adds_record (make var value))
var_and_value make words = Err bad_arguments

-- `VAR ?value?`
abbrev pub var_and_optional : List Text → CallForm
var_and_optional (var ∷ []) = Ok (adds_record (Unset var None))
var_and_optional (var ∷ value ∷ []) = Ok (adds_record (Unset var (Some value)))
var_and_optional words = Err bad_arguments

-- the delimiter that a text is, one character from the space to the tilde, and the words after it
abbrev pub with_delimiter : Text → List Text → Result (ℕ × List Text) CallReason
with_delimiter (c ∷ []) words = if is_delimiter c then Ok (c, words) else Err bad_arguments
with_delimiter text words = Err bad_arguments

-- the delimiter of an option, which is the next word or stands in the same one
abbrev pub by_next_word : List Text → Result (ℕ × List Text) CallReason
by_next_word [] = Err bad_arguments
by_next_word (text ∷ words) = with_delimiter text words

abbrev pub by_same_word : Option Text → List Text → Result (ℕ × List Text) CallReason
by_same_word None words = Err bad_arguments
by_same_word (Some text) words = with_delimiter text words

-- `-d C`, `--delim C` or `--delim=C`: no other option is known
abbrev pub by_option : Text → List Text → Result (ℕ × List Text) CallReason
by_option option words =
    if bytes_eq option (codes "-d") || bytes_eq option (codes "--delim") then by_next_word words
    else by_same_word (after_prefix (codes "--delim=") option) words

-- The delimiter, and the words from VAR on, which are no options. Without an option it is the colon.
abbrev pub delimited : List Text → Result (ℕ × List Text) CallReason
delimited [] = Err bad_arguments
delimited (word ∷ words) = if begins 45 word then by_option word words else Ok (colon, word ∷ words)

-- the elements of values, which are cut at the delimiter: an empty value is one empty element
abbrev pub elements_of : ℕ → List Text → List Text
elements_of delim values = flat_map (split_elements delim) values

-- `VAR value...`
abbrev pub var_and_values : PathEdit → ℕ × List Text → CallForm
var_and_values edit (delim, var ∷ value ∷ values) = Ok (adds_record
    (Path edit delim var (elements_of delim (value ∷ values))))
var_and_values edit (delim, words) = Err bad_arguments

-- the words of a path command
abbrev pub path_form : PathEdit → List Text → CallForm
path_form edit words = delimited words >>= var_and_values edit

-- at least one word
abbrev pub some_words : (List Text → Record) → List Text → CallForm
some_words make [] = Err bad_arguments
some_words make (word ∷ words) = Ok (adds_record (make (word ∷ words)))

-- `getenv VAR ?default?`: without a default an unset variable has the empty text
abbrev pub getenv_form : List Text → CallForm
getenv_form (var ∷ []) = Ok (getenv var [])
getenv_form (var ∷ default ∷ []) = Ok (getenv var default)
getenv_form words = Err bad_arguments

-- `is-loaded ?NAME...?`
abbrev pub is_loaded_form : List Text → CallForm
is_loaded_form names = Ok (is_loaded names)

-- `puts`: the evaluator hands on a channel and a text, or `-nonewline` before these
abbrev pub puts_form : List Text → CallForm
puts_form (channel ∷ text ∷ []) = Ok (adds_message (text ++ 10 ∷ []))
puts_form (option ∷ channel ∷ text ∷ []) = Ok (adds_message text)
puts_form words = Err bad_arguments

-- no further word
abbrev pub alone : Call → List Text → CallForm
alone call [] = Ok call
alone call (word ∷ words) = Err bad_arguments

-- at most one further word
abbrev pub field_form : InfoField → List Text → CallForm
field_form field [] = Ok (info field)
field_form field (word ∷ []) = Ok (info_test field word)
field_form field (word ∷ other ∷ others) = Err bad_arguments

-- `module-info`: with any other first word it is unsupported
abbrev pub info_form : List Text → CallForm
info_form [] = Err bad_arguments
info_form (field ∷ words) =
    if bytes_eq field (codes "mode") then field_form mode words
    else if bytes_eq field (codes "name") then alone own_name words
    else if bytes_eq field (codes "specified") then alone typed_name words
    else if bytes_eq field (codes "shell") then field_form shell words
    else if bytes_eq field (codes "shelltype") then field_form shell_type words
    else Err (unsupported (codes "module-info " ++ field))

-- the words of a description, joined by spaces
abbrev pub description : List Text → Record
description words = Whatis (join_with_byte 32 words)

-- a command that no modulefile has, only a default file
abbrev pub of_default_files : List Text → CallForm
of_default_files words = Err unknown

-- a command that is unsupported
abbrev pub unsupported_form : Text → List Text → CallForm
unsupported_form name words = Err (unsupported name)

-- the commands that are unsupported
unfoldable pub unsupported_commands : List Text
unsupported_commands =
    codes "module" ∷ codes "depends-on" ∷ codes "set-alias" ∷ codes "set-function" ∷ codes "system" ∷ codes "uname" ∷
    codes "source-sh" ∷ codes "x-resource" ∷ codes "chdir" ∷ codes "family" ∷ codes "complete" ∷ codes "module-alias" ∷
    codes "module-virtual" ∷ codes "module-tag" ∷ codes "module-hide" ∷ codes "module-forbid" ∷ codes "prereq-all" ∷
    codes "prereq-any" ∷ codes "module-help" ∷ codes "is-avail" ∷ codes "is-saved" ∷ codes "is-used" ∷
    codes "unset-alias" ∷ codes "unset-function" ∷ codes "uncomplete" ∷ codes "variant" ∷ codes "getvariant" ∷
    codes "versioncmp" ∷ []

-- a command: its name, and the form of the words after it
abbrev pub Command : Type 0
Command = Text × (List Text → CallForm)

-- The commands of modulefiles and of default files (modulefile(5)). Of Tcl's own it has `puts`, which the evaluator
-- hands on.
unfoldable pub commands : List Command
commands =
    (codes "setenv", without_option (var_and_value Set))
    ∷ (codes "unsetenv", without_option var_and_optional)
    ∷ (codes "pushenv", without_option (var_and_value Push))
    ∷ (codes "prepend-path", path_form Front)
    ∷ (codes "append-path", path_form Back)
    ∷ (codes "remove-path", path_form Remove)
    ∷ (codes "conflict", without_option (some_words Conflict))
    ∷ (codes "prereq", without_option (some_words Prereq))
    ∷ (codes "module-whatis", some_words description)
    ∷ (codes "getenv", without_option getenv_form)
    ∷ (codes "is-loaded", without_option is_loaded_form)
    ∷ (codes "module-info", info_form)
    ∷ (codes "puts", puts_form)
    ∷ (codes "module-version", of_default_files)
    ∷ map (λ name. (name, unsupported_form name)) unsupported_commands

-- No procedure of a modulefile or a default file may have one of these names.
abbrev pub command_names : List Text
command_names = map (λ command. command.0) commands

-- the command of this name
abbrev pub command_named : Text → Option Command
command_named name = find (λ command. bytes_eq name command.0) commands

-- these words, after the name of this command
abbrev pub called : Option Command → List Text → CallForm
called None words = Err unknown
called (Some command) words = command.1 words

-- The command that these words call.
unfoldable pub call_of : List Text → CallForm
call_of [] = Err unknown
call_of (name ∷ words) = called (command_named name) words
