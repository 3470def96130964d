-- What a command line asks for (module(1), Sub-commands).
use Rattle.std.specs.Prelude.{Bool, ◌||◌, List, [], ◌∷◌, codes, if◌then◌else◌, bytes_eq, Option, Some, None, Result, Ok}
use Rattle.std.specs.Prelude.{Err}
use Rattle.envvars.specs.Texts.{Text}
use Rattle.shelltext.specs.declared.shell.Shell.{Shell}
use Rattle.requests.specs.Reasons.{RequestReason, bad_arguments, unknown_subcommand}

-- What is asked for: with the names of modules, or the texts, as they were typed.
pub data RequestedAction : Type 0 where
  load : (names : List Text) → RequestedAction
  unload : (names : List Text) → RequestedAction
  switch : (old : Option Text) (new : Text) → RequestedAction
  purge : RequestedAction
  list : RequestedAction
  avail : (texts : List Text) → RequestedAction
  show : (names : List Text) → RequestedAction
  whatis : (names : List Text) → RequestedAction

-- the shell that reads what is printed, and what is asked for
abbrev pub Request : Type 0
Request = Shell × RequestedAction

-- at least one name
abbrev pub some_names : RequestedAction → List Text → Result RequestedAction RequestReason
some_names action [] = Err bad_arguments
some_names action (name ∷ names) = Ok action

-- `switch [OLD] NEW`
abbrev pub switch_of : List Text → Result RequestedAction RequestReason
switch_of (new ∷ []) = Ok (switch None new)
switch_of (old ∷ new ∷ []) = Ok (switch (Some old) new)
switch_of names = Err bad_arguments

-- no name
abbrev pub no_names : RequestedAction → List Text → Result RequestedAction RequestReason
no_names action [] = Ok action
no_names action (name ∷ names) = Err bad_arguments

-- the word, or its other spelling
abbrev pub is_word : Text → Text → Text → Bool
is_word one other word = bytes_eq word one || bytes_eq word other

-- The request that these words make, from the subcommand on.
abbrev pub request_of : List Text → Result RequestedAction RequestReason
request_of [] = Err bad_arguments
request_of (word ∷ names) =
    if is_word (codes "load") (codes "add") word then some_names (load names) names
    else if is_word (codes "unload") (codes "rm") word then some_names (unload names) names
    else if is_word (codes "switch") (codes "swap") word then switch_of names
    else if bytes_eq word (codes "purge") then no_names purge names
    else if bytes_eq word (codes "list") then no_names list names
    else if bytes_eq word (codes "avail") then Ok (avail names)
    else if is_word (codes "show") (codes "display") word then some_names (show names) names
    else if bytes_eq word (codes "whatis") then some_names (whatis names) names
    else Err (unknown_subcommand word)
