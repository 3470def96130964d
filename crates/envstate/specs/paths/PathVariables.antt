-- Path variables of an environment, and their edits (modulefile(5): prepend-path, append-path, remove-path).
use Rattle.std.specs.Prelude.{ℕ, Bool, not, ◌&&◌, ◌||◌, ◌==◌, List, nat_le, Option, Some, None, Result, Ok, Err}
use Rattle.std.specs.Prelude.{if◌then◌else◌}
use Rattle.std.specs.List.{list_all}
use Rattle.std.specs.Option.{option_or}
use Rattle.envvars.specs.Texts.{Text}
use Rattle.envvars.specs.Names.{share_name, name_reason}
use Rattle.envvars.specs.Environment.{Environment, lookup, with_value}
use Rattle.envvars.specs.Reasons.{EnvReason, bad_value, counter_full, unless}
use Rattle.envstate.specs.paths.Paths.{PathState, largest_counter, add_all, drop_all}
use Rattle.envstate.specs.paths.PathTexts.{is_delimiter, state_of, elements_text, counters_as_text}
use Rattle.envstate.specs.declared.paths.adding.End.{End}

-- the state of a path variable with this delimiter, read from the variable and that of its counters
abbrev pub path_in : Environment → Text → ℕ → PathState
path_in e name delim = state_of delim (lookup e name) (lookup e (share_name name))

-- the environment with this state written to both variables
abbrev pub with_path : Environment → Text → ℕ → PathState → Environment
with_path e name delim s =
    with_value (with_value e name (elements_text delim s.elements)) (share_name name) (counters_as_text s)

-- an element that a path variable can hold: one without the delimiter and without NUL
abbrev pub is_element : ℕ → Text → Bool
is_element delim x = list_all (λ b. not (b == delim || b == 0)) x

-- the error where the delimiter or an element isn't allowed, none where they are
abbrev pub value_reason : Text → ℕ → List Text → Option EnvReason
value_reason name delim xs =
    if is_delimiter delim && list_all (is_element delim) xs then None else Some (bad_value name)

-- the error for the variable's name, else the one for the delimiter and the elements
abbrev pub path_reason : Text → ℕ → List Text → Option EnvReason
path_reason name delim xs = option_or (name_reason name) (value_reason name delim xs)

-- no counter of the state is past the largest
abbrev pub counters_fit : PathState → Bool
counters_fit s = list_all (λ x. nat_le (s.counter x) largest_counter) s.elements

-- the environment with the state written, or the error that a counter is past the largest
abbrev pub written_path : Environment → Text → ℕ → PathState → Result Environment EnvReason
written_path e name delim s = if counters_fit s then Ok (with_path e name delim s) else Err (counter_full name)

-- the environment after elements are added at an end of a path variable, or the error
abbrev pub added_path : Environment → Text → ℕ → List Text → End → Result Environment EnvReason
added_path e name delim xs end =
    unless (path_reason name delim xs) (written_path e name delim (add_all (path_in e name delim) xs end))

-- the environment after elements are dropped from a path variable, or the error
abbrev pub dropped_path : Environment → Text → ℕ → List Text → Result Environment EnvReason
dropped_path e name delim xs =
    unless (path_reason name delim xs) (Ok (with_path e name delim (drop_all (path_in e name delim) xs)))
