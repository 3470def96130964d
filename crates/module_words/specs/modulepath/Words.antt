-- The directories that the words of `use` and `unuse` name (module(1)).
use Rattle.std.specs.Prelude.{List, [], ◌∷◌, ◌==◌, bytes_eq, if◌then◌else◌, Option, Result, Ok, Err}
use Rattle.std.specs.List.{list_any}
use Rattle.std.specs.Option.{ok_or}
use Rattle.envvars.specs.Texts.{Text}
use Rattle.envvars.specs.Fields.{colon}
use Rattle.process.specs.AbsolutePaths.{absolute_path}
use Rattle.module_words.specs.modulepath.Faults.{PathReason, no_name, no_working_directory, has_colon}

-- the absolute path that a word names
abbrev pub named : Option Text → Text → Result Text PathReason
named working word =
    if bytes_eq word [] then Err no_name else ok_or (absolute_path working word) (no_working_directory word)

-- the path, if MODULEPATH can hold it
abbrev pub held : Result Text PathReason → Result Text PathReason
held (Err reason) = Err reason
held (Ok path) = if list_any (λ b. b == colon) path then Err (has_colon path) else Ok path

-- the absolute path that a word of `use` names, which MODULEPATH can hold
abbrev pub holdable : Option Text → Text → Result Text PathReason
holdable working word = held (named working word)

-- a path before others
abbrev pub before : Result Text PathReason → Result (List Text) PathReason → Result (List Text) PathReason
before (Err reason) others = Err reason
before (Ok path) (Err reason) = Err reason
before (Ok path) (Ok paths) = Ok (path ∷ paths)

-- the paths of all words, or the reason of the first that has one
abbrev pub each : (Text → Result Text PathReason) → List Text → Result (List Text) PathReason
each path_of_word [] = Ok []
each path_of_word (word ∷ words) = before (path_of_word word) (each path_of_word words)
