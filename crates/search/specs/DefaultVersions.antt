-- The result of the evaluation of a default file, and the version that it names (modulefile(5)).
use Rattle.std.specs.Prelude.{List, [], ◌∷◌, ◌++◌, codes, bytes_eq, ◌==◌, if◌then◌else◌, Option, Some, None}
use Rattle.std.specs.Option.{option_or}
use Rattle.std.specs.List.{list_any}
use Rattle.modulename.specs.ModuleName.{Text, slash}

-- The result of the evaluation of a default file: its `module-version` commands in order, each as its words, and its
-- global variable ModulesVersion.
pub record DefaultFileResult : Type 0 where
  pub commands : List (List Text)
  pub version : Option Text

-- the rest of a text after this prefix, or none where the text doesn't begin with it
abbrev pub after_prefix : Text → Text → Option Text
after_prefix [] t = Some t
after_prefix (c ∷ cs) [] = None
after_prefix (c ∷ cs) (d ∷ ds) = if c == d then after_prefix cs ds else None

-- The version V of the folder of a name that is spelled `name/V`, `/V` or `./V`.
abbrev pub version_in : Text → Text → Option Text
version_in name spelled =
    option_or (after_prefix (name ++ slash ∷ []) spelled)
    (option_or (after_prefix (codes "/") spelled) (after_prefix (codes "./") spelled))

-- the version that a command makes the default: its words are `module-version`, the version, and symbolic versions of
-- which one is `default`
abbrev pub default_by : Text → List Text → Option Text
default_by name (command ∷ spelled ∷ words) =
    if list_any (bytes_eq (codes "default")) words then version_in name spelled else None
default_by name words = None

-- the last such command counts
abbrev pub last_default : Text → List (List Text) → Option Text
last_default name [] = None
last_default name (words ∷ more) = option_or (last_default name more) (default_by name words)

-- how the result of an evaluation names a version: in `.modulerc` by the commands, in `.version` by the variable
abbrev pub VersionIn : Type 0
VersionIn = DefaultFileResult → Option Text

-- `.modulerc`: by its `module-version` commands, for the folder of a name
abbrev pub by_command : Text → VersionIn
by_command name result = last_default name result.commands

-- `.version`: by its variable ModulesVersion
abbrev pub by_variable : VersionIn
by_variable result = result.version
