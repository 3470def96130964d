-- What follows from what the process is given: the paths of what a site has (module(1), FILES), and by which name the
-- working directory goes (POSIX XCU, pwd -L).
use Rattle.std.specs.Prelude.{Bool, not, ◌==◌, ◌&&◌, ◌||◌, List, ◌∷◌, ◌++◌, bytes_eq, codes, length, nat_eq, take}
use Rattle.std.specs.Prelude.{◌≡◌, ◌-◌, ℕ, true, false, if◌then◌else◌, Option, Some, None, IsSome, string_bytes}
use Rattle.std.specs.Option.{option_map}
use Rattle.std.specs.List.{ends_with, list_any, slice_split, starts_with}
use Rattle.message.specs.Messages.{Text}
use Rattle.envvars.specs.Environment.{Environment, lookup}
use Rattle.envvars.specs.EnvironmentBlock.{utf8_value}
use Rattle.module_words.specs.declared.protocol.place.Streams.{Streams}
use Rattle.module_subcommands.specs.declared.site.Site.{Site}

-- where the program stands below a site's folder
abbrev pub program_place : Text
program_place = codes "/libexec/module"

-- the text without so many bytes at its end
abbrev pub without_end : Text → Text → Text
without_end text end = take (length text - length end) text

-- The path of something that the site has, if the program was called by its place there.
abbrev pub site_path : Option Text → Text → Option Text
site_path None place = None
site_path (Some path) place =
    if ends_with nat_eq path program_place then Some (without_end path program_place ++ (47 ∷ place)) else None

-- a part of a path that names a folder by its place: `.` and `..`
abbrev pub is_point : Text → Bool
is_point part = bytes_eq part (codes ".") || bytes_eq part (codes "..")

abbrev pub have_point : List Text → Bool
have_point parts = list_any is_point parts

-- an absolute path without such parts
abbrev pub is_plain_path : Text → Bool
is_plain_path path = starts_with nat_eq path (codes "/") && not (have_point (slice_split (λ b. b == 47) path))

-- the shell's name for the working directory, if it leads there and is such a path, else the system's
abbrev pub name_of_directory : Option Text → Bool → Text → Text
name_of_directory None is_there system = system
name_of_directory (Some named) is_there system = if is_there && is_plain_path named then named else system

-- The working directory, if the system knows one.
abbrev pub working_directory : Option Text → Bool → Option Text → Option Text
working_directory named is_there None = None
working_directory named is_there (Some system) = Some (name_of_directory named is_there system)

-- What a process is given: the path that it was called by, where that is a text. A PWD that is the directory's own name
-- leads there, and one that isn't set doesn't. A MODULEPATH that the environment has is a text.
pub record IsSiteOf (path : Text) (which : Streams) (process : ℕ) (env : Environment) (site : Site) : Type 0 where
  pub called : option_map string_bytes site.called_as ≡ utf8_value path
  pub streams : site.streams ≡ which
  pub number : site.number ≡ process
  pub unset : lookup env (codes "PWD") ≡ None → site.is_at_pwd ≡ false
  pub named : IsSome (lookup env (codes "PWD")) → lookup env (codes "PWD") ≡ option_map string_bytes site.directory
      → site.is_at_pwd ≡ true
  pub set : IsSome (lookup env (codes "MODULEPATH")) → site.has_text_modulepath ≡ true
