-- Default files that name no version in their folder (own), so that they have no effect.
use Rattle.std.specs.Prelude.{◌≡◌, ◌⊎◌, ◌↔◌, if◌then◌else◌, codes, IsSome, Option, Some, None, Result, Ok, Err}
use Rattle.modulename.specs.ModuleName.{Text}
use Rattle.tclrules.specs.declared.limits.Limits.{Limits}
use Rattle.filetree.specs.Agreement.{Files, Listings}
use Rattle.filetree.specs.Modulefiles.{is_module, modulefile, path_of}
use Rattle.lookup.specs.DefaultFileResults.{HasResult}
use Rattle.search.specs.Found.{NamedDefault, default_file}
use Rattle.search.specs.Looked.{LooksForNamed}
use Rattle.search.specs.Reasons.{FindReason}

-- the path of a default file of a folder, where a file with the cookie is there
abbrev pub default_file_there : Files → Text → Text → Text → Option Text
default_file_there files dir name file =
    if is_module (modulefile (files (default_file dir name file))) then Some (default_file dir name file) else None

-- this path, or else that one
abbrev pub or_else : Option Text → Option Text → Option Text
or_else (Some path) other = Some path
or_else None other = other

-- the path of the first default file of a folder that is there
abbrev pub first_default_file : Files → Text → Text → Option Text
first_default_file files dir name =
    or_else (default_file_there files dir name (codes ".modulerc")) (default_file_there files dir name (codes ".version"))

-- the same where the default files of the folder name nothing
abbrev pub where_nothing : Result (Option Text) FindReason → Files → Text → Text → Option Text
where_nothing (Ok None) files dir name = first_default_file files dir name
where_nothing (Ok (Some version)) files dir name = None
where_nothing (Err reason) files dir name = None

-- The folder of this name below the directory is there, none of its default files names a version in it, or has a fault,
-- and this is the path of the first that is there.
pub record NamesNoVersion (limits : Limits) (files : Files) (listings : Listings) (dir name path : Text) : Type 0 where
  pub folder : IsSome (listings (path_of dir name))
  pub nothing : NamedDefault (HasResult limits) files listings dir name (Ok None)
  pub first : first_default_file files dir name ≡ Some path

-- this is that path, or there is none
abbrev pub IsAnswer : Limits → Files → Listings → Text → Text → Option Text → Type 0
IsAnswer limits files listings dir name answer =
    (path : Text) → (answer ≡ Some path) ↔ NamesNoVersion limits files listings dir name path

-- the path of a default file of the folder
abbrev pub LooksAtDefaultFiles : Text → Text → Text → Type 0
LooksAtDefaultFiles dir name at =
    (at ≡ default_file dir name (codes ".modulerc")) ⊎ (at ≡ default_file dir name (codes ".version"))

-- the paths that are looked at for it: that of the folder, those of its default files and of the version that these name
abbrev pub VersionsLookAt : Limits → Files → Listings → Text → Text → Text → Type 0
VersionsLookAt limits files listings dir name at =
    (at ≡ path_of dir name)
    ⊎ (LooksForNamed (HasResult limits) files listings dir name at ⊎ LooksAtDefaultFiles dir name at)
