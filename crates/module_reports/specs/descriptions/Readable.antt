-- What `whatis` without names and `keyword` report where something can't be read (module(1)): what stands there is left
-- out, and named.
use Rattle.std.specs.Prelude.{◌≡◌, ◌≤◌, ◌++◌, ℕ, Bool, List, codes, flat_map, length, Option}
use Rattle.envvars.specs.Environment.{Environment}
use Rattle.envvars.specs.Texts.{Text}
use Rattle.filetree.specs.Agreement.{Files, Listings}
use Rattle.filetree.specs.hiding.Hidden.{AgreesWithout, AllFailed}
use Rattle.modulefile.specs.Reports.{line_of}
use Rattle.shelltext.specs.declared.shell.Shell.{Shell}
use Rattle.tclrules.specs.declared.limits.Limits.{Limits}
use Rattle.module_reports.specs.descriptions.Descriptions.{IsDescription}

-- the line of a path that can't be read
abbrev pub unreadable_line : Text → Text
unreadable_line path = line_of (path ++ codes ": not readable")

-- a description of what stands elsewhere than at these paths: behind the modules that are left out each path has a line
pub record DescribesWithout (paths : List Text) (agrees : Files → Listings → Type 0) (limits : Limits) (shell : Shell)
    (e : Environment) (sought : Option Text) (text left_out : Text) : Type 0 where
  pub left : Text
  pub described : IsDescription (AgreesWithout paths agrees) limits shell e sought text left
  pub leaves_out : left_out ≡ left ++ flat_map unreadable_line paths

-- The same with some paths at which the device has failed, no more than it has failed: none, where it never did.
abbrev pub IsReadableDescription : (Files → Listings → Type 0) → (Text → Bool) → ℕ → Limits → Shell → Environment
    → Option Text → Text → Text → Type 0
IsReadableDescription agrees has_failed failures limits shell e sought text left_out =
    (unreadable : List Text) × AllFailed has_failed unreadable × (length unreadable ≤ failures)
    × DescribesWithout unreadable agrees limits shell e sought text left_out
