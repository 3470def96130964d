-- Files in the places of modules that are no modulefiles, since they don't begin with the cookie (own).
use Rattle.std.specs.Prelude.{◌≡◌, ◌↔◌, true, List}
use Rattle.std.specs.Cmp.Lexicographic.{slice_cmp}
use Rattle.std.specs.Ordering.{nat_cmp}
use Rattle.std.specs.List.Sorted.{IsStrictlySortedBy}
use Rattle.modulename.specs.ModuleName.{Text, parts, is_module_name}
use Rattle.filetree.specs.Agreement.{Files, Listings}
use Rattle.filetree.specs.Modulefiles.{modulefile, no_cookie, path_of}
use Rattle.search.specs.BelowFolder.{ReachesThrough}
use Rattle.audit_certificate.specs.RecordUses.{IsAmong}

-- A file without the cookie is at this path, in the place of a module: folders lead to it from the directory by the parts
-- of a well-spelled name.
pub record IsNoModulefile (files : Files) (listings : Listings) (dir path : Text) : Type 0 where
  pub name : Text
  pub spelled : is_module_name name ≡ true
  pub reaches : ReachesThrough listings dir (parts name)
  pub below : path ≡ path_of dir name
  pub content : modulefile (files path) ≡ no_cookie

-- The paths of all such files below these directories, each once, in the order of their bytes.
pub record AreNoModulefiles (files : Files) (listings : Listings) (dirs paths : List Text) : Type 0 where
  pub order : IsStrictlySortedBy (slice_cmp nat_cmp) paths
  pub exact : (path : Text) → IsAmong path paths
      ↔ ((dir : Text) × IsAmong dir dirs × IsNoModulefile files listings dir path)
