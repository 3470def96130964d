-- Where an audit of a site looks (own): the paths of the files and directories that it reads or lists on its way. No
-- failure of the device at another path can end it.
use Rattle.std.specs.Prelude.{◌⊎◌, []}
use Rattle.envvars.specs.Texts.{Text}
use Rattle.search.specs.Looked.{HasSelected}
use Rattle.audit_laws.specs.site.Sites.{Site, IsDirectory}
use Rattle.audit_site.specs.Folders.{SearchLooksAt}
use Rattle.audit_site.specs.WalkLooked.{WalkLooksAt}
pub use Rattle.audit_site.specs.WalkLooked.{is_failure}

-- the search for a folder of a directory of the site, in which a module stands, looks at this path, or that for the
-- version that its default files name
pub record FolderLooksAt (site : Site) (at : Text) : Type 0 where
  pub dir : Text
  pub folder : Text
  pub directory : IsDirectory site dir
  pub module_there : HasSelected site.files site.listings [] dir folder
  pub searched : SearchLooksAt site.limits site.files site.listings (dir, folder) at

-- An audit of the site looks at this path: the walk does, or the search for a folder or its default version, by which a
-- bad default file is found.
abbrev pub AuditLooksAt : Site → Text → Type 0
AuditLooksAt site at = WalkLooksAt site at ⊎ FolderLooksAt site at
