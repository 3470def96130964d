-- Where a walk over a site looks (own): the paths of the files and directories that it reads or lists on its way. No
-- failure of the device at another path can end it.
use Rattle.std.specs.Prelude.{Bool, false, []}
use Rattle.envvars.specs.Texts.{Text}
use Rattle.lookup.specs.DefaultFileResults.{HasResult}
use Rattle.search.specs.Looked.{LooksForListing}
use Rattle.modules.specs.Answers as steps
use Rattle.audit_laws.specs.site.Sites.{Site, IsDirectory}
use Rattle.audit_site.specs.declared.fault.WalkFault.{WalkFault}
use Rattle.audit_site.specs.declared.fault.WalkFault.TheVariants.{Refused, TooManyDirectories}

-- the paths that are looked at for one directory: those for its listing, among which are the files of its modules
abbrev pub DirectoryLooksAt : Site → Text → Text → Type 0
DirectoryLooksAt site dir at = LooksForListing (HasResult site.limits) site.files site.listings [] dir at

-- A walk over the site looks at this path: it is one of those for a directory of the site.
abbrev pub WalkLooksAt : Site → Text → Type 0
WalkLooksAt site at = (dir : Text) × IsDirectory site dir × DirectoryLooksAt site dir at

-- the fault is by 43
abbrev pub is_failure : WalkFault → Bool
is_failure (Refused refusal) = steps.is_failure refusal
is_failure TooManyDirectories = false
