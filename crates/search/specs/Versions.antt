-- The versions in the folder of a name, and the search among them from the greatest down. For the contracts of private
-- functions.
use Rattle.std.specs.Prelude.{◌≡◌, ◌⊎◌, Bool, false, ◌&&◌, List, [], ◌∷◌, Option, Some, None}
use Rattle.std.specs.Ordering.{is_lt}
use Rattle.modulename.specs.ModuleName.{Text, is_module_name}
use Rattle.modulename.specs.Versions.{version_order, IsGreatest}
use Rattle.filetree.specs.Agreement.{Files, Listings}
use Rattle.filetree.specs.Modulefiles.{modulefile, is_module, path_of}
use Rattle.search.specs.Single.{is_single}
use Rattle.search.specs.Candidates.{IsCandidate, HasCandidates}

-- an entry can be a version: it has one part, and with it the full name is well spelled
abbrev pub is_version : Text → Text → Bool
is_version name v = is_single v && is_module_name (path_of name v)

-- the file of a version of a name begins with the cookie
abbrev pub is_module_in : Files → Text → Text → Text → Bool
is_module_in files dir name v = is_module (modulefile (files (path_of dir (path_of name v))))

-- the first comes before the second where the greatest comes first
abbrev pub goes_before : Text → Text → Bool
goes_before v w = is_lt (version_order w v)

-- the greatest candidate, or none where there is no candidate
abbrev pub IsGreatestOf : Files → Listings → Text → Text → Option Text → Type 0
IsGreatestOf files listings dir name None = HasCandidates files listings dir name → ⊥
IsGreatestOf files listings dir name (Some v) = IsGreatest (IsCandidate files listings dir name) v

-- the paths of the files of versions, one after the other, up to the first that is a module
abbrev pub LooksFromGreatest : Files → Text → Text → List Text → Text → Type 0
LooksFromGreatest files dir name [] at = ⊥
LooksFromGreatest files dir name (v ∷ vs) at =
    (at ≡ path_of dir (path_of name v))
    ⊎ ((is_module_in files dir name v ≡ false) × LooksFromGreatest files dir name vs at)
