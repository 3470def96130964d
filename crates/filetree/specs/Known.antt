-- What is known of a path: what it says of the pairs of maps that agree, and of which answers of the system it is made.
-- For this crate's own contracts alone.
use Rattle.std.specs.Prelude.{◌≡◌, ◌⊎◌, refl, ℕ, Bool, true, false, not, List, Option, Some, None, Result, Ok, Err}
use Rattle.std.specs.Prelude.{string_bytes, vec_items}
use Rattle.std.specs.Io.Buffered.{reader_remaining}
use Rattle.filetree.specs.Agreement.{HaveSamePrefix}
use Rattle.filetree.specs.Names.{names_of, has_name}
use Rattle.filetree.specs.Prefixes.{prefix_bytes}
use Rattle.filetree.specs.Systems as systems
use Rattle.filetree.specs.Systems.{Answers, IsLooked, IsFileThere, IsBeginningThere, IsBegunThere, AreEntriesThere}
use Rattle.filetree.specs.Systems.{IsFault, IsHiddenAndAbsent, WasFile}
use Rattle.filetree.specs.declared.begun.OpenFile.{OpenFile}
use Rattle.filetree.specs.declared.known.KnownPath.{KnownPath}
use Rattle.filetree.specs.declared.known.KnownPath.TheVariants as known
use Rattle.filetree.specs.declared.look.PathKind.{PathKind}
use Rattle.filetree.specs.declared.look.PathKind.TheVariants as path_kinds
use Rattle.filetree.specs.declared.tree.TreeFault.{TreeFault}

-- the file at the path is as is known
abbrev pub FitsFile : KnownPath → Option (List ℕ) → Type 0
FitsFile known.Neither file = file ≡ None
FitsFile (known.File prefix) file = HaveSamePrefix prefix.size file (Some (prefix_bytes prefix))
FitsFile (known.WholeFile bytes) file = file ≡ Some (vec_items bytes)
FitsFile known.Directory file = file ≡ None
FitsFile (known.Listing names) file = file ≡ None

-- the directory at the path is as is known
abbrev pub FitsListing : KnownPath → Option (List (List ℕ)) → Type 0
FitsListing known.Neither listing = listing ≡ None
FitsListing (known.File prefix) listing = listing ≡ None
FitsListing (known.WholeFile bytes) listing = listing ≡ None
FitsListing known.Directory listing = Unit {0}
FitsListing (known.Listing names) listing = listing ≡ Some (names_of (string_bytes names.text))

-- what is at the path is as is known
abbrev pub Fits : KnownPath → Option (List ℕ) → Option (List (List ℕ)) → Type 0
Fits known file listing = FitsFile known file × FitsListing known listing

-- what fits the one fits the other too: the one says no less
abbrev pub SaysNoLess : KnownPath → KnownPath → Type 0
SaysNoLess later earlier = (file : Option (List ℕ)) (listing : Option (List (List ℕ))) → Fits later file listing
    → Fits earlier file listing

-- a file is there
abbrev pub has_file : KnownPath → Bool
has_file known.Neither = false
has_file (known.File prefix) = true
has_file (known.WholeFile bytes) = true
has_file known.Directory = false
has_file (known.Listing names) = false

-- a directory is there
abbrev pub has_directory : KnownPath → Bool
has_directory known.Neither = false
has_directory (known.File prefix) = false
has_directory (known.WholeFile bytes) = false
has_directory known.Directory = true
has_directory (known.Listing names) = true

-- a file is there of which only the first bytes are known
abbrev pub is_read_in_part : KnownPath → Bool
is_read_in_part known.Neither = false
is_read_in_part (known.File prefix) = true
is_read_in_part (known.WholeFile bytes) = false
is_read_in_part known.Directory = false
is_read_in_part (known.Listing names) = false

-- a directory is there whose names are not known
abbrev pub is_unlisted : KnownPath → Bool
is_unlisted known.Neither = false
is_unlisted (known.File prefix) = false
is_unlisted (known.WholeFile bytes) = false
is_unlisted known.Directory = true
is_unlisted (known.Listing names) = false

-- What is known is made of answers of the system about the path. What was read was shown to be a file before, since
-- opening a pipe or a device can wait without end.
abbrev pub IsAnswered : Answers → List ℕ → KnownPath → Type 0
IsAnswered Answered path known.Neither =
    ((kind : PathKind) × IsLooked Answered path (Ok kind) × (systems.is_file kind ≡ false)
    × (systems.is_directory kind ≡ false))
    ⊎ IsHiddenAndAbsent Answered path
IsAnswered Answered path (known.File prefix) = WasFile Answered path
    × IsBeginningThere Answered path prefix.size (prefix_bytes prefix)
IsAnswered Answered path (known.WholeFile bytes) = WasFile Answered path × IsFileThere Answered path (vec_items bytes)
IsAnswered Answered path known.Directory = IsLooked Answered path (Ok path_kinds.Directory)
IsAnswered Answered path (known.Listing names) = AreEntriesThere Answered path (string_bytes names.text)

-- A file that was begun is one that the system opened, less the bytes that were read of it.
abbrev pub IsBegun : {F : Type 0} → (F → Option (List ℕ)) → Answers → OpenFile F → Type 0
IsBegun remaining Answered begun =
    IsBegunThere Answered (string_bytes begun.path) (prefix_bytes begun.prefix) (reader_remaining remaining begun.rest)

-- What is loaded of a path is made of answers of the system about it: what is known, or the fault.
abbrev pub IsLoaded : Answers → List ℕ → Result KnownPath TreeFault → Type 0
IsLoaded Answered path (Ok known) = IsAnswered Answered path known
IsLoaded Answered path (Err fault) = IsFault Answered path fault

-- a directory was listed that has no such name
abbrev pub lacks : KnownPath → List ℕ → Bool
lacks known.Neither name = false
lacks (known.File prefix) name = false
lacks (known.WholeFile bytes) name = false
lacks known.Directory name = false
lacks (known.Listing names) name = not (has_name (string_bytes names.text) name)

-- a file that is as is known
abbrev pub file_of : KnownPath → Option (List ℕ)
file_of known.Neither = None
file_of (known.File prefix) = Some (prefix_bytes prefix)
file_of (known.WholeFile bytes) = Some (vec_items bytes)
file_of known.Directory = None
file_of (known.Listing names) = None

-- a directory that is as is known
abbrev pub listing_of : KnownPath → Option (List (List ℕ))
listing_of known.Neither = None
listing_of (known.File prefix) = None
listing_of (known.WholeFile bytes) = None
listing_of known.Directory = None
listing_of (known.Listing names) = Some (names_of (string_bytes names.text))

-- they fit what is known
pub fits : (k : KnownPath) → Fits k (file_of k) (listing_of k)
fits known.Neither = (refl, refl)
fits (known.File prefix) = ((λ begin short. refl), refl)
fits (known.WholeFile bytes) = (refl, refl)
fits known.Directory = (refl, tt)
fits (known.Listing names) = (refl, refl)
