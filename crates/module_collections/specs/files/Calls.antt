-- What calls of a system tell of the entries at paths, and what they do to them (POSIX XSH: lstat, readlink, read,
-- readdir, mkdir, open with O_EXCL, write, rename, unlink).
use Rattle.std.specs.Prelude.{◌≡◌, ◌⊎◌, [], ◌∷◌, ◌++◌, Bool, true, not, ◌&&◌, ◌||◌, bytes_eq, nat_eq, if◌then◌else◌}
use Rattle.std.specs.Prelude.{Result, Ok, Err}
use Rattle.std.specs.List.{starts_with}
use Rattle.envvars.specs.Texts.{Text}
use Rattle.module_collections.specs.files.Entries.{Entry, Entries, nothing, file, folder, link, other, slash}
use Rattle.module_collections.specs.declared.files.storage.StorageFault.{StorageFault}
use Rattle.module_collections.specs.declared.files.storage.CreationFault.{CreationFault}
use Rattle.module_collections.specs.declared.files.storage.CreationFault.TheVariants.{NotMade, Unfinished}

-- P holds of all entries that agree
abbrev pub InEach : (Entries → Type 0) → (Entries → Type 0) → Type 0
InEach agrees P = (entries : Entries) → agrees entries → P entries

-- A call that changes nothing: what agrees now agreed before.
abbrev pub Narrows : (Entries → Type 0) → (Entries → Type 0) → Type 0
Narrows before now = InEach now before

-- A call that changes something: what agrees now has come, by this change, from what agreed before.
abbrev pub Changes : (Entries → Type 0) → (Entries → Type 0) → (Entries → Entries → Type 0) → Type 0
Changes before now By = (new : Entries) → now new → (old : Entries) × before old × By old new

-- the entries with this one at this path
abbrev pub with_at : Entries → Text → Entry → Entries
with_at entries path entry p = if bytes_eq path p then entry else entries p

-- the same is at each path
abbrev pub AreSame : Entries → Entries → Type 0
AreSame old new = (p : Text) → new p ≡ old p

-- at this path is that now, and nothing else differs
abbrev pub Puts : Text → Entry → Entries → Entries → Type 0
Puts path entry old new = (p : Text) → new p ≡ with_at old path entry p

-- There is a new file where nothing was. Which bytes it has isn't known: where a disk is full, not every write fails.
pub record Makes (path : Text) (old new : Entries) : Type 0 where
  pub was : old path ≡ nothing
  pub bytes : Text
  pub puts : Puts path (file bytes) old new

-- what a call that makes a file has done: it has made one, also where it couldn't write it whole, or nothing
abbrev pub Creates : Text → Result (Unit {0}) CreationFault → Entries → Entries → Type 0
Creates path (Ok u) old new = Makes path old new
Creates path (Err NotMade) old new = AreSame old new
Creates path (Err Unfinished) old new = Makes path old new

-- a change that a call makes or, where it fails, doesn't
abbrev pub Does : Result (Unit {0}) StorageFault → (Entries → Entries → Type 0) → Entries → Entries → Type 0
Does (Ok u) By old new = By old new
Does (Err fault) By old new = AreSame old new

-- what was at the one path is at the other, in place of what was there
abbrev pub Moves : Text → Text → Entries → Entries → Type 0
Moves from to old new = (p : Text) → new p ≡ with_at (with_at old from nothing) to (old from) p

-- nothing is at the path any more
abbrev pub Clears : Text → Entries → Entries → Type 0
Clears path old new = Puts path nothing old new

-- A path is on the way to another one: it is this, or what stands before one of its slashes, unless that is empty.
abbrev pub is_on_way : Text → Text → Bool
is_on_way path p = not (bytes_eq p []) && (bytes_eq p path || starts_with nat_eq path (p ++ slash ∷ []))

-- a folder where nothing was
abbrev pub or_folder : Entry → Entry
or_folder nothing = folder
or_folder (file bytes) = file bytes
or_folder folder = folder
or_folder (link target) = link target
or_folder other = other

-- Folders are where nothing was, at the path and on the way to it, and nothing else differs.
abbrev pub AddsFolders : Text → Entries → Entries → Type 0
AddsFolders path old new = (p : Text) → new p ≡ (if is_on_way path p then or_folder (old p) else old p)

-- some of these folders are there, or none
abbrev pub AddsSome : Text → Entries → Entries → Type 0
AddsSome path old new = (p : Text) → (new p ≡ old p) ⊎ ((is_on_way path p ≡ true) × (new p ≡ or_folder (old p)))

-- what a call that makes a folder has done; one that fails has made some of those on the way, or none
abbrev pub MakesFolder : {F : Type 0} → Text → Result (Unit {0}) F → Entries → Entries → Type 0
MakesFolder path (Ok u) old new = AddsFolders path old new
MakesFolder path (Err fault) old new = AddsSome path old new
