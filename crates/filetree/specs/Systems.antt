-- What the system answers about a path, and what may be made of an answer (stat(2), open(2), readdir(3); POSIX errno).
-- For this crate's own contracts alone.
use Rattle.std.specs.Prelude.{◌≡◌, ◌⊎◌, ℕ, Bool, true, false, ◌==◌, if◌then◌else◌, List, [], ◌∷◌, ◌++◌, Option, IfSome}
use Rattle.std.specs.Prelude.{Result, Ok, Err, IsOkAnd, IfErr, take}
use Rattle.std.specs.List.{list_any}
use Rattle.std.specs.List.Sorted.{IsPermutation}
use Rattle.std.specs.Io.KnownBytes.{Consumes}
use Rattle.std.specs.Fs.{IsDir, IsFile, file_type}
use Rattle.std.specs.declared.fs.attrs.FileType.{FileType}
use Rattle.std.specs.declared.fs.attrs.Metadata.{Metadata}
use Rattle.std.specs.declared.io.Error.{Error}
use Rattle.std.specs.declared.io.ErrorKind.{ErrorKind}
use Rattle.std.specs.declared.io.ErrorKind.TheVariants as error_kinds
use Rattle.std.specs.IoError.{error_kind}
use Rattle.modulename.specs.ModuleName.{slash}
use Rattle.filetree.specs.Modulefiles.{path_of}
use Rattle.filetree.specs.Names.{entries_of, has_name, has_slash, is_hidden, names_of}
use Rattle.filetree.specs.declared.look.PathKind.{PathKind}
use Rattle.filetree.specs.declared.look.PathKind.TheVariants as path_kinds
use Rattle.filetree.specs.declared.tree.TreeFault.{TreeFault}
use Rattle.filetree.specs.declared.tree.TreeFault.TheVariants as faults

-- an answer: what is at the path; the file there, opened, by the bytes that it has, where these are known; the
-- directory there, opened, by the text of its names, each ended by a NUL, where this is known
pub data Answer : Type 0 where
  found : Result Metadata Error → Answer
  file : Result (Option (List ℕ)) Error → Answer
  directory : Result (Option (List ℕ)) Error → Answer

-- which answers a system gives at each path
abbrev pub Answers : Type 1
Answers = List ℕ → Answer → Type 0

-- an answer by what it shows
abbrev pub seen : {X Y : Type 0} → (X → Y) → Result X Error → Result Y Error
seen view (Ok x) = Ok (view x)
seen view (Err e) = Err e

-- A text with a NUL is no path (POSIX).
abbrev pub has_nul : List ℕ → Bool
has_nul path = list_any (λ b. b == 0) path

-- The path names nothing: no file has the name (ENOENT), or a component before the last is no directory (ENOTDIR).
abbrev pub is_absence : ErrorKind → Bool
is_absence error_kinds.NotFound = true
is_absence error_kinds.NotADirectory = true
is_absence _ = false

-- any other error but one of memory is the device's
abbrev pub fault_of_kind : ErrorKind → TreeFault
fault_of_kind error_kinds.OutOfMemory = faults.OutOfMemory
fault_of_kind _ = faults.Device

-- the fault that an error is
abbrev pub fault_of : Error → TreeFault
fault_of e = fault_of_kind (error_kind e)

-- something of this type is of this kind
abbrev pub IsKind : FileType → PathKind → Type 0
IsKind type path_kinds.Nothing = ⊥
IsKind type path_kinds.File = IsFile type
IsKind type path_kinds.Directory = IsDir type
IsKind type path_kinds.Other = (IsFile type → ⊥) × (IsDir type → ⊥)

-- What is at a path by the system's answer: something of the kind that the answer shows, nothing where the path names
-- nothing, else a fault.
abbrev pub ShowsKind : Result Metadata Error → Result PathKind TreeFault → Type 0
ShowsKind (Ok there) looked = IsOkAnd looked (IsKind (file_type there))
ShowsKind (Err e) looked = looked ≡ (if is_absence (error_kind e) then Ok path_kinds.Nothing else Err (fault_of e))

-- What is at a path by some answer of the system, which isn't asked about a text that is no path.
abbrev pub IsLooked : Answers → List ℕ → Result PathKind TreeFault → Type 0
IsLooked Answered path looked =
    ((has_nul path ≡ true) × (looked ≡ Ok path_kinds.Nothing))
    ⊎ ((has_nul path ≡ false) × ((answer : Result Metadata Error) × Answered path (found answer)
    × ShowsKind answer looked))

-- a regular file
abbrev pub is_file : PathKind → Bool
is_file path_kinds.Nothing = false
is_file path_kinds.File = true
is_file path_kinds.Directory = false
is_file path_kinds.Other = false

-- a directory
abbrev pub is_directory : PathKind → Bool
is_directory path_kinds.Nothing = false
is_directory path_kinds.File = false
is_directory path_kinds.Directory = true
is_directory path_kinds.Other = false

-- These are all bytes of a file that the system opened at the path.
abbrev pub IsFileThere : Answers → List ℕ → List ℕ → Type 0
IsFileThere Answered path bytes =
    (there : Option (List ℕ)) × Answered path (file (Ok there)) × IfSome there (λ all. bytes ≡ all)

-- These are the first `size` bytes of such a file. Where none is wanted, it need not be opened.
abbrev pub IsBeginningThere : Answers → List ℕ → ℕ → List ℕ → Type 0
IsBeginningThere Answered path size bytes =
    ((there : Option (List ℕ)) × Answered path (file (Ok there)) × IfSome there (λ all. bytes ≡ take size all))
    ⊎ ((size ≡ 0) × (bytes ≡ []))

-- These are first bytes of such a file, and those that are left of it, where they are known.
abbrev pub IsBegunThere : Answers → List ℕ → List ℕ → Option (List ℕ) → Type 0
IsBegunThere Answered path bytes left =
    (there : Option (List ℕ)) × Answered path (file (Ok there)) × Consumes there left bytes

-- the path of a directory with a slash, by which it is opened
abbrev pub slashed : List ℕ → List ℕ
slashed dir = dir ++ slash ∷ []

-- This is the whole text of the names of a directory that the system opened.
abbrev pub IsListingThere : Answers → List ℕ → List ℕ → Type 0
IsListingThere Answered dir text =
    (there : Option (List ℕ)) × Answered (slashed dir) (directory (Ok there)) × IfSome there (λ all. text ≡ all)

-- A text has exactly the entries of such a directory, in any order.
abbrev pub AreEntriesThere : Answers → List ℕ → List ℕ → Type 0
AreEntriesThere Answered dir names =
    (text : List ℕ) × IsListingThere Answered dir text × IsPermutation (entries_of text) (names_of names)

-- The path is that of a hidden name in a directory.
abbrev pub IsHiddenIn : List ℕ → List ℕ → List ℕ → Type 0
IsHiddenIn dir name path = (path ≡ path_of dir name) × (has_slash name ≡ false) × (is_hidden name ≡ true)

-- The path is that of a hidden name which such a directory hasn't.
abbrev pub IsHiddenAndAbsent : Answers → List ℕ → Type 0
IsHiddenAndAbsent Answered path = (dir : List ℕ) × (name : List ℕ) × (names : List ℕ)
    × IsHiddenIn dir name path × AreEntriesThere Answered dir names × (has_name names name ≡ false)

-- The system said that a file is at the path.
abbrev pub WasFile : Answers → List ℕ → Type 0
WasFile Answered path = ∥ IsLooked Answered path (Ok path_kinds.File) ∥₁

-- The system said that a directory is at the path, or opened it.
abbrev pub WasDirectory : Answers → List ℕ → Type 0
WasDirectory Answered dir =
    ∥ IsLooked Answered dir (Ok path_kinds.Directory)
    ⊎ ((there : Option (List ℕ)) × Answered (slashed dir) (directory (Ok there))) ∥₁

-- The fault is one of an answer about the path. That something is not there is a fault only where it was. Where it was
-- opened, reading it can fail by any fault.
abbrev pub IsFaultOf : Answers → List ℕ → Answer → TreeFault → Type 0
IsFaultOf Answered path (found answer) fault = ShowsKind answer (Err fault)
IsFaultOf Answered path (file answer) fault = WasFile Answered path × IfErr answer (λ e. fault ≡ fault_of e)
IsFaultOf Answered path (directory answer) fault = WasDirectory Answered path × IfErr answer (λ e. fault ≡ fault_of e)

-- the path by which the system is asked
abbrev pub asked_by : List ℕ → Answer → List ℕ
asked_by path (found answer) = path
asked_by path (file answer) = path
asked_by path (directory answer) = slashed path

-- Why what is at a path is not known: an allocation failed, or it is the fault of an answer.
abbrev pub IsFault : Answers → List ℕ → TreeFault → Type 0
IsFault Answered path fault =
    (fault ≡ faults.OutOfMemory)
    ⊎ ((answer : Answer) × Answered (asked_by path answer) answer × IsFaultOf Answered path answer fault)
