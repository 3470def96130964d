-- What the answers of a tree of files say: pairs of maps from paths to files and directories, those that agree with the
-- answers, and where the device failed. Paths and bytes are as POSIX has them.
use Rattle.std.specs.Prelude.{◌≡◌, ◌⊎◌, ℕ, ◌<◌, ◌≤◌, Bool, true, false, List, [], length, map, nat_eq, Option, Some}
use Rattle.std.specs.Prelude.{None, Result, Ok, Err, IsErrOf, if◌then◌else◌, string_bytes, vec_items}
use Rattle.std.specs.declared.alloc.Global.{Global}
use Rattle.std.specs.List.{starts_with}
use Rattle.std.specs.Option.{option_map}
use Rattle.std.specs.Str.{bytes_eq}
use Rattle.std.specs.declared.string.String.{String}
use Rattle.std.specs.declared.vec.Vec.{Vec}
use Rattle.message.specs.Refusals.{NumberedText, about}
use Rattle.message.specs.declared.refusals.RefusalKind.TheVariants as kinds
use Rattle.filetree.specs.declared.tree.TreeFault.{TreeFault}
use Rattle.filetree.specs.declared.tree.TreeFault.TheVariants.{OutOfMemory, Device}

-- the bytes of the file at each path
abbrev pub Files : Type 0
Files = List ℕ → Option (List ℕ)

-- the names in the directory at each path
abbrev pub Listings : Type 0
Listings = List ℕ → Option (List (List ℕ))

-- an answer of `read`, as a value of the map of files
abbrev pub file_answer : Option (Vec ℕ Global) → Option (List ℕ)
file_answer answer = option_map (λ bytes. vec_items bytes) answer

-- an answer of `entries`, as a value of the map of directories
abbrev pub listing_answer : Option (Vec (String Global) Global) → Option (List (List ℕ))
listing_answer answer = option_map (λ names. map string_bytes (vec_items names)) answer

-- a file is there that begins with these bytes
abbrev pub begins_with : List ℕ → Option (List ℕ) → Bool
begins_with prefix None = false
begins_with prefix (Some bytes) = starts_with nat_eq bytes prefix

-- two files have the same first bytes, up to this size
abbrev pub HaveSamePrefix : ℕ → Option (List ℕ) → Option (List ℕ) → Type 0
HaveSamePrefix size file other = (prefix : List ℕ) → length prefix ≤ size
    → begins_with prefix file ≡ begins_with prefix other

-- P holds of each pair of maps that agrees
abbrev pub InEachPair : (Files → Listings → Type 0) → (Files → Listings → Type 0) → Type 0
InEachPair agrees P = (files : Files) (listings : Listings) → agrees files listings → P files listings

-- Each pair that agrees now agreed before: later answers only exclude pairs.
abbrev pub Narrows : (Files → Listings → Type 0) → (Files → Listings → Type 0) → Type 0
Narrows before now = InEachPair now (λ files listings. before files listings)

-- What a call that reads a tree keeps: the tree stands for no more file systems than before, and no failure is
-- forgotten.
pub record ReadsOn {T : Type 0} (agrees : T → Files → Listings → Type 0) (failures : T → ℕ) (old new : T)
    : Type 0 where
  pub narrows : Narrows (agrees old) (agrees new)
  pub counts_failures : failures old ≤ failures new

-- some pair of maps agrees
abbrev pub IsSatisfiable : (Files → Listings → Type 0) → Type 0
IsSatisfiable agrees = (files : Files) × (listings : Listings) × agrees files listings

-- By the counts of failures before and after a call: it answers `Device` only where the device failed in it.
pub record FailsOnlyByDevice {T : Type 0} (before now : ℕ) (result : Result T TreeFault) : Type 0 where
  pub counts_failures : before ≤ now
  pub device : IsErrOf result Device → before < now

-- the fault is the device's
abbrev pub is_device : TreeFault → Bool
is_device OutOfMemory = false
is_device Device = true

-- By the paths with failures before and after a call: this one is among them, no other is new, and none is forgotten.
pub record FailedAt (before now : List ℕ → Bool) (path : List ℕ) : Type 0 where
  pub here : now path ≡ true
  pub alone : (p : List ℕ) → now p ≡ true → (before p ≡ true) ⊎ (p ≡ path)
  pub kept : (p : List ℕ) → before p ≡ true → now p ≡ true

-- The test says whether the call failed by the device. Then it failed at one path, which has the property; else
-- nowhere.
abbrev pub FailsIf : Bool → (List ℕ → Bool) → (List ℕ → Bool) → (List ℕ → Type 0) → Type 0
FailsIf false before now Where = now ≡ before
FailsIf true before now Where = (path : List ℕ) × FailedAt before now path × Where path

-- A call that answers a failure of the device failed at one path, which has the property; after any other answer the
-- paths with failures are those from before.
abbrev pub FailsAt : {T E : Type 0} → (E → Bool) → (List ℕ → Bool) → (List ℕ → Bool) → Result T E →
    (List ℕ → Type 0) → Type 0
FailsAt is_failure before now (Ok x) Where = now ≡ before
FailsAt is_failure before now (Err e) Where = FailsIf (is_failure e) before now Where

-- By the paths with failures before and after several calls: each new one has the property.
abbrev pub FailsOnlyWhere : (List ℕ → Bool) → (List ℕ → Bool) → (List ℕ → Type 0) → Type 0
FailsOnlyWhere before now Where = (path : List ℕ) → now path ≡ true → (before path ≡ true) ⊎ Where path

-- Such a call failed at a path that it looks at, by each pair of maps that agrees with the tree after it.
abbrev pub FailsWhere : {T X E : Type 0} → (E → Bool) → (T → Files → Listings → Type 0) → (T → List ℕ → Bool) → T → T
    → Result X E → (Files → Listings → List ℕ → Type 0) → Type 0
FailsWhere is_failure agrees failed old new result LooksAt =
    FailsAt is_failure (failed old) (failed new) result (λ at.
    InEachPair (agrees new) (λ files listings. LooksAt files listings at))

-- Several calls failed only at paths that they look at, by each pair of maps that agrees with the tree after them.
abbrev pub FailsOnlyAt : {T : Type 0} → (T → Files → Listings → Type 0) → (T → List ℕ → Bool) → T → T
    → (Files → Listings → List ℕ → Type 0) → Type 0
FailsOnlyAt agrees failed old new LooksAt =
    FailsOnlyWhere (failed old) (failed new) (λ at. InEachPair (agrees new)
    (λ files listings. LooksAt files listings at))

-- the refusal that each fault is
abbrev pub refusal_of : TreeFault → NumberedText
refusal_of OutOfMemory = about kinds.MemoryForSearch []
refusal_of Device = about kinds.Device []

-- the map with this value at this path
abbrev pub with_at : {X : Type 0} → (List ℕ → Option X) → List ℕ → X → List ℕ → Option X
with_at there path x p = if bytes_eq path p then Some x else there p

-- the map's value where an answer may be cached: that answer, or else none
abbrev pub cached : {V W : Type 0} → (V → Option W) → Option V → Option W
cached view None = None
cached view (Some answer) = view answer
