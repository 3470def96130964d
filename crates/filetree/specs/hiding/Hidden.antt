-- Files and directories without what stands at some paths (own): at such a path is no file and no directory.
use Rattle.std.specs.Prelude.{◌≡◌, ◌⊎◌, ℕ, ◌+◌, ◌<◌, ◌≤◌, Bool, true, false, List, [], ◌∷◌, ◌++◌, length, nat_lt}
use Rattle.std.specs.Prelude.{Option, Some, None, bytes_eq, if◌then◌else◌}
use Rattle.std.specs.List.{All, IsDistinct, list_any}
use Rattle.message.specs.Messages.{Text}
use Rattle.filetree.specs.Agreement.{FailsOnlyWhere, Files, InEachPair, Listings}

-- the path is one of these
abbrev pub is_among : List Text → Text → Bool
is_among paths path = list_any (bytes_eq path) paths

-- the map without what it has at these paths
abbrev pub without : {X : Type 0} → List Text → (Text → Option X) → Text → Option X
without paths there path = if is_among paths path then None else there path

-- the pairs of maps that agree, without these paths
pub record AgreesWithout (paths : List Text) (agrees : Files → Listings → Type 0) (files : Files) (folders : Listings)
    : Type 0 where
  pub all_files : Files
  pub all_folders : Listings
  pub agree : agrees all_files all_folders
  pub files_left : files ≡ without paths all_files
  pub folders_left : folders ≡ without paths all_folders

-- What may be left of what stands at a path, by whether it is hidden and whether something was seen there: nothing, if
-- it is hidden; all, if something was seen; else all, or nothing.
abbrev pub MayBeLeft : {X : Type 0} → Bool → Bool → Option X → Option X → Type 0
MayBeLeft true seen there left = left ≡ None
MayBeLeft false true there left = left ≡ there
MayBeLeft false false there left = (left ≡ there) ⊎ (left ≡ None)

-- The pairs of maps that may be left of those that agree, where these paths are hidden and at these something was seen.
pub record MayAgreeWithout (hidden seen : List Text) (agrees : Files → Listings → Type 0) (files : Files)
    (folders : Listings) : Type 0 where
  pub all_files : Files
  pub all_folders : Listings
  pub agree : agrees all_files all_folders
  pub files_left : (path : Text)
      → MayBeLeft (is_among hidden path) (is_among seen path) (all_files path) (files path)
  pub folders_left : (path : Text)
      → MayBeLeft (is_among hidden path) (is_among seen path) (all_folders path) (folders path)

-- nothing was seen at a hidden path
abbrev pub AreApart : List Text → List Text → Type 0
AreApart hidden seen = (path : Text) → is_among hidden path ≡ true → is_among seen path ≡ false

-- the device has failed at each of these paths
abbrev pub AllFailed : (Text → Bool) → List Text → Type 0
AllFailed failed paths = All (λ path. failed path ≡ true) paths

-- how many paths these are: one, or none
abbrev pub count_of : {X : Type 0} → Option X → ℕ
count_of None = 0
count_of (Some path) = 1

-- another path can be hidden: there is one, and fewer than a thousand are hidden
abbrev pub hides_more : {X : Type 0} → List X → Option X → Bool
hides_more hidden None = false
hides_more hidden (Some path) = nat_lt (length hidden) 1000

-- the hidden paths, with that one if it can be
abbrev pub hidden_with : {X : Type 0} → List X → Option X → List X
hidden_with hidden None = hidden
hidden_with hidden (Some path) = if nat_lt (length hidden) 1000 then hidden ++ path ∷ [] else hidden

-- ---- paths that are read once more

-- each pair that agrees has the same file at the path, or has none there
abbrev pub HasOneFile : (Files → Listings → Type 0) → Text → Type 0
HasOneFile agrees path = (file : Option Text) × InEachPair agrees (λ files folders. files path ≡ file)

-- Some of these paths are hidden besides those before: each once, no more than how often the device has failed in
-- between, and no more than a thousand in all.
pub record HidesMore (paths : List Text) (before now : ℕ) (older hidden : List Text) : Type 0 where
  pub more : List Text
  pub order : hidden ≡ older ++ more
  pub some : All (λ path. is_among paths path ≡ true) more
  pub counted : before + length more ≤ now
  pub once : IsDistinct bytes_eq older → IsDistinct bytes_eq hidden
  pub most : (more ≡ []) ⊎ (length hidden ≤ 1000)

-- Each of these paths is hidden, or one file alone is left there; and each is hidden at which the device has failed in
-- between.
pub record AreAllHidden (paths : List Text) (agrees : Files → Listings → Type 0) (before now : Text → Bool)
    (hidden : List Text) : Type 0 where
  pub left : All (λ path. (is_among hidden path ≡ true) ⊎ HasOneFile agrees path) paths
  pub failed : FailsOnlyWhere before now (λ path. is_among hidden path ≡ true)

-- The device has failed in between at one of these paths more than are hidden, which are a thousand.
pub record IsOneTooMany (paths : List Text) (has_failed : Text → Bool) (before now : ℕ) (older hidden : List Text)
    : Type 0 where
  pub path : Text
  pub among : is_among paths path ≡ true
  pub failed : has_failed path ≡ true
  pub shown : is_among hidden path ≡ false
  pub counted : before + length hidden < now + length older
  pub most : 1000 ≤ length hidden
