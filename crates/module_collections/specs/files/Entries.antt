-- What is at paths, where a link isn't followed, and where links lead (POSIX XBD 3 and 4.13).
use Rattle.std.specs.Prelude.{ℕ, zero, suc, Bool, true, false, [], ◌∷◌, ◌++◌, ◌==◌, Option, Some, None}
use Rattle.std.specs.Prelude.{if◌then◌else◌}
use Rattle.std.specs.List.{list_any}
use Rattle.envvars.specs.Texts.{Text}

-- what is at a path; `other` is a pipe, a socket or a device
pub data Entry : Type 0 where
  nothing : Entry
  file : (bytes : Text) → Entry
  folder : Entry
  link : (target : Text) → Entry
  other : Entry

-- what is at each path
abbrev pub Entries : Type 0
Entries = Text → Entry

abbrev pub is_there : Entry → Bool
is_there nothing = false
is_there (file bytes) = true
is_there folder = true
is_there (link target) = true
is_there other = true

abbrev pub is_file : Entry → Bool
is_file nothing = false
is_file (file bytes) = true
is_file folder = false
is_file (link target) = false
is_file other = false

-- the bytes of a file
abbrev pub bytes_in : Entry → Option Text
bytes_in nothing = None
bytes_in (file bytes) = Some bytes
bytes_in folder = None
bytes_in (link target) = None
bytes_in other = None

abbrev pub slash : ℕ
slash = 47

-- the path of a name in a folder
abbrev pub in_folder : Text → Text → Text
in_folder path name = path ++ slash ∷ name

abbrev pub has_slash : Text → Bool
has_slash path = list_any (λ b. b == slash) path

-- a path up to its last slash, with it
abbrev pub folder_of : Text → Text
folder_of [] = []
folder_of (b ∷ bs) = if has_slash (b ∷ bs) then b ∷ folder_of bs else []

-- the path of this name in the folder of a path
abbrev pub beside : Text → Text → Text
beside path name = folder_of path ++ name

-- the path begins at the root
abbrev pub is_absolute : Text → Bool
is_absolute [] = false
is_absolute (b ∷ bs) = b == slash

-- where the link at a path leads by its target
abbrev pub behind : Text → Text → Text
behind path target = if is_absolute target then target else beside path target

-- where a path leads by what is at it: a link leads on, all else is there
abbrev pub led_on : (Text → Option Text) → Text → Entry → Option Text
led_on on path nothing = Some path
led_on on path (file bytes) = Some path
led_on on path folder = Some path
led_on on path (link target) = on (behind path target)
led_on on path other = Some path

-- where a path leads, through so many links at most
abbrev pub leads : ℕ → Entries → Text → Option Text
leads zero entries path = led_on (λ next. None) path (entries path)
leads (suc n) entries path = led_on (λ next. leads n entries next) path (entries path)

-- how many links are followed at most
abbrev pub max_links : ℕ
max_links = 40

-- the path at which links from this one end
abbrev pub end_of : Entries → Text → Option Text
end_of entries path = leads max_links entries path

-- the bytes of the file at the end
abbrev pub bytes_at_end : Entries → Option Text → Option Text
bytes_at_end entries None = None
bytes_at_end entries (Some path) = bytes_in (entries path)

-- the bytes of the file that a path leads to
abbrev pub bytes_at : Entries → Text → Option Text
bytes_at entries path = bytes_at_end entries (end_of entries path)
