-- The absolute path of a directory, by the working directory and the text alone (own; POSIX XBD 4.13, without looking
-- whether anything is there).
use Rattle.std.specs.Prelude.{ℕ, ◌-◌, List, [], ◌∷◌, ◌++◌, Bool, ◌||◌, ◌==◌, codes, bytes_eq, nat_eq, length, map, take}
use Rattle.std.specs.Prelude.{fold, if◌then◌else◌, Option, Some}
use Rattle.std.specs.List.{slice_split, join_with_byte, starts_with}
use Rattle.std.specs.Option.{option_map}
use Rattle.std.specs.Borrow.{Bor}
use Rattle.message.specs.Messages.{Text}

-- what stands between the names of a path
abbrev pub slash : ℕ
slash = 47

-- the parts of a path between its slashes
abbrev pub parts_of : Text → List Text
parts_of path = slice_split (λ b. b == slash) path

-- the path begins at the root
abbrev pub is_absolute : Text → Bool
is_absolute path = starts_with nat_eq path (codes "/")

-- the part stays where it is: it is empty, or a point
abbrev pub stays : Text → Bool
stays part = bytes_eq part [] || bytes_eq part (codes ".")

-- Where a part leads from a place, which is the names from the root to it. Two points lead out of the last, and at the
-- root nowhere.
abbrev pub led : List Text → Text → List Text
led place part =
    if stays part then place
    else if bytes_eq part (codes "..") then take (length place - 1) place
    else place ++ part ∷ []

-- where a path leads from a place
abbrev pub led_along : List Text → Text → List Text
led_along place path = fold led place (parts_of path)

-- the path of a place
abbrev pub path_of : List Text → Text
path_of place = slash ∷ join_with_byte slash place

-- the names of a place, of borrowed texts
abbrev pub names_in : List (Bor Text) → List Text
names_in place = map (λ name. name.now) place

-- The absolute path of a directory: from the root, or from the working directory. A relative one has none where there
-- is no working directory.
abbrev pub absolute_path : Option Text → Text → Option Text
absolute_path working path =
    if is_absolute path then Some (path_of (led_along [] path))
    else option_map (λ directory. path_of (led_along (led_along [] directory) path)) working
